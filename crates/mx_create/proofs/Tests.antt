-- That the drafts of a block are tested as they are defined.
use Rattle.std.proofs.Common.{◌≡◌, ◌==◌, true, List, [], ◌∷◌, length, Option, Some, None, is_none, nat_le, nat_lt, is_some, refl, ◌∙◌}
use Rattle.std.specs.List.{AllByRecursion, list_all}
use Rattle.std.proofs.lemmas.Bool.{and_parts, and_from, eqb-true, ltb-true, leb-true, lt-ltb, le-leb}
use Rattle.mx_event.specs.declared.draft.Draft.{Draft}
use Rattle.mx_core.specs.Limits.{most_drawn}
use Rattle.mx_create.specs.Admitted.{IsBlock, IsUnplaced, is_block, is_unplaced}

none_from : {A : Type 0} (o : Option A) → is_none o ≡ true → o ≡ None
none_from None e = refl
none_from (Some x) e = absurd cc

unplaced_from : (d : Draft) → is_unplaced d ≡ true → IsUnplaced d
unplaced_from d h =
    let key = and_parts (is_some d.state_key) _ h in
    let writer = and_parts (d.room.writer == 0) _ key.1 in
    let at = and_parts (d.room.at == 0) _ writer.1 in
    let w : d.room.writer ≡ 0 = eqb-true d.room.writer 0 writer.0 in
    let a : d.room.at ≡ 0 = eqb-true d.room.at 0 at.0 in
    record { key = key.0; room = λ i. record { writer = w i; at = a i }; txn = none_from d.txn at.1 }

all_unplaced : (drafts : List Draft) → list_all is_unplaced drafts ≡ true → AllByRecursion IsUnplaced drafts
all_unplaced [] h = tt
all_unplaced (d ∷ ds) h = let p = and_parts (is_unplaced d) (list_all is_unplaced ds) h in (unplaced_from d p.0, all_unplaced ds p.1)

pub block_from : (drafts : List Draft) → is_block drafts ≡ true → IsBlock drafts
block_from drafts h =
    let some = and_parts (nat_lt 0 (length drafts)) _ h in
    let most = and_parts (nat_le (length drafts) most_drawn) _ some.1 in
    record { some = ltb-true 0 (length drafts) some.0; most = leb-true (length drafts) most_drawn most.0; new = all_unplaced drafts most.1 }

unplaced_test : (d : Draft) → IsUnplaced d → is_unplaced d ≡ true
unplaced_test d h =
    let here : is_unplaced d ≡ is_some d.state_key = rw (h.room, h.txn) cc in
    here ∙ h.key

test_all : (drafts : List Draft) → AllByRecursion IsUnplaced drafts → list_all is_unplaced drafts ≡ true
test_all [] h = refl
test_all (d ∷ ds) h = and_from (is_unplaced d) (list_all is_unplaced ds) (unplaced_test d h.0) (test_all ds h.1)

pub block_test : (drafts : List Draft) → IsBlock drafts → is_block drafts ≡ true
block_test drafts h =
    and_from (nat_lt 0 (length drafts)) _ (lt-ltb 0 (length drafts) h.some)
    (and_from (nat_le (length drafts) most_drawn) _ (le-leb (length drafts) most_drawn h.most) (test_all drafts h.new))
