-- Receipts by event: one more, and the events of some.
use Rattle.std.proofs.Common.{◌≡◌, ℕ, Bool, true, false, List, [], ◌∷◌, ◌++◌, length, ◌==◌, map, codes, nat_cmp, Bor, Ordering, Less, Equal, Greater, refl, ap, sym, ◌∙◌}
use Rattle.std.specs.BTreeMap.{insert_entry}
use Rattle.std.specs.Ordering.{match_ordering}
use Rattle.mx_json.specs.declared.value.Json.{Json}
use Rattle.mx_receipt.specs.declared.receipt.Receipt.{Receipt}
use Rattle.mx_sync_json.specs.Groups.{event_now}
use Rattle.mx_sync_json.specs.Objects.{data_form}
use Rattle.mx_sync_json.specs.Receipts.{content_form, receipt_events}

one_place : (e : ℕ × Bor Receipt) (es : List (ℕ × Bor Receipt)) (k : ℕ) (v : Bor Receipt) (o : Ordering)
    → map event_now (insert_entry nat_cmp es k v) ≡ insert_entry nat_cmp (map event_now es) k v.now
    → map event_now (match_ordering o ((k, v) ∷ e ∷ es) ((e.0, v) ∷ es) (e ∷ insert_entry nat_cmp es k v))
    ≡ match_ordering o ((k, v.now) ∷ event_now e ∷ map event_now es) ((e.0, v.now) ∷ map event_now es)
    (event_now e ∷ insert_entry nat_cmp (map event_now es) k v.now)
one_place e es k v Less later = refl
one_place e es k v Equal later = refl
one_place e es k v Greater later = ap (λ l. event_now e ∷ l) later

pub insert_event : (es : List (ℕ × Bor Receipt)) (k : ℕ) (v : Bor Receipt)
    → map event_now (insert_entry nat_cmp es k v) ≡ insert_entry nat_cmp (map event_now es) k v.now
insert_event [] k v = refl
insert_event (e ∷ es) k v = one_place e es k v (nat_cmp k e.0) (insert_event es k v)

pub some_events : (server : List ℕ) (xs : List Receipt) (blank : Bool) (content event : Json) (start made : List Json) → blank ≡ (length xs == 0)
    → blank ≡ false
    → content ≡ content_form server xs → event ≡ data_form (codes "m.receipt") content → start ≡ [] → made ≡ start ++ (event ∷ [])
    → made ≡ receipt_events server xs
some_events server [] blank content event start made is there content_is event_is start_is made_is = let h : true ≡ false = sym is ∙ there in absurd cc
some_events server (x ∷ xs) blank content event start made is there content_is event_is start_is made_is =
    made_is ∙ ap (λ l. l ++ event ∷ []) start_is ∙ ap (λ (j : Json). j ∷ []) (event_is ∙ ap (data_form (codes "m.receipt")) content_is)
