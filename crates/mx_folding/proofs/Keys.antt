-- Events under a key.
use Rattle.std.proofs.Common.{◌≡◌, Bool, true, false, ◌&&◌, List, Option, Some, None, is_some, refl, ap, sym, ◌∙◌}
use Rattle.std.proofs.lemmas.Bool.{and_parts, and_from, false≢true}
use Rattle.mx_folding.specs.Rooms.{Room, IsRoom, key_is, is_state, is_kept, has, sets_same, wrote}

-- what passes a test is there
some_key : {K : Type 0} (test : K → Bool) (o : Option K) → key_is test o ≡ true → (k : K) × (o ≡ Some k) × (test k ≡ true)
some_key test None h = absurd (false≢true h)
some_key test (Some k) h = (k, refl, h)

module _ {E K : Type 0} (r : Room E K) where
  pub has_state : (k : K) (e : E) → has r k e ≡ true → is_state r e ≡ true
  has_state k e h =
      let found = some_key (r.same k) (r.key e) (and_parts (key_is (r.same k) (r.key e)) (r.passes k) h).0 in
      ap is_some found.1

  module _ (es : List E) (room : IsRoom r es) where
    pub has_keyed : (k : K) (e : E) → has r k e ≡ true → r.key e ≡ Some k
    has_keyed k e h =
        let found = some_key (r.same k) (r.key e) (and_parts (key_is (r.same k) (r.key e)) (r.passes k) h).0 in
        found.1 ∙ ap Some (sym ((room.keys k found.0).0 found.2))

    pub has_kept : (k : K) (e : E) → has r k e ≡ true → is_kept r e ≡ true
    has_kept k e h =
        and_from (is_state r e) (r.keeps e) (has_state k e h)
        (room.kept k e (has_keyed k e h) ∙ (and_parts (key_is (r.same k) (r.key e)) (r.passes k) h).1)

    pub one_key : (k : K) (e d : E) → has r k e ≡ true → sets_same r e d ≡ has r k d
    one_key k e d h =
        ap (key_is (λ l. key_is (r.same l) (r.key d))) (has_keyed k e h)
        ∙ sym (and_true (key_is (r.same k) (r.key d)) (r.passes k) (and_parts (key_is (r.same k) (r.key e)) (r.passes k) h).1) where
          and_true : (a b : Bool) → b ≡ true → (a && b) ≡ a
          and_true true b p = p
          and_true false b p = refl

    pub red_has : (k : K) (e : E) → has r k (r.red e) ≡ has r k e
    red_has k e = ap (λ o. key_is (r.same k) o && r.passes k) (room.red_key e)

    pub red_wrote : (k : K) (e : E) → wrote r k (r.red e) ≡ wrote r k e
    red_wrote k e = ap (r.same k) (room.red_sender e)
