-- `Members` as a type that may hold the type that holds it.
use mathlib.Core.Path.{◌≡◌, refl, sym, ap, ◌∙◌}
use mathlib.Core.List.{List, [], ◌∷◌, map}
use mathlib.Core.Bool.{Bool-set}
use mathlib.Core.Former.{Former, this, list, via, children, const, pair}
use Prim.Native.Nat.{ℕ}
use base.Stored.{code_map, gcons, coded_list, coded_ℕ}
use denote.RattleType.{RattleType}
use denote.HoleLaws.{Alike}
use denote.HolePlaces.{Recodes, struct_places, laid}
use denote.Hole.Carrier.{listed}
use denote.Hole.Fix.{over}
use denote.Param.Weighed.{Weighed, w_list, w_pair, w_const, w_via}
use denote.Model.Placed.{view_places}
use Rattle.mx_ids.specs.formers.seq.Seq as seq
use Rattle.mx_json.specs.Keys.{keys_of, are_ordered, member_code}
use Rattle.mx_json.specs.declared.members.Member.{Member}
use Rattle.mx_json.specs.declared.members.Members.TheInside.{Inside}
use Rattle.mx_json.specs.declared.members.Members.TheView.{view, invariant}
use Rattle.mx_json.specs.contracts.members.Member as M
use Rattle.mx_json.specs.contracts.members.Members as C
use Rattle.mx_json.specs.contracts.members.Members.TheInside as I

abbrev one : Former {0} → Former {0}
one g = via (pair (const (List ℕ)) g) (λ X. Member (g.Of X)) (λ X m. (m.key, m.value)) (λ X v. record { key = v.0; value = v.1 }) (λ X m. refl) (λ X v. refl)

abbrev pub the_former : Former {0} → Former {0}
the_former g = list (one g)

abbrev pub the_weighed : {g : Former {0}} → Weighed g → Weighed (the_former g)
the_weighed {g} w = w_list (w_via (w_pair (w_const (List ℕ)) w) (λ X. Member (g.Of X)) (λ X m. (m.key, m.value)) (λ X v. record { key = v.0; value = v.1 }) (λ X m. refl) (λ X v. refl))

pub the_empty : List (Member ⊥)
the_empty = []

abbrev pub the_items : (X : Type 0) → List (Member X) → List X
the_items X ms = map (λ m. m.value) ms

pub the_items_listed : (X : Type 0) (ms : List (Member X)) → listed _ (children (the_former this) X ms) ≡ the_items X ms
the_items_listed X [] = refl
the_items_listed X (m ∷ ms) = ap (λ l. m.value ∷ l) (the_items_listed X ms)

abbrev fields : Former {0}
fields = via (list (one this)) Inside (λ X a. a.entries) (λ X v. record { entries = v }) (λ X a. refl) (λ X v. refl)

abbrev with_value : {X Y : Type 0} → (X → Y) → Member X → Member Y
with_value h m = record { key = m.key; value = h m.value }

same_keys : {X Y : Type 0} (h : X → Y) (ms : List (Member X)) → keys_of (map (with_value h) ms) ≡ keys_of ms
same_keys h [] = refl
same_keys h (m ∷ ms) = ap (λ ks. m.key ∷ ks) (same_keys h ms)

module _ (R S : RattleType) (h : R.Denot → S.Denot) where
  member_places : Alike R S h → Alike (M.the_row R) (M.the_row S) (with_value h)
  member_places a = struct_places (M.the_type R) (M.the_type S) ((λ k. k), (h, tt)) _ (λ d. refl) refl ((refl, (λ n. refl, λ n. refl)), (laid _ _ _ a, tt))

  pub the_places : Alike R S h → Alike (C.the_row R) (C.the_row S) ((the_former this).map R.Denot S.Denot h)
  the_places a = view_places fields (list (one this)) view (λ X Y k u. refl) (λ X u. refl) R.Denot S.Denot h (C.the_row R).coded (C.the_row S).coded
      (invariant R.Denot) (invariant S.Denot) (λ u. Bool-set _ _) (λ u. Bool-set _ _)
      (λ u e. ap are_ordered (same_keys h u.entries) ∙ e) (λ u e. sym (ap are_ordered (same_keys h u.entries)) ∙ e)
      (over (I.the_row R)) (over (I.the_row S))
      (struct_places (I.the_type R) (I.the_type S) (map (with_value h), tt) _ (λ d. refl) refl (laid _ _ _ (seq.the_places (M.the_row R) (M.the_row S) (with_value h) (member_places a)), tt))

  pub the_codes_placed : Recodes R S h → Recodes (C.the_row R) (C.the_row S) ((the_former this).map R.Denot S.Denot h)
  the_codes_placed e d = sym (code_map (member_code R.coded).code (member_code S.coded).code (with_value h) (λ m i. gcons ((coded_list coded_ℕ).code m.key) (sym (e m.value) i)) d)
