-- What stands in the state under the keys of some senders is the member events that a page sends.
use Rattle.std.proofs.Common.{◌≡◌, ℕ, Bool, true, false, ◌&&◌, List, Option, Some, None, filter, map, refl, ap, sym, ◌∙◌, inl, inr}
use Rattle.std.proofs.lemmas.Bool.{cases_Bool}
use Rattle.std.specs.Cmp.Lexicographic.{nat_list_eq_equiv}
use Rattle.std.specs.List.{list_any}
use Rattle.std.specs.Str.{bytes_eq}
use Rattle.mx_window.proofs.Each.{filter-same, list_any-map, list_any-none, list_any-same, AllByRecursion-every, AllByRecursion-filter}
use Rattle.mx_window.specs.Windows.{stand_from}
use Rattle.mx_event.specs.Shown.{position_of}
use Rattle.mx_parts.specs.Picks.{key_pair, sender_pair}
use Rattle.mx_parts.specs.Sections.{AreListed, IsListed}
use Rattle.mx_parts.specs.Under.{is_under}
use Rattle.mx_parts.specs.declared.under_keys.StateKey.{StateKey}
use Rattle.mx_parts.proofs.Shown.{states_listed}
use Rattle.mx_event.specs.Kinds.{has_key, is_of, member_type}
use Rattle.mx_event.specs.declared.event.Event.{Event}
use Rattle.mx_folding.specs.Parts.{is_sender, members_of, state_list}
use Rattle.mx_folding.specs.Rooms.{key_is}
use Rattle.mx_parts.specs.Readings.{events_of, room_in}
use Rattle.mx_parts.specs.declared.reading.Reading.{Reading}
use Rattle.mx_view.specs.Rooms.{Key, key_of}

none_any : {A : Type 0} (xs : List A) → list_any (λ x. false) xs ≡ false
none_any xs = list_any-none (λ x. false) xs (AllByRecursion-every (λ x. ◌≡◌ {A = Bool} false false) (λ x. refl) xs)

and_no : (b : Bool) → (b && false) ≡ false
and_no true = refl
and_no false = refl

-- a member event has the key of the sender of one of these events
sent_by : (kind key : List ℕ) (sent : List Event)
    → list_any (λ (d : Event). bytes_eq kind member_type && bytes_eq key d.sender) sent
    ≡ (bytes_eq kind member_type && list_any (λ (d : Event). bytes_eq member_type kind && bytes_eq d.sender key) sent)
sent_by kind key sent = elim (cases_Bool (bytes_eq kind member_type)) [
  | inl is ↦
      let turned : bytes_eq member_type kind ≡ true = nat_list_eq_equiv.symm member_type kind ∙ is in
      ap (λ b. list_any (λ (d : Event). b && bytes_eq key d.sender) sent) is
      ∙ list_any-same (λ (d : Event). bytes_eq key d.sender) (λ (d : Event). bytes_eq d.sender key) (λ d. nat_list_eq_equiv.symm key d.sender) sent
      ∙ sym (ap (λ b. b && list_any (λ (d : Event). bytes_eq member_type kind && bytes_eq d.sender key) sent) is
      ∙ ap (λ b. list_any (λ (d : Event). b && bytes_eq d.sender key) sent) turned)
  | inr is ↦
      ap (λ b. list_any (λ (d : Event). b && bytes_eq key d.sender) sent) is ∙ none_any sent
      ∙ sym (ap (λ b. b && list_any (λ (d : Event). bytes_eq member_type kind && bytes_eq d.sender key) sent) is)
]

module _ (v : Reading) (sent : List Event) where
  by_key : (e : Event) (o : Option (List ℕ)) → e.state_key ≡ o
      → list_any (λ (d : Event). has_key member_type d.sender e) sent ≡ (key_is (room_in v).member (key_of e) && key_is (is_sender (room_in v) sent) (key_of e))
  by_key e None is =
      rw is (list_any-same (λ (d : Event). is_of member_type e && false) (λ (d : Event). false) (λ d. and_no (is_of member_type e)) sent ∙ none_any sent)
  by_key e (Some key) is = rw is (sent_by e.kind key sent)

  under : (keys : List StateKey) → map key_pair keys ≡ map sender_pair sent → (e : Event)
      → is_under keys e ≡ (key_is (room_in v).member (key_of e) && key_is (is_sender (room_in v) sent) (key_of e))
  under keys pairs e =
      sym (list_any-map (λ (k : Key). has_key k.0 k.1 e) key_pair keys)
      ∙ ap (list_any (λ (k : Key). has_key k.0 k.1 e)) pairs
      ∙ list_any-map (λ (k : Key). has_key k.0 k.1 e) sender_pair sent
      ∙ by_key e e.state_key refl

  pub named_is : (keys : List StateKey) → map key_pair keys ≡ map sender_pair sent → (q : ℕ)
      → filter (is_under keys) (state_list (room_in v) (events_of v) q) ≡ members_of (room_in v) (events_of v) q sent
  named_is keys pairs q =
      filter-same (is_under keys) (λ e. key_is (room_in v).member (key_of e) && key_is (is_sender (room_in v) sent) (key_of e)) (state_list (room_in v) (events_of v) q)
      (AllByRecursion-every
      (λ (e : Event). is_under keys e ≡ (key_is (room_in v).member (key_of e) && key_is (is_sender (room_in v) sent) (key_of e)))
      (under keys pairs) (state_list (room_in v) (events_of v) q))

pub members_listed : (v : Reading) → stand_from position_of 1 v.events.now ≡ true → (q : ℕ) (sent : List Event) → AreListed v (members_of (room_in v) (events_of v) q sent)
members_listed v placed q sent =
    AllByRecursion-filter (IsListed v) (λ (e : Event). key_is (room_in v).member (key_of e) && key_is (is_sender (room_in v) sent) (key_of e))
    (state_list (room_in v) (events_of v) q) (states_listed v placed q)
