-- What a picker picks of the state is what a reply picks.
use Rattle.std.proofs.Common.{◌≡◌, ℕ, Bool, true, false, not, nat_lt, nat_le, ◌&&◌, ◌||◌, List, [], ◌∷◌, is_some, Option, Some, None, refl, ap, ap₂, sym, ◌∙◌, inl, inr}
use Rattle.std.proofs.lemmas.Bool.{cases_lt, lt-ltb, le-ltb, le-leb, lt-leb}
use Rattle.std.specs.Cmp.Lexicographic.{nat_list_eq_equiv}
use Rattle.std.specs.List.{list_any}
use Rattle.std.specs.Str.{bytes_eq}
use Rattle.mx_event.specs.Kinds.{is_of, member_type}
use Rattle.mx_event.specs.declared.event.Event.{Event}
use Rattle.mx_folding.specs.Parts.{is_omitted}
use Rattle.mx_folding.specs.Visible.{stayed_joined}
use Rattle.mx_view.specs.Readings.{viewer_of}
use Rattle.mx_view.specs.Rooms.{Sieve, room_of}
use Rattle.mx_lazy.specs.Picks.{HasSenders, IsStayed, PicksAre, is_hero, picked_as, pick_of}
use Rattle.mx_lazy.specs.declared.picker.Pick.{Pick}
use Rattle.mx_lazy.specs.declared.picker.Pick.TheVariants as kind
use Rattle.mx_lazy.specs.declared.picker.Picker.{Picker}

not_le : (a b : ℕ) → not (nat_le a b) ≡ nat_lt b a
not_le a b = elim (cases_lt b a) [
  | inl h ↦ ap not (lt-leb a b h) ∙ sym (lt-ltb b a h)
  | inr h ↦ ap not (le-leb a b h) ∙ sym (le-ltb b a h)
]

not_lt : (a b : ℕ) → not (nat_lt a b) ≡ nat_le b a
not_lt a b = elim (cases_lt a b) [
  | inl h ↦ ap not (lt-ltb a b h) ∙ sym (lt-leb b a h)
  | inr h ↦ ap not (le-ltb a b h) ∙ sym (le-leb b a h)
]

not_all : (r a b c : Bool) → not (not r && (a && (b && c))) ≡ (r || (not a || (not b || not c)))
not_all true a b c = refl
not_all false false b c = refl
not_all false true false c = refl
not_all false true true c = refl

and_any : {X : Type 0} (c : Bool) (test : X → Bool) (xs : List X) → list_any (λ x. c && test x) xs ≡ (c && list_any test xs)
and_any true test xs = refl
and_any false test [] = refl
and_any false test (x ∷ xs) = and_any false test xs

new_same : (lazy m b s h : Bool) → (not lazy || (not m || (b || (s || h)))) ≡ (not lazy || (not m || ((m && b) || ((m && s) || (m && h)))))
new_same lazy true b s h = refl
new_same lazy false b s h = refl

later_same : (after lazy m s h o : Bool) → (after || (lazy && (m && ((s || h) && o)))) ≡ (after || (lazy && (m && (((m && s) || (m && h)) && o))))
later_same after lazy true s h o = refl
later_same after lazy false s h o = refl

turn : (xs ys : List ℕ) → bytes_eq xs ys ≡ bytes_eq ys xs
turn xs ys = nat_list_eq_equiv.symm xs ys

-- a member event has the key of the sender of one of these events
sent_by : (kind key : List ℕ) (sent : List Event)
    → (bytes_eq kind member_type && list_any (λ (d : Event). bytes_eq d.sender key) sent) ≡ list_any (λ (d : Event). bytes_eq member_type kind && bytes_eq d.sender key) sent
sent_by kind key sent =
    ap (λ b. b && list_any (λ (d : Event). bytes_eq d.sender key) sent) (turn kind member_type)
    ∙ sym (and_any (bytes_eq member_type kind) (λ (d : Event). bytes_eq d.sender key) sent)

own_key : (kind key user : List ℕ) → (bytes_eq kind member_type && bytes_eq key user) ≡ (bytes_eq member_type kind && bytes_eq user key)
own_key kind key user = ap₂ (λ a b. a && b) (turn kind member_type) (turn key user)

not_omitted : (f : Sieve) (user : List ℕ) (es : List Event) (since base : ℕ) (redundant stayed : Bool) (e : Event) → stayed ≡ stayed_joined (viewer_of user) es base since
    → (redundant || (nat_lt since e.id.at || (not stayed || nat_le e.id.at base))) ≡ not (is_omitted (room_of f user es) redundant base since e)
not_omitted f user es since base redundant stayed e is =
    ap (λ b. redundant || (nat_lt since e.id.at || (not b || nat_le e.id.at base))) is
    ∙ sym (not_all redundant (nat_le e.id.at since) (stayed_joined (viewer_of user) es base since) (nat_lt base e.id.at)
    ∙ ap₂ (λ a c. redundant || (a || (not (stayed_joined (viewer_of user) es base since) || c))) (not_le e.id.at since) (not_lt base e.id.at))

module _ (f : Sieve) (es sent : List Event) (p : Picker) (lazy : p.lazy ≡ f.lazy) (senders : HasSenders p.senders sent) (e : Event) where
  by_key : (k : Pick) → IsStayed p.user.now es k → (o : Option (List ℕ)) → e.state_key ≡ o → is_some o ≡ true → picked_as k p e ≡ pick_of (room_of f p.user.now es) p.heroes.now k sent e
  by_key k stayed None is some = absurd cc
  by_key kind.New stayed (Some key) is some = rw is (
      ap₂ (λ l s. not l || (not (is_of member_type e) || (bytes_eq key p.user.now || (s || is_hero p.heroes.now key)))) lazy (senders key)
      ∙ new_same f.lazy (is_of member_type e) (bytes_eq key p.user.now) (list_any (λ (d : Event). bytes_eq d.sender key) sent) (is_hero p.heroes.now key)
      ∙ ap₂ (λ b s. not f.lazy || (not (is_of member_type e) || (b || (s || (is_of member_type e && is_hero p.heroes.now key))))) (own_key e.kind key p.user.now) (sent_by e.kind key sent))
  by_key (kind.Later from since base redundant stays) stayed (Some key) is some = rw is (
      ap₂ (λ l s. nat_lt from e.id.at || (l && (is_of member_type e && ((s || is_hero p.heroes.now key) && (redundant || (nat_lt since e.id.at || (not stays || nat_le e.id.at base))))))) lazy (senders key)
      ∙ ap (λ o. nat_lt from e.id.at || (f.lazy && (is_of member_type e && ((list_any (λ (d : Event). bytes_eq d.sender key) sent || is_hero p.heroes.now key) && o)))) (not_omitted f p.user.now es since base redundant stays e stayed)
      ∙ later_same (nat_lt from e.id.at) f.lazy (is_of member_type e) (list_any (λ (d : Event). bytes_eq d.sender key) sent) (is_hero p.heroes.now key) (not (is_omitted (room_of f p.user.now es) redundant base since e))
      ∙ ap (λ s. nat_lt from e.id.at || (f.lazy && (is_of member_type e && ((s || (is_of member_type e && is_hero p.heroes.now key)) && not (is_omitted (room_of f p.user.now es) redundant base since e))))) (sent_by e.kind key sent))

pub picks_same : PicksAre
picks_same f es sent p lazy senders stayed e some = by_key f es sent p lazy senders e p.pick stayed e.state_key refl some
