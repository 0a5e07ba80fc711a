-- Which events of a room's state a reply sends: what a picker says, and that it is mx_folding's `picks` and `picks_new`.
use Rattle.std.specs.Prelude.{◌≡◌, ℕ, Bool, false, true, not, Option, Some, None, is_some, ◌&&◌, ◌||◌, List, nat_lt, nat_le, ⊤}
use Rattle.std.specs.BTreeSet as set
use Rattle.std.specs.BTreeSet.{BTreeSet}
use Rattle.std.specs.Cmp.Lexicographic.{slice_cmp}
use Rattle.std.specs.List.{list_any}
use Rattle.std.specs.Ordering.{nat_cmp}
use Rattle.std.specs.Str.{bytes_eq}
use Rattle.mx_event.specs.Kinds.{member_type, is_of, is_text}
use Rattle.mx_event.specs.declared.event.Event.{Event}
use Rattle.mx_folding.specs.Parts as part
use Rattle.mx_folding.specs.Rooms.{Room}
use Rattle.mx_folding.specs.Visible.{stayed_joined}
use Rattle.mx_view.specs.Readings.{viewer_of}
use Rattle.mx_view.specs.Rooms.{Key, Sieve, room_of, hero_keys}
use Rattle.mx_lazy.specs.declared.picker.Pick.{Pick}
use Rattle.mx_lazy.specs.declared.picker.Pick.TheVariants as kind
use Rattle.mx_lazy.specs.declared.picker.Picker.{Picker}

abbrev pub has_sender : BTreeSet (List ℕ) → List ℕ → Bool
has_sender senders t = set.contains (slice_cmp nat_cmp) senders t

-- the set has the senders of these events
abbrev pub HasSenders : BTreeSet (List ℕ) → List Event → Type 0
HasSenders senders sent = (t : List ℕ) → has_sender senders t ≡ list_any (λ (e : Event). bytes_eq e.sender t) sent

-- what a picker says of the user's stay is so
abbrev pub IsStayed : List ℕ → List Event → Pick → Type 0
IsStayed user es kind.New = ⊤
IsStayed user es (kind.Later from since base redundant stayed) = stayed ≡ stayed_joined (viewer_of user) es base since

-- what a reply picks of the state, by the section's events
abbrev pub pick_of : Room Event Key → List (List ℕ) → Pick → List Event → Event → Bool
pick_of r heroes kind.New = part.picks_new r (hero_keys heroes)
pick_of r heroes (kind.Later from since base redundant stayed) = part.picks r redundant base since from (hero_keys heroes)

-- ---- what the code does

abbrev pub is_hero : List (List ℕ) → List ℕ → Bool
is_hero heroes user = list_any (λ hero. bytes_eq hero user) heroes

abbrev pub is_named : Picker → List ℕ → Bool
is_named p user = has_sender p.senders user || is_hero p.heroes.now user

abbrev pub names_key : Picker → Option (List ℕ) → Bool
names_key p None = false
names_key p (Some key) = is_named p key

abbrev pub names : Picker → Event → Bool
names p e = names_key p e.state_key

abbrev pub picked_as : Pick → Picker → Event → Bool
picked_as kind.New p e = not p.lazy || (not (is_of member_type e) || (is_text p.user.now e.state_key || names p e))
picked_as (kind.Later from since base redundant stayed) p e =
    nat_lt from e.id.at || (p.lazy && (is_of member_type e && (names p e && (redundant || (nat_lt since e.id.at || (not stayed || nat_le e.id.at base))))))

-- a picker picks the state event
abbrev pub picked : Picker → Event → Bool
picked p e = picked_as p.pick p e

-- A picker picks of a room's state what a reply does: one for the user and the filter, with the section's senders.
abbrev pub PicksAre : Type 0
PicksAre = (f : Sieve) (es sent : List Event) (p : Picker) → p.lazy ≡ f.lazy → HasSenders p.senders sent → IsStayed p.user.now es p.pick
    → (e : Event) → is_some e.state_key ≡ true → picked p e ≡ pick_of (room_of f p.user.now es) p.heroes.now p.pick sent e
