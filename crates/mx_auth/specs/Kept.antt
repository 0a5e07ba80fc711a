-- What is kept of the events of a room, and what an event changes of it.
use Rattle.std.specs.Prelude.{◌≡◌, ℕ, ◌≤◌, Bool, true, ◌==◌, ◌&&◌, is_some, List, [], ◌∷◌, length, map, String, Option, Some, IsSome, if◌then◌else◌, codes}
use Rattle.std.specs.BTreeMap.{BTreeMap, get_by_text}
use Rattle.std.specs.declared.alloc.Global.{Global}
use Rattle.std.specs.List.{AllByRecursion, list_any}
use Rattle.std.specs.Option.{option_flatten}
use Rattle.std.specs.Str.{bytes_eq}
use Rattle.mx_json.specs.Fields.{text_at}
use Rattle.mx_json.specs.declared.value.Json.{Json}
use Rattle.mx_event.specs.Denied.{target}
use Rattle.mx_event.specs.Kinds.{create_type, member_type, power_type, join_rules_type, has_key, is_of}
use Rattle.mx_event.specs.Levels.{powers}
use Rattle.mx_event.specs.State.{creator, join_rule, membership_in, membership_of}
use Rattle.mx_event.specs.declared.event.Event.{Event}
use Rattle.mx_auth.specs.declared.kept.Change.{Change}
use Rattle.mx_auth.specs.declared.kept.Change.TheVariants.{Nothing, Creator, JoinRule, Powers, Membership}
use Rattle.mx_auth.specs.declared.kept.Count.{Count}
use Rattle.mx_auth.specs.declared.kept.Count.TheVariants.{Zero, One, More}
use Rattle.mx_auth.specs.declared.kept.Kept.{Kept}
use Rattle.mx_auth.specs.Placing.{PlaceTest, any_place, is_in}

abbrev pub count_of : List Event → Count
count_of [] = Zero
count_of (e ∷ []) = One
count_of (e ∷ f ∷ es) = More

abbrev pub next_count : Count → Count
next_count Zero = One
next_count One = More
next_count More = More

-- the membership under each state key; a key without one is as none
abbrev pub Memberships : Type 0
Memberships = BTreeMap (String Global) (Option (List ℕ))

-- the membership that is kept for a user
abbrev pub membership_at : Memberships → List ℕ → Option (List ℕ)
membership_at m user = option_flatten (get_by_text m user)

-- no key is lost
abbrev pub KeysStay : Memberships → Memberships → Type 0
KeysStay m n = (key : List ℕ) → IsSome (get_by_text m key) → IsSome (get_by_text n key)

-- an event passes a test of its position and its sender
abbrev pub any_sent : PlaceTest → List Event → Bool
any_sent test es = list_any (λ (e : Event). test e.id.at e.sender) es

-- a user sent an event at a position
abbrev pub has_sent : List ℕ → ℕ → List Event → Bool
has_sent user at es = any_sent (λ p sender. (at == p) && bytes_eq sender user) es

-- an event is at a position
abbrev pub has_event : ℕ → List Event → Bool
has_event at es = any_sent (λ p sender. at == p) es

-- what is kept of a room with these events
pub record IsKept (kept : Kept) (es : List Event) : Type 0 where
  pub counted : kept.count ≡ count_of es
  pub created : kept.creator ≡ creator es
  pub ruled : kept.join_rule ≡ join_rule es
  pub leveled : kept.powers ≡ powers es
  pub joined : (user : List ℕ) → membership_at kept.memberships user ≡ membership_of user es
  pub placed : (test : PlaceTest) → any_place test kept.places.items ≡ any_sent test es

-- what an event sets
abbrev pub change_of : Event → Change
change_of e =
    if has_key create_type [] e then Creator e.sender else (
    if has_key join_rules_type [] e then JoinRule (text_at (codes "join_rule") e.content) else (
    if has_key power_type [] e then Powers e.content else (
    if is_of member_type e && is_some e.state_key then Membership (membership_in e.content) else Nothing)))

abbrev pub creator_after : Change → Option (List ℕ) → Option (List ℕ)
creator_after Nothing old = old
creator_after (Creator user) old = Some user
creator_after (JoinRule rule) old = old
creator_after (Powers content) old = old
creator_after (Membership membership) old = old

abbrev pub join_rule_after : Change → Option (List ℕ) → Option (List ℕ)
join_rule_after Nothing old = old
join_rule_after (Creator user) old = old
join_rule_after (JoinRule rule) old = rule
join_rule_after (Powers content) old = old
join_rule_after (Membership membership) old = old

abbrev pub powers_after : Change → Option Json → Option Json
powers_after Nothing old = old
powers_after (Creator user) old = old
powers_after (JoinRule rule) old = old
powers_after (Powers content) old = Some content
powers_after (Membership membership) old = old

-- the membership of a user after a change under a key
abbrev pub membership_after : Change → List ℕ → List ℕ → Option (List ℕ) → Option (List ℕ)
membership_after Nothing key user old = old
membership_after (Creator creator) key user old = old
membership_after (JoinRule rule) key user old = old
membership_after (Powers content) key user old = old
membership_after (Membership membership) key user old = if bytes_eq key user then membership else old

-- a change under a key was set
pub record IsSet (change : Change) (key : List ℕ) (old new : Kept) : Type 0 where
  pub counted : new.count ≡ old.count
  pub created : new.creator ≡ creator_after change old.creator
  pub ruled : new.join_rule ≡ join_rule_after change old.join_rule
  pub leveled : new.powers ≡ powers_after change old.powers
  pub joined : (user : List ℕ) → membership_at new.memberships user ≡ membership_after change key user (membership_at old.memberships user)
  pub placed : new.places ≡ old.places
  pub keys : KeysStay old.memberships new.memberships

-- there is a place for the membership that a change sets under a key
abbrev pub HasPlace : Change → List ℕ → Memberships → Type 0
HasPlace Nothing key m = Unit {0}
HasPlace (Creator user) key m = Unit {0}
HasPlace (JoinRule rule) key m = Unit {0}
HasPlace (Powers content) key m = Unit {0}
HasPlace (Membership membership) key m = IsSome (get_by_text m key)

-- events are ready, of which these changes wait
pub record IsWaiting (kept : Kept) (ws : List Change) (es : List Event) : Type 0 where
  pub copied : ws ≡ map change_of es
  pub members : AllByRecursion (λ (e : Event). HasPlace (change_of e) (target e) kept.memberships) es
  pub known : AllByRecursion (λ (e : Event). is_in kept.places.names e.sender ≡ true) es
  pub places : length es ≤ kept.places.spare
