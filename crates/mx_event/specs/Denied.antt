-- *Denied*: the authorization rules of a room (Room Version 11, Authorization rules), tried in this order. Each is a test
-- of what it refuses: an event, after the events of its room in the order of their positions. The numbers are this server's.
use Rattle.std.specs.Prelude.{ℕ, ℤ, int_lt, int_le, List, [], ◌∷◌, Bool, false, not, ◌&&◌, ◌||◌, ◌==◌, nat_lt, length, Option, Some, None, unwrap_or, if◌then◌else◌, codes}
use Rattle.std.specs.List.{list_any}
use Rattle.std.specs.Str.{bytes_eq}
use Rattle.mx_ids.specs.User.{is_user_id_text}
use Rattle.mx_json.specs.declared.value.Json.{Json}
use Rattle.mx_event.specs.Kinds.{create_type, member_type, power_type, is_of, is_redaction, is_text}
use Rattle.mx_event.specs.Shown.{names}
use Rattle.mx_event.specs.State.{membership_in, membership_of, is_joined, is_invited, is_banned, creator, join_rule}
use Rattle.mx_event.specs.Levels.{powers, level_of, invite_level, kick_level, ban_level, redact_level, needed_level}
use Rattle.mx_event.specs.Changes.{is_well_formed, exceeds_own_level}
use Rattle.mx_event.specs.declared.event.Event.{Event}

-- whom a member event is about: its state key
abbrev pub target : Event → List ℕ
target v = unwrap_or v.state_key []

abbrev pub is_own : Event → Bool
is_own v = bytes_eq v.sender (target v)

abbrev pub gives : List ℕ → Event → Bool
gives membership v = is_text membership (membership_in v.content)

-- the sender has at least this level
abbrev pub reaches : ℤ → Event → List Event → Bool
reaches level v es = int_le level (level_of v.sender es)

-- the target's level is below the sender's
abbrev pub is_over_target : Event → List Event → Bool
is_over_target v es = int_lt (level_of (target v) es) (level_of v.sender es)

-- 1: a create event that isn't the first event, or another event that is
abbrev pub breaks_create : Event → List Event → Bool
breaks_create v es = if is_of create_type v then nat_lt 0 (length es) else length es == 0

-- 2: a member event of no user, or with another membership than the four
abbrev pub breaks_member_form : Event → List Event → Bool
breaks_member_form v es =
    not (is_user_id_text (target v))
    || not (gives (codes "join") v || (gives (codes "invite") v || (gives (codes "leave") v || gives (codes "ban") v)))

-- the creator's own join, right after the create event
abbrev pub is_first_join : Event → List Event → Bool
is_first_join v es = (length es == 1) && (is_own v && is_text v.sender (creator es))

abbrev pub is_open_by : List ℕ → Bool → Bool
is_open_by rule is_member =
    bytes_eq rule (codes "public")
    || (is_member && (bytes_eq rule (codes "invite") || (bytes_eq rule (codes "knock") || (bytes_eq rule (codes "restricted") || bytes_eq rule (codes "knock_restricted")))))

-- the join rule lets the sender in
abbrev pub is_open : Option (List ℕ) → Bool → Bool
is_open None is_member = false
is_open (Some rule) is_member = is_open_by rule is_member

-- 3: a join, unless it is the first one, or the sender's own, who isn't banned and whom the join rule lets in
abbrev pub breaks_join : Event → List Event → Bool
breaks_join v es =
    not (is_first_join v es)
    && not (is_own v && (not (is_banned v.sender es) && is_open (join_rule es) (is_invited v.sender es || is_joined v.sender es)))

-- 4: an invite, unless by a joined sender with the level, of one who is neither joined nor banned
abbrev pub breaks_invite : Event → List Event → Bool
breaks_invite v es =
    not (is_joined v.sender es && (not (is_joined (target v) es) && (not (is_banned (target v) es) && reaches (invite_level es) v es)))

-- one's own leave of an invitation, a stay or a knock
abbrev pub is_own_leave : Event → List Event → Bool
is_own_leave v es = is_own v && (is_invited (target v) es || (is_joined (target v) es || is_text (codes "knock") (membership_of (target v) es)))

-- a kick, or the end of a ban
abbrev pub is_kick : Event → List Event → Bool
is_kick v es =
    not (is_own v)
    && (is_joined v.sender es
    && ((not (is_banned (target v) es) || reaches (ban_level es) v es)
    && (reaches (kick_level es) v es && is_over_target v es)))

-- 5: a leave, unless one's own, or of another by a joined sender with the levels, over the target's
abbrev pub breaks_leave : Event → List Event → Bool
breaks_leave v es = not (is_own_leave v es || is_kick v es)

-- 6: a ban, unless by a joined sender with the level, over the target's
abbrev pub breaks_ban : Event → List Event → Bool
breaks_ban v es = not (is_joined v.sender es && (reaches (ban_level es) v es && is_over_target v es))

-- 7: a sender who isn't joined
abbrev pub breaks_sender : Event → List Event → Bool
breaks_sender v es = not (is_joined v.sender es)

-- 8: a sender below the level that the event needs
abbrev pub breaks_level : Event → List Event → Bool
breaks_level v es = not (reaches (needed_level v es) v es)

abbrev pub is_of_a_user : Option (List ℕ) → Bool
is_of_a_user None = false
is_of_a_user (Some []) = false
is_of_a_user (Some (c ∷ cs)) = c == 64

-- 9: a state key that begins with `@` and isn't the sender
abbrev pub breaks_user_key : Event → List Event → Bool
breaks_user_key v es = is_of_a_user v.state_key && not (is_own v)

-- 10: power levels that aren't of their form
abbrev pub breaks_power_form : Event → List Event → Bool
breaks_power_form v es = is_of power_type v && not (is_well_formed v.content)

abbrev pub changes_beyond : Event → ℤ → Option Json → Bool
changes_beyond v level None = false
changes_beyond v level (Some standing) = exceeds_own_level v.sender level standing v.content

-- 11: power levels that change the standing ones beyond the sender's level
abbrev pub breaks_power_change : Event → List Event → Bool
breaks_power_change v es = is_of power_type v && changes_beyond v (level_of v.sender es) (powers es)

-- the event names one of the room that its sender sent
abbrev pub names_own : Event → List Event → Bool
names_own v es = list_any (λ (e : Event). names v e.id.at && bytes_eq e.sender v.sender) es

-- 12: a redaction of another's event, by a sender without the level (this server's own rule)
abbrev pub breaks_redaction : Event → List Event → Bool
breaks_redaction v es = is_redaction v && (not (names_own v es) && not (reaches (redact_level es) v es))

abbrev pub first_broken : List (ℕ × Bool) → Option ℕ
first_broken [] = None
first_broken (rule ∷ rules) = if rule.1 then Some rule.0 else first_broken rules

-- the rule for the membership that a member event gives
abbrev pub membership_rule : Event → List Event → ℕ × Bool
membership_rule v es =
    if gives (codes "join") v then (3, breaks_join v es) else (
    if gives (codes "invite") v then (4, breaks_invite v es) else (
    if gives (codes "leave") v then (5, breaks_leave v es) else (6, breaks_ban v es)))

-- the rules for events that are neither create nor member events
abbrev pub general_rules : Event → List Event → List (ℕ × Bool)
general_rules v es =
    (7, breaks_sender v es) ∷ (8, breaks_level v es) ∷ (9, breaks_user_key v es) ∷ (10, breaks_power_form v es)
    ∷ (11, breaks_power_change v es) ∷ (12, breaks_redaction v es) ∷ []

abbrev pub rules_for : Event → List Event → List (ℕ × Bool)
rules_for v es =
    if is_of create_type v then [] else (
    if is_of member_type v then (2, breaks_member_form v es) ∷ membership_rule v es ∷ [] else general_rules v es)

-- the first rule that refuses an event after these, if one does
abbrev pub denied : Event → List Event → Option ℕ
denied v es = first_broken ((1, breaks_create v es) ∷ rules_for v es)
