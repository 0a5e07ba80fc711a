-- What a user may see of a room (Client-Server API, Room History Visibility).
use Rattle.std.specs.Prelude.{◌≡◌, ℕ, true, List, [], ◌∷◌, ◌++◌, Some, None, false, codes}
use Rattle.std.specs.List.{filter}
use Rattle.mx_event.specs.Kinds.{create_type, member_type, power_type, visibility_type}
use Rattle.mx_event.specs.declared.event.Event.{Event}
use Rattle.mx_folding.specs.Visible.{is_visible}
use Rattle.mx_view.specs.Pictures.{room_at}
use Rattle.mx_view.specs.Readings.{viewer_by}
use Rattle.mx_fold_rows.specs.Said.{said}
use Rattle.mx_fold_rows.specs.Events.{alice, bob, carol, event_at, state_event, message, joins, member, invites}
use Rattle.mx_fold_rows.specs.Events.{setting, private_room, shared_room, hidden_room, invited_room}
use Rattle.mx_fold_rows.specs.Heard.{everything, token, asks, nobody, Whole, places, says, page}

-- the positions of what a user sees at a front, of the events up to it
abbrev pub seen_by : List ℕ → List Event → ℕ → List ℕ
seen_by user es front = places (filter (λ e. is_visible (viewer_by said user) es front e) (room_at es front))

-- shared history is seen from the start by one who joins, and by nobody else
abbrev pub SharedSeen : Type 0
SharedSeen = says bob shared_room everything (asks 10) nobody None (token 10 10) ≡ Whole false 0 [] (1 ∷ 2 ∷ 3 ∷ 4 ∷ 5 ∷ 6 ∷ 7 ∷ 8 ∷ 9 ∷ 10 ∷ [])

abbrev pub SharedUnseen : Type 0
SharedUnseen = seen_by carol shared_room 10 ≡ []

-- a join after the front shows nothing
abbrev pub JoinAfterFront : Type 0
JoinAfterFront = seen_by bob shared_room 8 ≡ []

-- history of the joined: bob sees what was shared before, and then from his join on; not the message, and not his invite
abbrev pub JoinedSeen : Type 0
JoinedSeen = says bob hidden_room everything (asks 10) nobody None (token 11 11) ≡ Whole true 9 (1 ∷ 2 ∷ 3 ∷ 4 ∷ 6 ∷ 7 ∷ 9 ∷ []) (10 ∷ 11 ∷ [])

abbrev pub JoinedPage : Type 0
JoinedPage = page bob hidden_room everything 10 11 11 0 9 ≡ (false, 0, [], 1 ∷ 2 ∷ 3 ∷ 4 ∷ 5 ∷ 6 ∷ 7 ∷ [])

-- a setting that the world may read is seen itself, by one who never was in the room
abbrev pub WorldReads : Type 0
WorldReads = seen_by carol (hidden_room ++ setting 12 (codes "world_readable") ∷ []) 12 ≡ 12 ∷ []

abbrev pub WorldDoesnt : Type 0
WorldDoesnt = seen_by carol hidden_room 11 ≡ []

-- one setting after the world could read: it is seen itself, by the one before it, and the message after it isn't
abbrev pub WorldReadsSetting : Type 0
WorldReadsSetting =
    seen_by carol (private_room ++ setting 7 (codes "world_readable") ∷ message 8 alice ∷ setting 9 (codes "joined") ∷ message 10 alice ∷ []) 10
    ≡ 7 ∷ 8 ∷ 9 ∷ []

-- history since the invite: one's own invite is seen, and what follows, without a join
abbrev pub InvitedSees : Type 0
InvitedSees = seen_by bob (private_room ++ setting 7 (codes "invited") ∷ message 8 alice ∷ invites 9 bob ∷ message 10 alice ∷ []) 10 ≡ 9 ∷ 10 ∷ []

-- one who joins later sees nothing of it from before his join, as he wasn't invited, but for the setting, by the one before it; who is
-- invited and doesn't join sees what follows
abbrev pub InvitedJoinsLater : Type 0
InvitedJoinsLater = seen_by bob invited_room 11 ≡ 1 ∷ 2 ∷ 3 ∷ 4 ∷ 5 ∷ 6 ∷ 7 ∷ 10 ∷ 11 ∷ []

abbrev pub InvitedStays : Type 0
InvitedStays = seen_by carol invited_room 11 ≡ 8 ∷ 9 ∷ 10 ∷ 11 ∷ []

-- one's own ban is seen by the state before it, and nothing after
abbrev pub BannedSees : Type 0
BannedSees = seen_by bob (private_room ++ setting 7 (codes "joined") ∷ joins 8 bob ∷ member 9 bob alice (codes "ban") ∷ message 10 alice ∷ []) 10
    ≡ 1 ∷ 2 ∷ 3 ∷ 4 ∷ 5 ∷ 6 ∷ 7 ∷ 8 ∷ 9 ∷ []

-- the leaving of another is seen by nobody whom its state doesn't let see it
abbrev pub OtherLeaves : Type 0
OtherLeaves = seen_by bob (private_room ++ setting 7 (codes "joined") ∷ joins 8 bob ∷ member 9 bob bob (codes "leave")
    ∷ member 10 carol carol (codes "leave") ∷ []) 10
    ≡ 1 ∷ 2 ∷ 3 ∷ 4 ∷ 5 ∷ 6 ∷ 7 ∷ 8 ∷ 9 ∷ []

-- without a setting, and with an unknown one, history is shared
abbrev pub unset_room : List Event
unset_room = state_event 1 create_type [] ∷ joins 2 alice ∷ message 3 alice ∷ joins 4 bob ∷ []

abbrev pub UnsetIsShared : Type 0
UnsetIsShared = seen_by bob unset_room 4 ≡ 1 ∷ 2 ∷ 3 ∷ 4 ∷ []

abbrev pub UnknownIsShared : Type 0
UnknownIsShared = seen_by bob (private_room ++ setting 7 (codes "joined") ∷ setting 8 (codes "secret") ∷ message 9 alice ∷ joins 10 bob ∷ []) 10
    ≡ 1 ∷ 2 ∷ 3 ∷ 4 ∷ 5 ∷ 6 ∷ 7 ∷ 8 ∷ 9 ∷ 10 ∷ []

abbrev pub world_setting : ℕ → List ℕ → Event
world_setting p key = event_at p visibility_type (Some key) alice (codes "history_visibility") (codes "world_readable")

-- a message event of the setting's type sets nothing, nor does a state event of it under another key
abbrev pub MessageSetsNothing : Type 0
MessageSetsNothing = seen_by carol (private_room ++ event_at 7 visibility_type None alice (codes "history_visibility") (codes "world_readable")
    ∷ message 8 alice ∷ []) 8 ≡ []

abbrev pub OtherKeySetsNothing : Type 0
OtherKeySetsNothing = seen_by carol (private_room ++ world_setting 7 (codes "other") ∷ message 8 alice ∷ []) 8 ≡ []

abbrev pub EmptyKeySets : Type 0
EmptyKeySets = seen_by carol (private_room ++ world_setting 7 [] ∷ message 8 alice ∷ []) 8 ≡ 7 ∷ 8 ∷ []

-- a message event of the type of member events joins nobody, nor does a state event of another type under one's key
abbrev pub MessageJoinsNobody : Type 0
MessageJoinsNobody = seen_by carol (private_room ++ event_at 7 member_type None carol (codes "membership") (codes "join")
    ∷ event_at 8 power_type (Some carol) carol (codes "membership") (codes "join") ∷ []) 8 ≡ []

-- a member event whose sender joins another joins the other alone
abbrev pub KeyJoins : Type 0
KeyJoins = seen_by carol (private_room ++ member 7 bob carol (codes "join") ∷ message 8 alice ∷ []) 8 ≡ []
