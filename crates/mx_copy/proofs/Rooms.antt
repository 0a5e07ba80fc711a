-- What is read of the rooms of a reply.
use Rattle.std.proofs.Common.{◌≡◌, ℕ, Bool, true, false, if◌then◌else◌, List, [], ◌∷◌, map, Option, Some, None, option_map, option_and_then, codes, refl, ap, ◌∙◌}
use Rattle.std.specs.Str.{bytes_eq}
use Rattle.mx_json.specs.Fields.{text_of}
use Rattle.mx_json.specs.Keys.{value_at}
use Rattle.mx_json.specs.declared.members.Member.{Member}
use Rattle.mx_json.specs.declared.value.Json.{Json}
use Rattle.mx_json.specs.declared.value.Json.TheVariants as json
use Rattle.mx_event.specs.Forms.{client_form, member}
use Rattle.mx_event.specs.declared.event.Shown.{Shown}
use Rattle.mx_lazy.specs.declared.room_summary.Summary.{Summary}
use Rattle.mx_parts.specs.declared.part.RoomPart.{RoomPart}
use Rattle.mx_receipt.specs.declared.receipt.Receipt.{Receipt}
use Rattle.mx_sync.specs.declared.sync_reply.InvitedRoom.{InvitedRoom}
use Rattle.mx_sync.specs.declared.sync_reply.JoinedRoom.{JoinedRoom}
use Rattle.mx_sync.specs.declared.sync_reply.LeftRoom.{LeftRoom}
use Rattle.mx_sync.specs.declared.sync_reply.RoomRest.{RoomRest}
use Rattle.mx_sync.specs.declared.sync_reply.RoomRest.TheVariants as rest
use Rattle.mx_unread.specs.declared.unread_counts.Counts.{Counts}
use Rattle.mx_sync_json.specs.Objects.{account_form, counts_form, data_form, events_form, pair_form, summary_form}
use Rattle.mx_sync_json.specs.Receipts.{content_form, ephemeral_form}
use Rattle.mx_sync_json.specs.Rooms as forms
use Rattle.mx_sync_json.specs.Rooms.{account_of, bare_form, invited_form, joined_form, left_form, receipts_of, state_form, state_name, stripped_form, timeline_form}
use Rattle.mx_copy.specs.Events.{ClientEvent, event_of, stripped_in, stripped_of}
use Rattle.mx_copy.specs.Looks.{◌>>=◌, each, listed, object_of, read_at, seen_if}
use Rattle.mx_copy.specs.Receipts.{Marks, joined_marks, marks_by, marks_sent}
use Rattle.mx_copy.specs.Rooms.{ClientPart, ClientRoom, counts_in, counts_of, events_of, invited_of, marks_of, part_in, part_of, room_in, room_of, state_in, summary_in, summary_of, typed_in, typed_of}
use Rattle.mx_copy.specs.Sent.{counts_sent, invited_sent, joined_sent, left_sent, part_sent, summary_sent, with_rest}
use Rattle.mx_copy.specs.Shown.{client_event, cut, stripped_event}
use Rattle.mx_copy.proofs.Events.{events_read_back}
use Rattle.mx_copy.proofs.Looks.{bool_back, list_back, listed_back, listed_same, natural_back, next, object_back, text_back}
use Rattle.mx_copy.proofs.Receipts.{content_back}

-- an object of events
events_from : {A : Type 0} (see : Json → Option A) (js : List Json) (all : List A) → listed see (json.List js) ≡ Some all → events_of see (events_form js) ≡ Some all
events_from see js all is = ap (option_and_then (read_at (listed see) (codes "events"))) (object_back (member (codes "events") (json.List js) ∷ [])) ∙ is

typed_back : (kind : List ℕ) (content : Json) → typed_of (data_form kind content) ≡ Some (kind, content)
typed_back kind content = ap (option_and_then typed_in) (object_back _) ∙ next _ _ kind _ (text_back kind) refl

pub account_back : (entries : List (List ℕ × Json)) → events_of typed_of (account_form entries) ≡ Some entries
account_back entries = events_from typed_of (map pair_form entries) entries (listed_same typed_of pair_form (λ p. typed_back p.0 p.1) entries)

counts_back : (c : Counts) → counts_of (counts_form c) ≡ Some (counts_sent c)
counts_back c = ap (option_and_then counts_in) (object_back _)
    ∙ next _ _ (cut c.highlights) _ (natural_back (cut c.highlights)) (next _ _ (cut c.notifications) _ (natural_back (cut c.notifications)) refl)

summary_back : (o : Option Summary) → summary_of (summary_form o) ≡ Some (summary_sent o)
summary_back None = ap (option_and_then summary_in) (object_back [])
summary_back (Some s) = ap (option_and_then summary_in) (object_back _)
    ∙ next _ _ (Some s.heroes) _ (ap (option_map Some) (listed_same text_of json.Text text_back s.heroes))
    (next _ _ (Some (cut s.invited)) _ (ap (option_map Some) (natural_back (cut s.invited)))
    (next _ _ (Some (cut s.joined)) _ (ap (option_map Some) (natural_back (cut s.joined))) refl))

-- an ephemeral event of receipts
receipts_seen : (server : List ℕ) (xs : List Receipt) → (typed_of (data_form (codes "m.receipt") (content_form server xs)) >>= marks_by) ≡ Some (marks_sent server xs)
receipts_seen server xs = ap (option_and_then marks_by) (typed_back (codes "m.receipt") (content_form server xs)) ∙ content_back server xs

abbrev seen : Json → Option Marks
seen e = typed_of e >>= marks_by

receipts_back : (server : List ℕ) (xs : List Receipt) → marks_of (ephemeral_form server xs) ≡ Some (marks_sent server xs)
receipts_back server [] = ap (option_map joined_marks) (events_from seen [] [] (ap (option_and_then (each seen)) (list_back [])))
receipts_back server (x ∷ xs) =
    let event = data_form (codes "m.receipt") (content_form server (x ∷ xs)) in
    ap (option_map joined_marks) (events_from seen (event ∷ []) (marks_sent server (x ∷ xs) ∷ [])
    (ap (option_and_then (each seen)) (list_back (event ∷ [])) ∙ ap (option_and_then (λ m. Some (m ∷ []))) (receipts_seen server (x ∷ xs))))

bare_back : (s : Shown) → stripped_of (stripped_form s) ≡ Some (stripped_event s)
bare_back s = ap (option_and_then stripped_in) (object_back _)
    ∙ next _ _ s.event.kind _ (text_back s.event.kind) (next _ _ (stripped_event s).state_key _ (text_back (stripped_event s).state_key) (next _ _ s.event.sender _ (text_back s.event.sender) refl))

pub invited_back : (r : InvitedRoom) → invited_of (invited_form r) ≡ Some (invited_sent r)
invited_back r = ap (option_and_then (read_at (events_of stripped_of) (codes "invite_state"))) (object_back _)
    ∙ events_from stripped_of (map stripped_form r.state) (invited_sent r) (listed_back stripped_of stripped_form stripped_event bare_back r.state)

-- what stands behind the state is found whatever the state's key is
behind_state : (after : Bool) (k : List ℕ) (state : Json) (ms : List (Member Json)) → bytes_eq (codes "state_after") k ≡ false → bytes_eq (codes "state") k ≡ false
    → value_at k (member (state_name after) state ∷ ms) ≡ value_at k ms
behind_state true k state ms other also = ap (λ b. if b then Some state else value_at k ms) other
behind_state false k state ms other also = ap (λ b. if b then Some state else value_at k ms) also

module _ (server : List ℕ) (device front : ℕ) where
  shown_back : (events : List Shown) → listed event_of (json.List (map (client_form server false device) events)) ≡ Some (map (client_event server false device) events)
  shown_back events = listed_back event_of (client_form server false device) (client_event server false device) (events_read_back server false device) events

  abbrev events_sent : List Shown → List ClientEvent
  events_sent events = map (client_event server false device) events

  state_read : (p : RoomPart) → events_of event_of (state_form server device front p) ≡ Some (events_sent p.state)
  state_read p = events_from event_of _ (events_sent p.state) (shown_back p.state)

  -- the state stands under its name, and under no other
  abbrev HasState : Bool → Json → List (Member Json) → Type 0
  HasState true state ms = value_at (codes "state_after") ms ≡ Some state
  HasState false state ms = (value_at (codes "state_after") ms ≡ None) × (value_at (codes "state") ms ≡ Some state)

  state_back : (after : Bool) (p : RoomPart) (ms : List (Member Json)) → HasState after (state_form server device front p) ms → state_in ms ≡ Some (after, events_sent p.state)
  state_back true p ms has =
      next _ _ (Some (events_sent p.state)) _ (ap (seen_if (events_of event_of)) has ∙ ap (option_map Some) (state_read p)) refl
  state_back false p ms has =
      next _ _ None _ (ap (seen_if (events_of event_of)) has.0)
      (ap (option_map (λ events. (false, events))) (ap (option_and_then (events_of event_of)) has.1 ∙ state_read p))

  part_back : (after : Bool) (p : RoomPart) (ms : List (Member Json)) → HasState after (state_form server device front p) ms → value_at (codes "timeline") ms ≡ Some (timeline_form server device front p)
      → part_in ms ≡ Some (part_sent server device front after p)
  part_back after p ms state timeline =
      let sent = part_sent server device front after p in
      next _ _ (after, sent.state) _ (state_back after p ms state)
      (next _ _ _ _ (ap (option_and_then object_of) timeline ∙ object_back _)
      (next _ _ sent.timeline _ (shown_back p.timeline)
      (next _ _ p.limited _ (bool_back p.limited)
      (next _ _ sent.prev_batch _ (text_back sent.prev_batch) refl))))

  abbrev left_members : LeftRoom → List (Member Json)
  left_members r = member (state_name r.after) (state_form server device front r.part) ∷ member (codes "timeline") (timeline_form server device front r.part) ∷ []

  left_state : (after : Bool) (r : LeftRoom) → HasState after (state_form server device front r.part) (left_members (record r { after = after }))
  left_state true r = refl
  left_state false r = (refl, refl)

  pub left_back : (r : LeftRoom) → part_of (left_form server device front r) ≡ Some (left_sent server device front r)
  left_back r =
      let state = state_form server device front r.part in
      let timeline = timeline_form server device front r.part in
      let found : value_at (codes "timeline") (left_members r) ≡ Some timeline = behind_state r.after (codes "timeline") state (member (codes "timeline") timeline ∷ []) refl refl in
      ap (option_and_then part_in) (object_back (left_members r)) ∙ part_back r.after r.part (left_members r) (left_state r.after r) found

  rest_is : (part : ClientPart) (x : RoomRest) → ◌≡◌ {A = ClientRoom} (record { part = part; account = account_of x; receipts = marks_sent server (receipts_of x); counts = counts_sent (forms.counts_of x); summary = summary_sent (forms.summary_of x) }) (with_rest server part x)
  rest_is part (rest.New view) = refl
  rest_is part (rest.Changed delta) = refl

  -- the members behind the state, and all of them
  abbrev joined_rest : JoinedRoom → List (Member Json)
  joined_rest r =
      member (codes "summary") (summary_form (forms.summary_of r.rest))
      ∷ member (codes "timeline") (timeline_form server device front r.part)
      ∷ member (codes "unread_notifications") (counts_form (forms.counts_of r.rest))
      ∷ []

  abbrev joined_members : JoinedRoom → List (Member Json)
  joined_members r =
      member (codes "account_data") (account_form (account_of r.rest))
      ∷ member (codes "ephemeral") (ephemeral_form server (receipts_of r.rest))
      ∷ member (state_name r.after) (state_form server device front r.part)
      ∷ joined_rest r

  joined_state : (after : Bool) (r : JoinedRoom) → HasState after (state_form server device front r.part) (joined_members (record r { after = after }))
  joined_state true r = refl
  joined_state false r = (refl, refl)

  pub joined_back : (r : JoinedRoom) → room_of (joined_form server device front r) ≡ Some (joined_sent server device front r)
  joined_back r =
      let part = part_sent server device front r.after r.part in
      let state = state_form server device front r.part in
      let timeline : value_at (codes "timeline") (joined_members r) ≡ Some (timeline_form server device front r.part) = behind_state r.after (codes "timeline") state (joined_rest r) refl refl in
      let counts : value_at (codes "unread_notifications") (joined_members r) ≡ Some (counts_form (forms.counts_of r.rest)) = behind_state r.after (codes "unread_notifications") state (joined_rest r) refl refl in
      let summary : value_at (codes "summary") (joined_members r) ≡ Some (summary_form (forms.summary_of r.rest)) = behind_state r.after (codes "summary") state (joined_rest r) refl refl in
      ap (option_and_then room_in) (object_back (joined_members r))
      ∙ next _ _ part _ (part_back r.after r.part (joined_members r) (joined_state r.after r) timeline)
      (next _ _ (account_of r.rest) _ (account_back (account_of r.rest))
      (next _ _ (marks_sent server (receipts_of r.rest)) _ (receipts_back server (receipts_of r.rest))
      (next _ _ (counts_sent (forms.counts_of r.rest)) _ (ap (option_and_then counts_of) counts ∙ counts_back (forms.counts_of r.rest))
      (next _ _ (summary_sent (forms.summary_of r.rest)) _ (ap (option_and_then summary_of) summary ∙ summary_back (forms.summary_of r.rest)) refl))))
      ∙ ap Some (rest_is part r.rest)
