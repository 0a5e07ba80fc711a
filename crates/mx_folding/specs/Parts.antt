-- What a sync reply and a page say of one room: state part, section and page members, with and without lazy members
-- (Client-Server API, Syncing, and Lazy-loading room members).
use Rattle.std.specs.Prelude.{ℕ, Bool, cond, not, ◌&&◌, ◌||◌, List, [], length, map, nat_lt, nat_le, true, false, ◌∷◌}
use Rattle.std.specs.List.{filter, list_any}
use Rattle.mx_window.specs.Windows.{between, before_first}
use Rattle.mx_window.specs.Lasts.{current}
use Rattle.mx_folding.specs.Rooms.{Room, key_is, is_state, is_kept, sets_same, wrote, mine}
use Rattle.mx_folding.specs.Sections.{Window, sendable, section, cut, is_limited, chunk}
use Rattle.mx_folding.specs.Redactions.{shown}

-- a sender of these events has the member key
abbrev pub is_sender : {E K : Type 0} → Room E K → List E → K → Bool
is_sender r sent k = list_any (wrote r k) sent

-- the state at a position, as a list in order of position
abbrev pub state_list : {E K : Type 0} → Room E K → List E → ℕ → List E
state_list r es p = filter (is_state r) (current (sets_same r) (between r.at 0 p es))

-- of the state at q, what the filter passes and is picked
abbrev pub state_part : {E K : Type 0} → Room E K → List E → (E → Bool) → ℕ → List E
state_part r es pick q = filter pick (filter (is_kept r) (state_list r es q))

-- a lazy member event that the client is known to hold: it came after b and at or before the token, and the user was
-- joined all that time
abbrev pub is_omitted : {E K : Type 0} → Room E K → Bool → ℕ → ℕ → E → Bool
is_omitted r redundant b since e = not redundant && (nat_le (r.at e) since && (r.stayed b since && nat_lt b (r.at e)))

-- a later reply picks what came after the token (`from` is the token's position, or 0 with full_state), and with lazy
-- members the member events of the section's senders and of the heroes, less those omitted
abbrev pub picks : {E K : Type 0} → Room E K → Bool → ℕ → ℕ → ℕ → (K → Bool) → List E → E → Bool
picks r redundant b since from heroes sent e =
    nat_lt from (r.at e) || (r.lazy && (key_is r.member (r.key e)
    && ((key_is (is_sender r sent) (r.key e) || key_is heroes (r.key e)) && not (is_omitted r redundant b since e))))

-- a new room's reply picks all, but with lazy members of the member events only the user's own, the senders' and the heroes'
abbrev pub picks_new : {E K : Type 0} → Room E K → (K → Bool) → List E → E → Bool
picks_new r heroes sent e =
    not r.lazy || (not (key_is r.member (r.key e)) || (key_is (mine r) (r.key e) || (key_is (is_sender r sent) (r.key e) || key_is heroes (r.key e))))

-- what a reply says of one room
pub record Part (E : Type 0) : Type 0 where
  pub limited : Bool
  -- the position of prev_batch
  pub cut : ℕ
  pub state : List E
  pub sent : List E

-- the part for a window, judged and shown at a front: at its end, but for a room that the user left, whose window ends with
-- its stay; `pick` sees the section, since lazy members depend on its senders
abbrev pub part_of : {E K : Type 0} → Room E K → List E → ℕ → Window → (List E → E → Bool) → Part E
part_of r es front w pick = record {
  limited = is_limited r es front w;
  cut = cut r es front w;
  state = map (shown r es front) (state_part r es (pick (section r es front w)) (cond w.after w.high (cut r es front w)));
  sent = map (shown r es front) (section r es front w);
}

abbrev pub is_cons : {A : Type 0} → List A → Bool
is_cons [] = false
is_cons (x ∷ xs) = true

-- the part says something of the room
abbrev pub has_some : {E : Type 0} → Part E → Bool
has_some part = part.limited || (is_cons part.state || is_cons part.sent)

-- what a backward page says
pub record Page (E : Type 0) : Type 0 where
  pub more : Bool
  -- the position of the page's end
  pub end : ℕ
  pub members : List E
  pub sent : List E

-- an open gap of a timeline: after `lower` (the position of a sync token, or 0 for the room's start), up to `upper`, cut at
-- `front`, the position of its page token
pub record Gap : Type 0 where
  pub lower : ℕ
  pub upper : ℕ
  pub front : ℕ

abbrev pub gap_at : ℕ → ℕ → ℕ → Gap
gap_at lower upper front = record { lower = lower; upper = upper; front = front }

-- the member events of the senders of these events in the state at a position
abbrev pub members_of : {E K : Type 0} → Room E K → List E → ℕ → List E → List E
members_of r es p sent = filter (λ v. key_is r.member (r.key v) && key_is (is_sender r sent) (r.key v)) (state_list r es p)

-- the page of a gap at the front e; lazy members are those of the state where the gap was cut
abbrev pub page_of : {E K : Type 0} → Room E K → List E → ℕ → ℕ → Gap → Page E
page_of r es limit e gap = record {
  more = nat_lt (length (chunk r es limit e gap.lower gap.upper)) (length (sendable r es e gap.lower gap.upper));
  end = before_first r.at gap.upper (chunk r es limit e gap.lower gap.upper);
  members = cond r.lazy (map (shown r es e) (members_of r es gap.front (chunk r es limit e gap.lower gap.upper))) [];
  sent = map (shown r es e) (chunk r es limit e gap.lower gap.upper);
}
