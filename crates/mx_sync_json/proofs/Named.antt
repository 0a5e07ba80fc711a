-- The state's key among the other keys of a room.
use Rattle.std.proofs.Common.{◌≡◌, Bool, true, false, ◌∷◌, ◌++◌, [], List, ℕ, codes, refl}
use Rattle.std.specs.Cmp.Lexicographic.{slice_cmp}
use Rattle.std.specs.Ordering.{is_lt, nat_cmp}
use Rattle.mx_json.specs.Keys.{are_ordered, keys_of}
use Rattle.mx_sync.specs.declared.sync_reply.JoinedRoom.{JoinedRoom}
use Rattle.mx_sync_json.specs.Rooms.{data_and_state, state_name}

pub behind_receipts : (after : Bool) → is_lt (slice_cmp nat_cmp (codes "ephemeral") (state_name after)) ≡ true
behind_receipts true = refl
behind_receipts false = refl

pub before_timeline : (after : Bool) → is_lt (slice_cmp nat_cmp (state_name after) (codes "timeline")) ≡ true
before_timeline true = refl
before_timeline false = refl

before_summary : (after : Bool) → are_ordered (codes "account_data" ∷ codes "ephemeral" ∷ state_name after ∷ codes "summary" ∷ []) ≡ true
before_summary true = refl
before_summary false = refl

pub summary_next : (server : List ℕ) (device front : ℕ) (r : JoinedRoom) → are_ordered (keys_of (data_and_state server device front r) ++ codes "summary" ∷ []) ≡ true
summary_next server device front r = before_summary r.after
