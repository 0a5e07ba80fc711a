-- The JSON of a reply or a page fits where its texts and contents do.
use Rattle.std.proofs.Common.{◌≡◌, ℕ, true, List, map, Option, Some, None, option_map, codes, refl, arith}
use Rattle.std.specs.List.{AllByRecursion}
use Rattle.std.specs.Option.{option_to_list}
use Rattle.mx_ids.specs.Ids.{room_id_text}
use Rattle.mx_ids.specs.Page.{page_text}
use Rattle.mx_ids.specs.Sync.{sync_text}
use Rattle.mx_ids.specs.declared.page_token.PageToken.{PageToken}
use Rattle.mx_window.proofs.Each.{AllByRecursion-append}
use Rattle.mx_json.specs.Keys.{are_ordered, keys_of}
use Rattle.mx_json.specs.declared.value.Json.{Json}
use Rattle.mx_json.specs.declared.value.Json.TheVariants as json
use Rattle.mx_event.specs.Forms.{client_form, member_if}
use Rattle.mx_event.specs.declared.event.Shown.{Shown}
use Rattle.mx_pager.specs.Forms.{bound_text, events_form}
use Rattle.mx_pager.specs.declared.asked.Bound.{Bound}
use Rattle.mx_pager.specs.declared.asked.Bound.TheVariants as bound
use Rattle.mx_sync.specs.declared.sync_reply.InvitedRoom.{InvitedRoom}
use Rattle.mx_sync.specs.declared.sync_reply.JoinedRoom.{JoinedRoom}
use Rattle.mx_sync.specs.declared.sync_reply.LeftRoom.{LeftRoom}
use Rattle.mx_sync.specs.declared.sync_reply.Reply.{Reply}
use Rattle.mx_sync_json.specs.Objects.{account_form}
use Rattle.mx_sync_json.specs.Replies.{rooms_form}
use Rattle.mx_sync_json.specs.Rooms.{invited_form, joined_form, left_form}
use Rattle.mx_copy.specs.Laws.{PagesMayBeWritten, RepliesMayBeWritten}
use Rattle.mx_copy.specs.Writable.{Fits, IsText, JoinedFits, PartFits, ReplyFits, ShownFits}
use Rattle.mx_copy.proofs.FitEvents.{shown_fits}
use Rattle.mx_copy.proofs.FitRooms.{account_fits, fit_each, folded_fits, invited_fits, joined_fits, left_fits}
use Rattle.mx_copy.proofs.FitTexts.{page_token_text, room_text, sync_token_text}
use Rattle.mx_copy.proofs.Fitting.{MemberFits, deeper, if_fits, list_fits, member_fits, object_fits, text_fits}
use Rattle.mx_copy.proofs.Pages.{members}

rooms_fit : (server : List ℕ) (device : ℕ) (r : Reply) → ReplyFits server r → Fits 126 (rooms_form server device r)
rooms_fit server device r fits =
    object_fits 125 _ refl (
      member_fits 125 (codes "invite") _ refl (folded_fits (λ (x : InvitedRoom). AllByRecursion ShownFits x.state) 124 (λ (x : InvitedRoom). room_id_text server x.room) invited_form
          (λ x is. room_text server x.room fits.server_name) invited_fits r.invited fits.invited),
      (
        member_fits 125 (codes "join") _ refl (folded_fits JoinedFits 124 (λ (x : JoinedRoom). room_id_text server x.room) (joined_form server device r.next.e)
            (λ x is. room_text server x.room fits.server_name) (joined_fits server device r.next.e fits.server_name) r.joined fits.joined),
        (
          member_fits 125 (codes "leave") _ refl (folded_fits (λ (x : LeftRoom). PartFits x.part) 124 (λ (x : LeftRoom). room_id_text server x.room) (left_form server device r.next.e)
              (λ x is. room_text server x.room fits.server_name) (left_fits server device r.next.e fits.server_name) r.left fits.left),
          tt,
        ),
      ),
    )

pub replies_may_be_written : RepliesMayBeWritten
replies_may_be_written server device r fits =
    object_fits 126 _ refl (
      member_fits 126 (codes "account_data") _ refl (deeper 123 126 (account_form r.account) (omega arith) (account_fits r.account fits.account)),
      (
        member_fits 126 (codes "next_batch") _ refl (text_fits 126 (sync_text r.next) (sync_token_text r.next)),
        (member_fits 126 (codes "rooms") _ refl (rooms_fit server device r fits), tt),
      ),
    )

-- ---- pages

in_order : (chunk : List Json) (start : List ℕ) (end state : Option Json) → are_ordered (keys_of (members chunk start end state)) ≡ true
in_order chunk start None None = refl
in_order chunk start None (Some s) = refl
in_order chunk start (Some e) None = refl
in_order chunk start (Some e) (Some s) = refl

start_text : (b : Bound) → IsText (bound_text b)
start_text (bound.Sync t) = sync_token_text t
start_text (bound.Page t) = page_token_text t

end_fits : (n : ℕ) (o : Option PageToken) → AllByRecursion (Fits n) (option_to_list (option_map (λ (t : PageToken). json.Text (page_text t)) o))
end_fits n None = tt
end_fits n (Some t) = (text_fits n (page_text t) (page_token_text t), tt)

module _ (server : List ℕ) (device : ℕ) (is : IsText server) where
  events_fit : (events : List Shown) → AllByRecursion ShownFits events → Fits 126 (events_form server device events)
  events_fit events all = deeper 122 126 (events_form server device events) (omega arith) (list_fits 121 _ (fit_each ShownFits 121 (client_form server true device) (shown_fits server true device is) events all))

  state_fits : (o : Option (List Shown)) → AllByRecursion (AllByRecursion ShownFits) (option_to_list o) → AllByRecursion (Fits 126) (option_to_list (option_map (events_form server device) o))
  state_fits None all = tt
  state_fits (Some events) all = (events_fit events all.0, tt)

pub pages_may_be_written : PagesMayBeWritten
pages_may_be_written server device p fits =
    let is = fits.server_name in
    let end = option_map (λ (t : PageToken). json.Text (page_text t)) p.end in
    let state = option_map (events_form server device) p.members in
    object_fits 126 _ (in_order (map (client_form server true device) p.chunk) (bound_text p.start) end state) (
      member_fits 126 (codes "chunk") _ refl (events_fit server device is p.chunk fits.chunk),
      AllByRecursion-append (MemberFits 126) (member_if (codes "end") end) _ (if_fits 126 (codes "end") end refl (end_fits 126 p.end)) (
        member_fits 126 (codes "start") _ refl (text_fits 126 (bound_text p.start) (start_text p.start)),
        if_fits 126 (codes "state") state refl (state_fits server device is p.members fits.members),
      ),
    )
