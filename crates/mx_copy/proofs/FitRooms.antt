-- A room's JSON fits where its texts and contents do.
use Rattle.std.proofs.Common.{◌≡◌, ℕ, suc, Bool, true, false, List, [], ◌∷◌, ◌++◌, map, filter, fold, nat_cmp, Option, Some, None, unwrap_or, codes, if◌then◌else◌, refl, arith}
use Rattle.std.specs.List.{AllByRecursion}
use Rattle.std.specs.Option.{option_to_list}
use Rattle.json.proofs.Printed.Utf8.{are_ascii}
use Rattle.mx_ids.specs.Ids.{event_id_text}
use Rattle.mx_ids.specs.Page.{page_text}
use Rattle.mx_window.proofs.Each.{AllByRecursion-append}
use Rattle.mx_json.specs.Keys.{are_ordered, keys_of}
use Rattle.mx_json.specs.declared.value.Json.{Json}
use Rattle.mx_json.specs.declared.value.Json.TheVariants as json
use Rattle.mx_event.specs.Forms.{client_form}
use Rattle.mx_event.specs.declared.event.Shown.{Shown}
use Rattle.mx_fold.specs.Latest.{latest}
use Rattle.mx_lazy.specs.declared.room_summary.Summary.{Summary}
use Rattle.mx_parts.specs.declared.part.RoomPart.{RoomPart}
use Rattle.mx_receipt.specs.declared.receipt.Receipt.{Receipt}
use Rattle.mx_receipt.specs.declared.receipt.ReceiptKind.{ReceiptKind}
use Rattle.mx_receipt.specs.declared.receipt.ReceiptKind.TheVariants.{Read, Private}
use Rattle.mx_sync.specs.declared.sync_reply.InvitedRoom.{InvitedRoom}
use Rattle.mx_sync.specs.declared.sync_reply.JoinedRoom.{JoinedRoom}
use Rattle.mx_sync.specs.declared.sync_reply.LeftRoom.{LeftRoom}
use Rattle.mx_unread.specs.declared.unread_counts.Counts.{Counts}
use Rattle.mx_sync_json.specs.Objects.{account_form, counts_form, data_form, events_form, pair_form, summary_form}
use Rattle.mx_sync_json.specs.Receipts.{content_form, ephemeral_form, event_at, is_kind, itself, kind_member, kind_text, kinds_form, mark_form, of_event, users_form}
use Rattle.mx_sync_json.specs.Rooms.{account_of, counts_of, invited_form, joined_form, left_form, receipts_of, shown_form, state_form, state_name, stripped_form, summary_of, timeline_form}
use Rattle.mx_copy.specs.Writable.{Fits, IsText, JoinedFits, PartFits, ShownFits, TypedFits}
use Rattle.mx_copy.proofs.FitEvents.{shown_fits}
use Rattle.mx_copy.proofs.FitTexts.{event_text, page_token_text}
use Rattle.mx_copy.proofs.Fitting.{MemberFits, bool_fits, deeper, list_fits, literal, member_fits, number_fits, object_fits, text_fits}
use Rattle.mx_copy.proofs.Folded.{all_folded, ordered_folded, put}
use Rattle.mx_copy.proofs.Tests.{everywhere}

pub fit_each : {X : Type 0} (P : X → Type 0) (n : ℕ) (make : X → Json) → ((x : X) → P x → Fits n (make x)) → (xs : List X) → AllByRecursion P xs → AllByRecursion (Fits n) (map make xs)
fit_each P n make fits [] all = tt
fit_each P n make fits (x ∷ xs) all = (fits x all.0, fit_each P n make fits xs all.1)

-- an object that was filled item by item
pub folded_fits : {X : Type 0} (P : X → Type 0) (n : ℕ) (key : X → List ℕ) (make : X → Json) → ((x : X) → P x → IsText (key x)) → ((x : X) → P x → Fits n (make x)) → (xs : List X) → AllByRecursion P xs
    → Fits (suc n) (json.Object (fold (put key make) [] xs))
folded_fits P n key make texts fits xs all =
    object_fits n _ (ordered_folded key make [] xs refl) (all_folded key make P (MemberFits n) (λ x is. record { key = texts x is; value = fits x is }) [] xs tt all)

filter_all : {X : Type 0} (P : X → Type 0) (keep : X → Bool) (xs : List X) → AllByRecursion P xs → AllByRecursion P (filter keep xs)
filter_all P keep [] all = tt
filter_all P keep (x ∷ xs) all = by_test (keep x) (filter_all P keep xs all.1)
  where
    by_test : (b : Bool) → AllByRecursion P (filter keep xs) → AllByRecursion P (if b then x ∷ filter keep xs else filter keep xs)
    by_test true rest = (all.0, rest)
    by_test false rest = rest

events_fit : (n : ℕ) (js : List Json) → AllByRecursion (Fits n) js → Fits (suc (suc n)) (events_form js)
events_fit n js all = object_fits (suc n) _ refl (member_fits (suc n) (codes "events") (json.List js) refl (list_fits n js all), tt)

data_fits : (n : ℕ) (kind : List ℕ) (content : Json) → IsText kind → Fits n content → Fits (suc n) (data_form kind content)
data_fits n kind content is fits =
    object_fits n _ refl (member_fits n (codes "content") content refl fits, (member_fits n (codes "type") (json.Text kind) refl (text_fits n kind is), tt))

pub account_fits : (entries : List (List ℕ × Json)) → AllByRecursion TypedFits entries → Fits 123 (account_form entries)
account_fits entries all = events_fit 121 (map pair_form entries) (fit_each TypedFits 121 pair_form (λ p is. data_fits 120 p.0 p.1 is.kind (deeper 118 120 p.1 (omega arith) is.content)) entries all)

counts_fit : (c : Counts) → Fits 123 (counts_form c)
counts_fit c =
    object_fits 122 _ refl (
      member_fits 122 (codes "highlight_count") _ refl (number_fits 122 c.highlights),
      (member_fits 122 (codes "notification_count") _ refl (number_fits 122 c.notifications), tt),
    )

summary_fits : (o : Option Summary) → AllByRecursion (λ (s : Summary). AllByRecursion IsText s.heroes) (option_to_list o) → Fits 123 (summary_form o)
summary_fits None all = object_fits 122 [] refl tt
summary_fits (Some s) all =
    object_fits 122 _ refl (
      member_fits 122 (codes "m.heroes") _ refl (list_fits 121 (map json.Text s.heroes) (fit_each IsText 121 json.Text (text_fits 121) s.heroes all.0)),
      (
        member_fits 122 (codes "m.invited_member_count") _ refl (number_fits 122 s.invited),
        (member_fits 122 (codes "m.joined_member_count") _ refl (number_fits 122 s.joined), tt),
      ),
    )

-- ---- receipts

abbrev HasText : Receipt → Type 0
HasText x = IsText x.user

users_fit : (xs : List Receipt) → AllByRecursion HasText xs → Fits 118 (users_form xs)
users_fit xs all = folded_fits HasText 117 (λ (x : Receipt). x.user) mark_form (λ x is. is)
    (λ x is. object_fits 116 _ refl (member_fits 116 (codes "ts") _ refl (number_fits 116 x.ts), tt)) xs all

kind_fits : (kind : ReceiptKind) (xs : List Receipt) → IsText (kind_text kind) → AllByRecursion HasText xs → AllByRecursion (MemberFits 118) (kind_member kind xs)
kind_fits kind [] is all = tt
kind_fits kind (x ∷ xs) is all = (record { key = is; value = users_fit (x ∷ xs) all }, tt)

kinds_order : (xs ys : List Receipt) → are_ordered (keys_of (kind_member Read xs ++ kind_member Private ys)) ≡ true
kinds_order [] [] = refl
kinds_order [] (y ∷ ys) = refl
kinds_order (x ∷ xs) [] = refl
kinds_order (x ∷ xs) (y ∷ ys) = refl

kinds_fit : (xs : List Receipt) → AllByRecursion HasText xs → Fits 119 (kinds_form xs)
kinds_fit xs all =
    let public = filter (is_kind Read) xs in
    let private = filter (is_kind Private) xs in
    object_fits 118 _ (kinds_order public private)
    (AllByRecursion-append (MemberFits 118) (kind_member Read public) (kind_member Private private)
    (kind_fits Read public (literal (codes "m.read") refl) (filter_all HasText (is_kind Read) xs all))
    (kind_fits Private private (literal (codes "m.read.private") refl) (filter_all HasText (is_kind Private) xs all)))

content_fits : (server : List ℕ) → IsText server → (xs : List Receipt) → AllByRecursion HasText xs → Fits 120 (content_form server xs)
content_fits server is xs all =
    let named = latest nat_cmp event_at itself xs in
    folded_fits (λ (p : ℕ × Receipt). Unit {0}) 119 (λ (p : ℕ × Receipt). event_id_text server p.1.event) (λ (p : ℕ × Receipt). kinds_form (of_event p.0 xs))
    (λ p at. event_text server p.1.event is) (λ p at. kinds_fit (of_event p.0 xs) (filter_all HasText _ xs all)) named (everywhere (λ p. tt) named)

ephemeral_fits : (server : List ℕ) → IsText server → (xs : List Receipt) → AllByRecursion HasText xs → Fits 123 (ephemeral_form server xs)
ephemeral_fits server is [] all = events_fit 121 [] tt
ephemeral_fits server is (x ∷ xs) all =
    events_fit 121 _ (data_fits 120 (codes "m.receipt") (content_form server (x ∷ xs)) (literal (codes "m.receipt") refl) (content_fits server is (x ∷ xs) all), tt)

-- ---- rooms

key_text : (o : Option (List ℕ)) → AllByRecursion IsText (option_to_list o) → IsText (unwrap_or o [])
key_text None all = literal [] refl
key_text (Some key) all = all.0

stripped_fits : (s : Shown) → ShownFits s → Fits 121 (stripped_form s)
stripped_fits s fits =
    let e = s.event in
    object_fits 120 _ refl (
      member_fits 120 (codes "content") e.content refl (deeper 118 120 e.content (omega arith) fits.event.content),
      (
        member_fits 120 (codes "sender") _ refl (text_fits 120 e.sender fits.event.sender),
        (
          member_fits 120 (codes "state_key") _ refl (text_fits 120 (unwrap_or e.state_key []) (key_text e.state_key fits.event.state_key)),
          (member_fits 120 (codes "type") _ refl (text_fits 120 e.kind fits.event.kind), tt),
        ),
      ),
    )

pub invited_fits : (r : InvitedRoom) → AllByRecursion ShownFits r.state → Fits 124 (invited_form r)
invited_fits r all = object_fits 123 _ refl (member_fits 123 (codes "invite_state") _ refl (events_fit 121 (map stripped_form r.state) (fit_each ShownFits 121 stripped_form stripped_fits r.state all)), tt)

-- the state's key is ASCII, and stands in its place among the others
name_is_ascii : (after : Bool) → are_ascii (state_name after) ≡ true
name_is_ascii true = refl
name_is_ascii false = refl

left_in_order : (after : Bool) → are_ordered (state_name after ∷ codes "timeline" ∷ []) ≡ true
left_in_order true = refl
left_in_order false = refl

joined_in_order : (after : Bool) → are_ordered (codes "account_data" ∷ codes "ephemeral" ∷ state_name after ∷ codes "summary" ∷ codes "timeline" ∷ codes "unread_notifications" ∷ []) ≡ true
joined_in_order true = refl
joined_in_order false = refl

module _ (server : List ℕ) (device front : ℕ) (is : IsText server) where
  all_shown : (events : List Shown) → AllByRecursion ShownFits events → AllByRecursion (Fits 121) (shown_form server device front events)
  all_shown events all = fit_each ShownFits 121 (client_form server false device) (shown_fits server false device is) events all

  state_fits : (p : RoomPart) → PartFits p → Fits 123 (state_form server device front p)
  state_fits p fits = events_fit 121 _ (all_shown p.state fits.state)

  timeline_fits : (p : RoomPart) → PartFits p → Fits 123 (timeline_form server device front p)
  timeline_fits p fits =
      object_fits 122 _ refl (
        member_fits 122 (codes "events") _ refl (list_fits 121 _ (all_shown p.timeline fits.timeline)),
        (
          member_fits 122 (codes "limited") _ refl (bool_fits 122 p.limited),
          (member_fits 122 (codes "prev_batch") _ refl (text_fits 122 (page_text (record { at = p.cut; e = front })) (page_token_text (record { at = p.cut; e = front }))), tt),
        ),
      )

  pub joined_fits : (r : JoinedRoom) → JoinedFits r → Fits 124 (joined_form server device front r)
  joined_fits r fits =
      object_fits 123 _ (joined_in_order r.after) (
        member_fits 123 (codes "account_data") _ refl (account_fits (account_of r.rest) fits.account),
        (
          member_fits 123 (codes "ephemeral") _ refl (ephemeral_fits server is (receipts_of r.rest) fits.users),
          (
            member_fits 123 (state_name r.after) _ (name_is_ascii r.after) (state_fits r.part fits.part),
            (
              member_fits 123 (codes "summary") _ refl (summary_fits (summary_of r.rest) fits.heroes),
              (
                member_fits 123 (codes "timeline") _ refl (timeline_fits r.part fits.part),
                (member_fits 123 (codes "unread_notifications") _ refl (counts_fit (counts_of r.rest)), tt),
              ),
            ),
          ),
        ),
      )

  pub left_fits : (r : LeftRoom) → PartFits r.part → Fits 124 (left_form server device front r)
  left_fits r fits =
      object_fits 123 _ (left_in_order r.after)
      (member_fits 123 (state_name r.after) _ (name_is_ascii r.after) (state_fits r.part fits), (member_fits 123 (codes "timeline") _ refl (timeline_fits r.part fits), tt))
