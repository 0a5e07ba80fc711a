-- What the picture has of a room besides its events, by what the streams say: receipts, account data, counts and summary.
use Rattle.std.specs.Prelude.{◌≡◌, ℕ, Bool, true, cond, not, ◌&&◌, ◌||◌, List, [], ◌∷◌, Option, Some, None, filter, option_map}
use Rattle.std.specs.Str.{bytes_eq}
use Rattle.mx_ids.specs.declared.room_id.RoomId.{RoomId}
use Rattle.mx_ids.specs.declared.sync_token.SyncToken.{SyncToken}
use Rattle.mx_json.specs.declared.value.Json.{Json}
use Rattle.mx_window.specs.Windows.{stand_from}
use Rattle.mx_account.specs.Entries as account
use Rattle.mx_account.specs.Values.{value_at}
use Rattle.mx_event.specs.Lawful.{of_room}
use Rattle.mx_event.specs.Shown.{position_of}
use Rattle.mx_receipt.specs.Receipts as receipt
use Rattle.mx_receipt.specs.Receipts.{same_kind, standing}
use Rattle.mx_receipt.specs.declared.receipt.Receipt.{Receipt}
use Rattle.mx_receipt.specs.declared.receipt.ReceiptKind.{ReceiptKind}
use Rattle.mx_view.specs.Tokens.{is_before}
use Rattle.mx_filter.specs.Passes as filters
use Rattle.mx_filter.specs.declared.parts.DataPart.TheVariants as kinds
use Rattle.mx_filter.specs.declared.parts.Selection.{Selection}
use Rattle.mx_lazy.specs.Summaries.{summary_at}
use Rattle.mx_unread.specs.Unread.{counts_at}
use Rattle.mx_fold.specs.Lists.{Lists, fronts_of}
use Rattle.mx_fold.specs.Pictures.{picture}
use Rattle.mx_rest.specs.Receipts.{is_private, shows}
use Rattle.mx_rest.specs.Servers.{server}
use Rattle.mx_rest.specs.declared.room_view.RoomView.{RoomView}

-- one item, or none
abbrev pub only : {A : Type 0} → Option A → List A
only None = []
only (Some x) = x ∷ []

-- each item of a stream stands at its own position
pub record ArePlaced (l : Lists) : Type 0 where
  pub events : stand_from position_of 1 l.events ≡ true
  pub receipts : stand_from receipt.position_of 1 l.receipts ≡ true
  pub accounts : stand_from account.position_of 1 l.accounts ≡ true

-- a receipt is of this user and kind
abbrev pub is_by : List ℕ → ReceiptKind → Receipt → Bool
is_by who kind x = bytes_eq x.user who && same_kind x.kind kind

-- a user is told the receipts of this user and kind: where the filter has receipts, but for the private ones of others
abbrev pub is_told : Selection → List ℕ → List ℕ → ReceiptKind → Bool
is_told f user who kind = shows f && (not (is_private kind) || bytes_eq who user)

-- the filter has the room's account data of a type
abbrev pub has_type : Selection → List ℕ → Bool
has_type f kind = filters.passes_type f kinds.RoomAccount kind

-- of each user and kind the standing receipt at the token, of each type the value at it, and the counts and the summary at it; and of no user, kind
-- and type anything else
pub record IsRest (user : List ℕ) (f : Selection) (room : RoomId) (l : Lists) (t : SyncToken) (view : RoomView) : Type 0 where
  pub receipts : (who : List ℕ) (kind : ReceiptKind)
      → filter (is_by who kind) view.receipts ≡ only (cond (is_told f user who kind) (standing room who kind t.r l.receipts) None)
  pub account : (kind : List ℕ) → filter (λ (p : List ℕ × Json). bytes_eq p.0 kind) view.account
      ≡ only (option_map (λ (content : Json). (kind, content)) (cond (has_type f kind) (value_at user (Some room) kind t.a l.accounts) None))
  pub counts : view.counts ≡ counts_at room user l.events l.receipts l.accounts t
  pub summary : view.summary ≡ summary_at user (of_room room l.events) t.e

-- So it is in the picture at each token up to the fronts.
abbrev pub RestsAre : Type 0
RestsAre = (name : List ℕ) (user_of : ℕ → List ℕ) (l : Lists) → ArePlaced l → (user : List ℕ) (f : Selection) (room : RoomId) (t : SyncToken)
    → is_before t (fronts_of l) ≡ true → IsRest user f room l t (picture (server name user_of) l user f t room).view
