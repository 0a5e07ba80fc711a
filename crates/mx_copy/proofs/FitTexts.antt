-- Texts of ids and tokens are UTF-8.
use Rattle.std.proofs.Common.{◌<◌, ℕ, ◌+◌, ◌==◌, Bool, true, false, List, [], ◌∷◌, ◌++◌, map, IsUtf8, if◌then◌else◌, arith}
use Rattle.std.proofs.lemmas.Int.Digits.{all_below_base_digits_of}
use Rattle.std.proofs.lemmas.Str.{IsUtf8-append, IsUtf8-from_ascii, IsUtf8-from_is_utf8, is_utf8-from_IsUtf8}
use Rattle.std.proofs.lemmas.Str.Ascii.{IsAscii-cons, IsAscii-nil}
use Rattle.std.specs.Int.Digits.{AllBelowBase, digits_of}
use Rattle.std.specs.Str.{IsAscii}
use Rattle.mx_ids.specs.Decimal.{numeral}
use Rattle.mx_ids.specs.Ids.{event_id_text, room_id_text}
use Rattle.mx_ids.specs.Page.{page_text}
use Rattle.mx_ids.specs.Sync.{sync_text}
use Rattle.mx_ids.specs.declared.event_id.EventId.{EventId}
use Rattle.mx_ids.specs.declared.page_token.PageToken.{PageToken}
use Rattle.mx_ids.specs.declared.room_id.RoomId.{RoomId}
use Rattle.mx_ids.specs.declared.sync_token.SyncToken.{SyncToken}
use Rattle.mx_copy.specs.Writable.{IsText}

digits_ascii : (ds : List ℕ) → AllBelowBase 10 ds → IsAscii (map (λ d. 48 + d) ds)
digits_ascii [] all = IsAscii-nil
digits_ascii (d ∷ ds) all = IsAscii-cons (48 + d) (map (λ e. 48 + e) ds) (omega (arith, all.0)) (digits_ascii ds all.1)

-- a character of ASCII in front
behind : (c : ℕ) (text : List ℕ) → c < 128 → IsUtf8 text → IsUtf8 (c ∷ text)
behind c text small is = IsUtf8-append (c ∷ []) text (IsUtf8-from_ascii (c ∷ []) (IsAscii-cons c [] small IsAscii-nil)) is

number_text : (n : ℕ) → IsUtf8 (numeral n)
unfolding numeral
number_text n = by_test (n == 0)
  where
    by_test : (b : Bool) → IsUtf8 (if b then 48 ∷ [] else map (λ d. 48 + d) (digits_of 10 n))
    by_test true = IsUtf8-from_ascii (48 ∷ []) (IsAscii-cons 48 [] (omega arith) IsAscii-nil)
    by_test false = IsUtf8-from_ascii _ (digits_ascii (digits_of 10 n) (all_below_base_digits_of 10 n (omega arith)))

-- a number between two texts
then_number : (c n : ℕ) (text : List ℕ) → c < 128 → IsUtf8 text → IsUtf8 (c ∷ (numeral n ++ text))
then_number c n text small is = behind c (numeral n ++ text) small (IsUtf8-append (numeral n) text (number_text n) is)

last_number : (c n : ℕ) → c < 128 → IsUtf8 (c ∷ numeral n)
last_number c n small = behind c (numeral n) small (number_text n)

pub event_text : (server : List ℕ) (id : EventId) → IsText server → IsText (event_id_text server id)
unfolding event_id_text
event_text server id is = is_utf8-from_IsUtf8 _ (then_number 36 id.at (58 ∷ server) (omega arith) (behind 58 server (omega arith) (IsUtf8-from_is_utf8 server is)))

pub room_text : (server : List ℕ) (id : RoomId) → IsText server → IsText (room_id_text server id)
unfolding room_id_text
room_text server id is =
    is_utf8-from_IsUtf8 _ (then_number 33 id.writer _ (omega arith) (then_number 45 id.at (58 ∷ server) (omega arith) (behind 58 server (omega arith) (IsUtf8-from_is_utf8 server is))))

pub page_token_text : (t : PageToken) → IsText (page_text t)
unfolding page_text
page_token_text t = is_utf8-from_IsUtf8 _ (then_number 112 t.at _ (omega arith) (last_number 95 t.e (omega arith)))

pub sync_token_text : (t : SyncToken) → IsText (sync_text t)
unfolding sync_text
sync_token_text t =
    is_utf8-from_IsUtf8 _ (then_number 115 t.e _ (omega arith) (then_number 95 t.r _ (omega arith) (then_number 95 t.a _ (omega arith) (then_number 95 t.d _ (omega arith) (last_number 95 t.b (omega arith))))))
