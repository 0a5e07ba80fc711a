-- The indices of receipts and of account data, with one item more.
use Rattle.std.proofs.Common.{◌≡◌, ℕ, ◌&&◌, Bool, true, false, List, [], ◌∷◌, ◌++◌, Option, Some, None, append-nil, filter, map, refl, sym, subst, ap, ap₂, ◌∙◌}
use Rattle.std.specs.List.{AllByRecursion}
use Rattle.std.specs.Str.{bytes_eq}
use Rattle.mx_ids.specs.declared.room_id.RoomId.{RoomId}
use Rattle.mx_event.specs.Lawful as rooms
use Rattle.mx_receipt.specs.Receipts as receipt
use Rattle.mx_receipt.specs.declared.receipt.Receipt.{Receipt}
use Rattle.mx_receipt.specs.declared.receipt.ReceiptKind.{ReceiptKind}
use Rattle.mx_receipt.specs.declared.receipt.ReceiptKind.TheVariants.{Read, Private}
use Rattle.mx_account.specs.Entries.{is_data_of, position_of, same_room}
use Rattle.mx_account.specs.declared.entry.Entry.{Entry}
use Rattle.mx_account.specs.declared.entry.Entry.TheVariants as entry
use Rattle.mx_json.specs.declared.value.Json.{Json}
use Rattle.mx_window.proofs.Each.{filter-same}
use Rattle.mx_snapshot.specs.Accounts.{IsIndexed, is_filter_of, is_users}
use Rattle.mx_snapshot.specs.Lists.{Keys, key_at, kind_at, one, room_at, version_at}
use Rattle.mx_snapshot.specs.Receipts as receipts
use Rattle.mx_snapshot.specs.declared.account_index.AccountIndex.{AccountIndex}
use Rattle.mx_snapshot.specs.declared.receipt_index.ReceiptIndex.{ReceiptIndex}
use Rattle.mx_snapshot.proofs.Found.{positions_more}

-- a receipt whose kind and user are read as texts
pub next_receipt : (old new : ReceiptIndex) (rs : List Receipt) (r : Receipt) (kind user : List ℕ) → kind ≡ receipts.kind_name r.kind → user ≡ r.user
    → ((room : RoomId) → room_at new.rooms room ≡ room_at old.rooms room ++ one (rooms.same_room r.room room) r.at)
    → ((room : RoomId) (t k : List ℕ) → version_at new.own room t k ≡ version_at old.own room t k ++ one (rooms.same_room r.room room && (bytes_eq kind t && bytes_eq user k)) r.at)
    → receipts.IsIndexed old rs → receipts.IsIndexed new (rs ++ r ∷ [])
next_receipt old new rs r kind user alike same placed own was = record {
  rooms = λ room. placed room ∙ ap (λ l. l ++ one (rooms.same_room r.room room) r.at) (was.rooms room) ∙ sym (positions_more receipt.position_of (λ (s : Receipt). rooms.same_room s.room room) rs r);
  own = λ room t k. own room t k ∙ ap₂ (λ n u. version_at old.own room t k ++ one (rooms.same_room r.room room && (bytes_eq n t && bytes_eq u k)) r.at) alike same
      ∙ ap (λ l. l ++ one (receipts.is_named room t k r) r.at) (was.own room t k) ∙ sym (positions_more receipt.position_of (receipts.is_named room t k) rs r);
}

-- the receipts of a room, kind and user
pub named_is : (room : RoomId) (user : List ℕ) (kind : ReceiptKind) (rs : List Receipt) → filter (receipts.is_named room (receipts.kind_name kind) user) rs ≡ receipts.of_user room user kind rs
named_is room user kind rs = filter-same (receipts.is_named room (receipts.kind_name kind) user) (receipt.is_for room user kind) rs (all_alike rs) where
  by_tests : (a b : Bool) (own kind : ReceiptKind) → (a && (bytes_eq (receipts.kind_name own) (receipts.kind_name kind) && b)) ≡ ((a && b) && receipt.same_kind own kind)
  by_tests true true Read Read = refl
  by_tests true true Read Private = refl
  by_tests true true Private Read = refl
  by_tests true true Private Private = refl
  by_tests true false Read Read = refl
  by_tests true false Read Private = refl
  by_tests true false Private Read = refl
  by_tests true false Private Private = refl
  by_tests false b own kind = refl

  all_alike : (rs : List Receipt) → AllByRecursion (λ (r : Receipt). receipts.is_named room (receipts.kind_name kind) user r ≡ receipt.is_for room user kind r) rs
  all_alike [] = tt
  all_alike (r ∷ rs) = (by_tests (rooms.same_room r.room room) (bytes_eq r.user user) r.kind kind, all_alike rs)

-- the positions of these, where the kind is read as a text
pub user_positions : (index : ReceiptIndex) (rs : List Receipt) (room : RoomId) (user : List ℕ) (kind : ReceiptKind) (name ps : List ℕ) → name ≡ receipts.kind_name kind
    → ps ≡ version_at index.own room name user → receipts.IsIndexed index rs → ps ≡ map receipt.position_of (receipts.of_user room user kind rs)
user_positions index rs room user kind name ps alike found indexed =
    found ∙ ap (λ n. version_at index.own room n user) alike ∙ indexed.own room (receipts.kind_name kind) user ∙ ap (map receipt.position_of) (named_is room user kind rs)

pub next_entry : (old new : AccountIndex) (es : List Entry) (e : Entry)
    → ((u : List ℕ) → key_at new.users u ≡ key_at old.users u ++ one (is_users u e) (position_of e))
    → ((u k : List ℕ) → kind_at new.global u k ≡ kind_at old.global u k ++ one (is_data_of u None k e) (position_of e))
    → ((r : RoomId) (u k : List ℕ) → version_at new.rooms r u k ≡ version_at old.rooms r u k ++ one (is_data_of u (Some r) k e) (position_of e))
    → ((u : List ℕ) → key_at new.filters u ≡ key_at old.filters u ++ one (is_filter_of u e) (position_of e))
    → IsIndexed old es → IsIndexed new (es ++ e ∷ [])
next_entry old new es e users global rooms filters was = record {
  users = λ u. users u ∙ ap (λ l. l ++ one (is_users u e) (position_of e)) (was.users u) ∙ sym (positions_more position_of (is_users u) es e);
  global = λ u k. global u k ∙ ap (λ l. l ++ one (is_data_of u None k e) (position_of e)) (was.global u k) ∙ sym (positions_more position_of (is_data_of u None k) es e);
  rooms = λ r u k. rooms r u k ∙ ap (λ l. l ++ one (is_data_of u (Some r) k e) (position_of e)) (was.rooms r u k) ∙ sym (positions_more position_of (is_data_of u (Some r) k) es e);
  filters = λ u. filters u ∙ ap (λ l. l ++ one (is_filter_of u e) (position_of e)) (was.filters u) ∙ sym (positions_more position_of (is_filter_of u) es e);
}

-- an entry of data whose user and type are read as texts
pub next_data : (old new : AccountIndex) (es : List Entry) (e : Entry) (user kind name type_ : List ℕ) (room : Option RoomId) (content : Json) (at : ℕ)
    → e ≡ entry.Data user room kind content at → name ≡ user → type_ ≡ kind
    → ((u : List ℕ) → key_at new.users u ≡ key_at old.users u ++ one (bytes_eq name u) at)
    → ((u k : List ℕ) → kind_at new.global u k ≡ kind_at old.global u k ++ one ((bytes_eq name u && same_room room None) && bytes_eq type_ k) at)
    → ((r : RoomId) (u k : List ℕ) → version_at new.rooms r u k ≡ version_at old.rooms r u k ++ one ((bytes_eq name u && same_room room (Some r)) && bytes_eq type_ k) at)
    → new.filters ≡ old.filters
    → IsIndexed old es → IsIndexed new (es ++ e ∷ [])
next_data old new es e user kind name type_ room content at is same alike users global rooms filters was =
    subst (λ (d : Entry). IsIndexed new (es ++ d ∷ [])) (sym is) (next_entry old new es (entry.Data user room kind content at)
    (λ u. users u ∙ ap (λ n. key_at old.users u ++ one (bytes_eq n u) at) same)
    (λ u k. global u k ∙ ap₂ (λ n t. kind_at old.global u k ++ one ((bytes_eq n u && same_room room None) && bytes_eq t k) at) same alike)
    (λ r u k. rooms r u k ∙ ap₂ (λ n t. version_at old.rooms r u k ++ one ((bytes_eq n u && same_room room (Some r)) && bytes_eq t k) at) same alike)
    (λ u. ap (λ m. key_at m u) filters ∙ sym (append-nil (key_at old.filters u)))
    was)

-- a filter whose user is read as a text
pub next_filter : (old : AccountIndex) (filters : Keys) (es : List Entry) (e : Entry) (user name : List ℕ) (id : ℕ) (filter : Json) (at : ℕ) → e ≡ entry.Filter user id filter at → name ≡ user
    → ((u : List ℕ) → key_at filters u ≡ key_at old.filters u ++ one (bytes_eq name u) at)
    → IsIndexed old es → IsIndexed (record { users = old.users; global = old.global; rooms = old.rooms; filters = filters }) (es ++ e ∷ [])
next_filter old filters es e user name id filter at is same put was =
    let new : AccountIndex = record { users = old.users; global = old.global; rooms = old.rooms; filters = filters } in
    subst (λ (d : Entry). IsIndexed new (es ++ d ∷ [])) (sym is) (next_entry old new es (entry.Filter user id filter at)
    (λ u. sym (append-nil (key_at old.users u)))
    (λ u k. sym (append-nil (kind_at old.global u k)))
    (λ r u k. sym (append-nil (version_at old.rooms r u k)))
    (λ u. put u ∙ ap (λ n. key_at old.filters u ++ one (bytes_eq n u) at) same)
    was)
