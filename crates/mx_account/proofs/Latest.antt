-- A map of references to types and contents, seen as account data.
use Rattle.std.proofs.Common.{◌≡◌, ℕ, List, [], ◌∷◌, Bool, true, false, cond, filter, fold, map, Ordering, Less, Equal, Greater, nat_cmp, Bor, Option, Some, None, bytes_eq, ◌&&◌, refl, ap, sym, ◌∙◌}
use Rattle.std.specs.BTreeMap.{insert_entry}
use Rattle.std.specs.Cmp.Lexicographic.{slice_cmp}
use Rattle.std.specs.Ordering.{match_ordering}
use Rattle.mx_json.specs.declared.value.Json.{Json}
use Rattle.mx_ids.specs.declared.room_id.RoomId.{RoomId}
use Rattle.mx_account.specs.declared.entry.Entry.{Entry}
use Rattle.mx_account.specs.declared.entry.Entry.TheVariants as entry
use Rattle.mx_account.specs.Entries.{is_of, pair_now, pair_of, same_room}
use Rattle.mx_account.specs.Data.{set_entry}

abbrev cmp_now : Bor (List ℕ) → Bor (List ℕ) → Ordering
cmp_now x y = slice_cmp nat_cmp x.now y.now

abbrev put_at : Bor (List ℕ) × Bor Json → List (Bor (List ℕ) × Bor Json) → Bor (List ℕ) → Bor Json → Ordering → List (Bor (List ℕ) × Bor Json)
put_at e es k v o = match_ordering o ((k, v) ∷ e ∷ es) ((e.0, v) ∷ es) (e ∷ insert_entry cmp_now es k v)

abbrev put_now : Bor (List ℕ) × Bor Json → List (Bor (List ℕ) × Bor Json) → Bor (List ℕ) → Bor Json → Ordering → List (List ℕ × Json)
put_now e es k v o =
    match_ordering o (pair_now (k, v) ∷ map pair_now (e ∷ es)) ((e.0.now, v.now) ∷ map pair_now es) (pair_now e ∷ insert_entry (slice_cmp nat_cmp) (map pair_now es) k.now v.now)

one_place : (e : Bor (List ℕ) × Bor Json) (es : List (Bor (List ℕ) × Bor Json)) (k : Bor (List ℕ)) (v : Bor Json) (o : Ordering)
    → map pair_now (insert_entry cmp_now es k v) ≡ insert_entry (slice_cmp nat_cmp) (map pair_now es) k.now v.now
    → map pair_now (put_at e es k v o) ≡ put_now e es k v o
one_place e es k v Less later = refl
one_place e es k v Equal later = refl
one_place e es k v Greater later = ap (λ l. pair_now e ∷ l) later

pub insert_now : (es : List (Bor (List ℕ) × Bor Json)) (k : Bor (List ℕ)) (v : Bor Json)
    → map pair_now (insert_entry cmp_now es k v) ≡ insert_entry (slice_cmp nat_cmp) (map pair_now es) k.now v.now
insert_now [] k v = refl
insert_now (e ∷ es) k v = one_place e es k v (cmp_now k e.0) (insert_now es k v)

-- the entries from one on, which is taken first where it is of the user and room
pub one_entry : (user : List ℕ) (room : Option RoomId) (known made : List (List ℕ × Json)) (e : Entry) (es : List Entry)
    → made ≡ cond (is_of user room e) (set_entry known e) known
    → fold set_entry made (filter (is_of user room) es) ≡ fold set_entry known (filter (is_of user room) (e ∷ es))
one_entry user room known made e es is = ap (λ m. fold set_entry m (filter (is_of user room) es)) is ∙ chosen (is_of user room e)
  where
    chosen : (b : Bool) → fold set_entry (cond b (set_entry known e) known) (filter (is_of user room) es)
        ≡ fold set_entry known (cond b (e ∷ filter (is_of user room) es) (filter (is_of user room) es))
    chosen true = refl
    chosen false = refl

-- what is at a type and a content, where an entry has them
set_known : (known : List (List ℕ × Json)) (kind : List ℕ) (content : Json) (b : Bool) (own_kind : List ℕ) (own : Json) → ◌≡◌ {A = Option (List ℕ × Json)} (Some (kind, content)) (cond b (Some (own_kind, own)) None)
    → insert_entry (slice_cmp nat_cmp) known kind content ≡ cond b (insert_entry (slice_cmp nat_cmp) known own_kind own) known
set_known known kind content true own_kind own is =
    let same : ◌≡◌ {A = List ℕ × Json} (kind, content) (own_kind, own) = cc in
    ap (λ (p : List ℕ × Json). insert_entry (slice_cmp nat_cmp) known p.0 p.1) same
set_known known kind content false own_kind own is = absurd cc

-- an entry that is set, behind references
pub set_now : (user : List ℕ) (room : Option RoomId) (es now : List (Bor (List ℕ) × Bor Json)) (k : Bor (List ℕ)) (v : Bor Json) (e : Entry) → ◌≡◌ {A = Option (List ℕ × Json)} (Some (k.now, v.now)) (pair_of user room e)
    → now ≡ insert_entry cmp_now es k v → map pair_now now ≡ cond (is_of user room e) (set_entry (map pair_now es) e) (map pair_now es)
set_now user room es now k v (entry.Data own_user own_room kind content at) found is =
    ap (map pair_now) is ∙ insert_now es k v ∙ set_known (map pair_now es) k.now v.now (bytes_eq own_user user && same_room own_room room) kind content found
set_now user room es now k v (entry.Filter own_user id filter at) found is = absurd cc
