-- What the fields of a book say, once they change.
use Rattle.std.proofs.Common.{◌≡◌, ℕ, ◌<◌, ◌==◌, Bool, true, false, cond, List, [], ◌∷◌, ◌++◌, drop, length, get_or, set, take, map, Option, Some, None, refl, sym, ap, ap₂, subst, ◌∙◌, arith, length-set}
use Rattle.std.proofs.lemmas.Grind.{common_steps}
use Rattle.std.proofs.lemmas.List.{length-map}
use Rattle.std.proofs.Math.ListN.{get_or-map}
use Rattle.std.specs.List.{AllByRecursion}
use Rattle.mx_core.specs.History.{placed_from}
use Rattle.mx_ids.specs.declared.room_id.RoomId.{RoomId}
use Rattle.mx_event.specs.Lawful.{of_room, placed_event}
use Rattle.mx_event.specs.declared.event.Event.{Event}
use Rattle.mx_auth.specs.Standing.{Standing}
use Rattle.mx_room.specs.declared.rooms.Room.{Room}
use Rattle.mx_room.specs.declared.txns.TxnIndex.{TxnIndex}
use Rattle.mx_room.specs.declared.txn_key.TxnKey.{TxnKey}
use Rattle.mx_room.specs.Admitting.{sent_in}
use Rattle.mx_room.specs.Books.{MayStand, Rooms, events_of, no_rooms, placed_block, taken_in}
use Rattle.mx_room.specs.Creating.{IsNew}
use Rattle.mx_room.specs.Held.{Bare, IsBook, IsRoomAt, OneWaits, Opens, Rises, Waits, after_block, bare, events_at, events_in}
use Rattle.mx_room.specs.Keys.{id_after, id_at, sent_at, txn_of}
use Rattle.mx_room.proofs.Finding.{some_at, state_of}
use Rattle.mx_room.proofs.Earlier.{sent_more, sent_new}
use Rattle.mx_room.proofs.Taking.{all_low, all_of_room, events_after, events_push, items_more, new_room, none_above, opened_at, opens_after, opens_more, opens_push, own_events, own_room, rises_after, rises_push, same_after}

no_events : (b : Bool) → ◌≡◌ {A = List Event} (cond b [] []) []
no_events true = refl
no_events false = refl

-- nothing is held of no rooms
pub book_empty : (writer : ℕ) (txns : TxnIndex) (spare : Type 0) → ((k : TxnKey) → id_at txns k ≡ None) → IsBook writer [] txns None None spare (no_rooms writer)
book_empty writer txns spare empty = record { writes = refl; rises = tt; opens = tt; same = λ room. no_events (room.writer == writer); sent = empty; waits = tt }

-- one event alone waits where no room is new
pub one_waits : (writer : ℕ) (rs : List Room) (txns : TxnIndex) (key : Option TxnKey) (spare : Type 0) (es : List Event) → 0 < length es → Waits writer rs txns key None spare es
    → (e : Event) × (es ≡ e ∷ []) × OneWaits writer rs txns key e
one_waits writer rs txns key spare [] some h = absurd (omega (arith, some))
one_waits writer rs txns key spare (e ∷ []) some h = (e, refl, h)
one_waits writer rs txns key spare (e ∷ f ∷ es) some h = absurd h

-- a new room opens with the first event of its block
opens_new : (first : ℕ) (es : List Event) → 0 < length es → 0 < first → Opens (first, placed_from placed_event first first es)
opens_new first [] some above = absurd (omega (arith, some))
opens_new first (e ∷ es) some above = record { placed = above; first = placed_event e first first; begins = refl; here = refl }

module _ (writer : ℕ) (rs : List Room) (txns : TxnIndex) (key : Option TxnKey) (fresh : Option Standing) (spare : Type 0) (b : Rooms) (held : IsBook writer rs txns key fresh spare b) where
  -- the events of each room stand below a position that is above those of the writer
  low_at : (first : ℕ) → MayStand b first → (at : ℕ) → AllByRecursion (λ (e : Event). e.id.at < first) (events_at at (map bare rs))
  low_at first may at =
      subst (AllByRecursion (λ (e : Event). e.id.at < first))
      (sym (held.same (record { writer = writer; at = at })) ∙ own_events writer at (map bare rs))
      (all_of_room (λ (e : Event). e.id.at < first) (record { writer = writer; at = at }) (events_of b) may.0)

  -- and so does each room
  below : (first : ℕ) → MayStand b first → AllByRecursion (λ (s : Bare). s.0 < first) (map bare rs)
  below first may = all_low first (map bare rs) held.rises held.opens (low_at first may)

  -- the fields after a block is stored
  stored : (rs' : List Room) (txns' : TxnIndex) (key' : Option TxnKey) (spare' : Type 0) (first : ℕ) → Rises (map bare rs') → AllByRecursion Opens (map bare rs')
      → ((room : RoomId) → events_in writer (map bare rs') room ≡ of_room room (events_of b ++ placed_block b first))
      → ((k : TxnKey) → id_at txns' k ≡ sent_in (Some k.txn) (events_of b ++ placed_block b first))
      → IsBook writer rs' txns' key' None spare' (taken_in b first)
  stored rs' txns' key' spare' first rises opens same sent =
      let more : events_of (taken_in b first) ≡ events_of b ++ placed_block b first = items_more b.stores (record { writer = b.writer; first = first; items = placed_block b first }) in
      record {
        writes = held.writes;
        rises = rises;
        opens = opens;
        same = λ room. same room ∙ ap (of_room room) (sym more);
        sent = λ k. sent k ∙ ap (sent_in (Some k.txn)) (sym more);
        waits = tt;
      }

  -- a block that creates a room is stored
  module _ (first : ℕ) (may : MayStand b first) (some : 0 < length b.pending) (new : AllByRecursion (IsNew writer) b.pending) where
    abbrev opened : Room
    opened = record { at = first; state = record { events = placed_block b first; ready = [] } }

    pub new_stored : (rs' : List Room) (spare' : Type 0) → rs' ≡ rs ++ opened ∷ [] → IsBook writer rs' txns key None spare' (taken_in b first)
    new_stored rs' spare' is =
        subst (λ l. IsBook writer l txns key None spare' (taken_in b first)) (sym is)
        (stored (rs ++ opened ∷ []) txns key spare' first (rises_push rs opened (below first may) held.rises)
        (opens_push rs opened (opens_new first b.pending some may.1) held.opens)
        (same_after writer (map bare rs) (map bare (rs ++ opened ∷ [])) (events_of b) (placed_block b first) [] (record { writer = writer; at = first }) refl
        (new_room writer first first b.pending new) (none_above first (map bare rs) (below first may))
        (λ k. events_push k rs opened (below first may)) held.same)
        (λ k. held.sent k ∙ sym (sent_new k.txn writer first first (events_of b) b.pending new)))

-- a block that creates a room is stored
pub took_new : (writer : ℕ) (rs : List Room) (txns : TxnIndex) (key : Option TxnKey) (s : Standing) (spare : Type 0) (b : Rooms) → IsBook writer rs txns key (Some s) spare b
    → (first : ℕ) → MayStand b first → 0 < length b.pending → (rs' : List Room) (spare' : Type 0)
    → rs' ≡ rs ++ record { at = first; state = record { events = s.events ++ placed_from placed_event first first b.pending; ready = [] } } ∷ []
    → IsBook writer rs' txns key None spare' (taken_in b first)
took_new writer rs txns key s spare b held first may some rs' spare' is =
    new_stored writer rs txns key (Some s) spare b held first may some held.waits.2 rs' spare'
    (is ∙ ap (λ es. rs ++ record { at = first; state = record { events = es ++ placed_from placed_event first first b.pending; ready = [] } } ∷ []) held.waits.0)

-- one event is stored, in the room at an index
module _ (writer : ℕ) (rs : List Room) (txns : TxnIndex) (key : Option TxnKey) (spare : Type 0) (b : Rooms) (held : IsBook writer rs txns key None spare b) (first : ℕ) (may : MayStand b first) where
  module _ (e : Event) (waits : OneWaits writer rs txns key e) (i : ℕ) (d : Room) (within : i < length rs) (at : (get_or rs i d).at ≡ e.room.at) where
    abbrev was : Room
    was = get_or rs i d

    abbrev now : Room
    now = after_block first (e ∷ []) was

    abbrev events : List Event
    events = events_of b

    abbrev placed : Event
    placed = placed_event e first first

    above : 0 < e.room.at
    above = subst (λ n. 0 < n) at (opened_at d rs i within held.opens).placed

    kept : placed.room ≡ e.room
    kept = own_room first first e above

    one_same : (room : RoomId) → events_in writer (map bare (set rs i now)) room ≡ of_room room (events ++ placed ∷ [])
    one_same =
        same_after writer (map bare rs) (map bare (set rs i now)) events (placed ∷ []) was.state.events e.room waits.writes (kept, tt)
        (some_at e.room.at rs was.state (state_of e.room.at rs i d held.rises within at)) (λ k. events_after d k e.room.at rs i now held.rises within at at) held.same

    none_sent : sent_in (txn_of key) events ≡ None
    none_sent = by_key key waits.first where
      by_key : (k : Option TxnKey) → sent_at txns k ≡ None → sent_in (txn_of k) events ≡ None
      by_key None h = refl
      by_key (Some k) h = sym (held.sent k) ∙ h

    one_sent : (txns' : TxnIndex) → ((k : TxnKey) → id_at txns' k ≡ id_after key (record { at = first }) k (id_at txns k)) → (k : TxnKey) → id_at txns' k ≡ sent_in (Some k.txn) (events ++ placed ∷ [])
    one_sent txns' after k =
        after k ∙ (ap (id_after key (record { at = first }) k) (held.sent k) ∙ sent_more k first events e key waits.named none_sent)

    pub one_stored : (txns' : TxnIndex) (key' : Option TxnKey) (spare' : Type 0) → b.pending ≡ e ∷ [] → ((k : TxnKey) → id_at txns' k ≡ id_after key (record { at = first }) k (id_at txns k))
        → IsBook writer (set rs i now) txns' key' None spare' (taken_in b first)
    one_stored txns' key' spare' pending after =
        let block : placed_block b first ≡ placed ∷ [] = ap (placed_from placed_event first first) pending in
        stored writer rs txns key None spare b held (set rs i now) txns' key' spare' first (rises_after d rs i now within refl held.rises)
        (opens_after d rs i now within (opens_more was.at was.state.events (placed ∷ [])) held.opens)
        (λ room. one_same room ∙ ap (λ l. of_room room (events ++ l)) (sym block))
        (λ k. one_sent txns' after k ∙ ap (λ l. sent_in (Some k.txn) (events ++ l)) (sym block))

-- ---- what the code did, by equations

-- a block that creates a room was stored
pub after_new : {writer : ℕ} {rs : List Room} {txns : TxnIndex} {key : Option TxnKey} {fresh : Option Standing} {spare : Type 0} {b : Rooms} → IsBook writer rs txns key fresh spare b
    → (s : Standing) → fresh ≡ Some s → (view : Rooms) → b ≡ view → (first : ℕ) → MayStand view first → 0 < length view.pending → (es : List Event) → es ≡ view.pending
    → (rs' : List Room) → rs' ≡ rs ++ record { at = first; state = record { events = s.events ++ placed_from placed_event first first es; ready = [] } } ∷ []
    → (fresh' : Option Standing) → fresh' ≡ None → (b' : Rooms) → b' ≡ taken_in b first → (spare' : Type 0) → IsBook writer rs' txns key fresh' spare' b'
after_new {writer} {rs} {txns} {key} {fresh} {spare} {b} held s there view is first may some es block rs' longer fresh' gone b' taken spare' =
    let all : IsBook writer rs' txns key None spare' (taken_in b first) =
    took_new writer rs txns key s spare b (subst (λ f. IsBook writer rs txns key f spare b) there held) first (subst (λ v. MayStand v first) (sym is) may)
    (subst (λ (v : Rooms). 0 < length v.pending) (sym is) some) rs' spare'
    (longer ∙ ap (λ l. rs ++ record { at = first; state = record { events = s.events ++ placed_from placed_event first first l; ready = [] } } ∷ []) (block ∙ ap (λ (v : Rooms). v.pending) (sym is))) in
    subst (λ f. IsBook writer rs' txns key f spare' b') (sym gone) (subst (λ v. IsBook writer rs' txns key None spare' v) (sym taken) all)

-- the elements of a `Vec` whose slice was written
written : (n : ℕ) (xs ys : List Room) → n ≡ length ys → length xs ≡ length ys → take n (xs ++ drop (length xs) ys) ≡ xs
written n xs ys whole same = grind (arith, common_steps)

blank : Room
blank = record { at = 0; state = record { events = []; ready = [] } }

-- one event was stored
pub after_one : {writer : ℕ} {rs : List Room} {txns : TxnIndex} {key : Option TxnKey} {fresh : Option Standing} {spare : Type 0} {b : Rooms} → IsBook writer rs txns key fresh spare b
    → fresh ≡ None → (view : Rooms) → b ≡ view → (first : ℕ) → MayStand view first → 0 < length view.pending → (es : List Event) → es ≡ view.pending
    → (v : Event) (old : List Room) → old ≡ rs → (i : ℕ) → i < length old → ((d : Room) → (get_or old i d).at ≡ (get_or es 0 v).room.at)
    → (old' rs' : List Room) → old' ≡ rs → ((d : Room) → rs' ≡ set old' i (after_block first es (get_or old' i d)))
    → (txns' : TxnIndex) (moved key' : Option TxnKey) → moved ≡ key → ((k : TxnKey) → id_at txns' k ≡ id_after moved (record { at = first }) k (id_at txns k))
    → (fresh' : Option Standing) → fresh' ≡ None → (b' : Rooms) → b' ≡ taken_in b first → (spare' : Type 0) → (n : ℕ) → n ≡ length rs
    → IsBook writer (take n (rs' ++ drop (length rs') rs)) txns' key' fresh' spare' b'
after_one {writer} {rs} {txns} {key} {fresh} {spare} {b} held none view is first may some es block v old was i within at old' rs' was' later txns' moved key' its sent fresh' gone b' taken spare' n whole =
    let held' : IsBook writer rs txns key None spare b = subst (λ f. IsBook writer rs txns key f spare b) none held in
    let one : (e : Event) × (b.pending ≡ e ∷ []) × OneWaits writer rs txns key e =
    one_waits writer rs txns key spare b.pending (subst (λ (r : Rooms). 0 < length r.pending) (sym is) some) held'.waits in
    let same : es ≡ one.0 ∷ [] = block ∙ (ap (λ (r : Rooms). r.pending) (sym is) ∙ one.1) in
    let within' : i < length rs = subst (λ (l : List Room). i < length l) was within in
    let here : (get_or rs i blank).at ≡ one.0.room.at = ap (λ (l : List Room). (get_or l i blank).at) (sym was) ∙ (at blank ∙ ap (λ l. (get_or l 0 v).room.at) same) in
    let set_is : rs' ≡ set rs i (after_block first (one.0 ∷ []) (get_or rs i blank)) = later blank ∙ ap₂ (λ l m. set l i (after_block first m (get_or l i blank))) was' same in
    let size : length rs' ≡ length rs = ap length set_is ∙ length-set rs i (after_block first (one.0 ∷ []) (get_or rs i blank)) in
    let all : IsBook writer (set rs i (after_block first (one.0 ∷ []) (get_or rs i blank))) txns' key' None spare' (taken_in b first) =
    one_stored writer rs txns key spare b held' first (subst (λ r. MayStand r first) (sym is) may) one.0 one.2 i blank within' here txns' key' spare' one.1 (subst (λ m. (k : TxnKey) → id_at txns' k ≡ id_after m (record { at = first }) k (id_at txns k)) its sent) in
    subst (λ l. IsBook writer l txns' key' fresh' spare' b') (sym (written n rs' rs whole size ∙ set_is))
    (subst (λ f. IsBook writer (set rs i (after_block first (one.0 ∷ []) (get_or rs i blank))) txns' key' f spare' b') (sym gone)
    (subst (λ r. IsBook writer (set rs i (after_block first (one.0 ∷ []) (get_or rs i blank))) txns' key' None spare' r) (sym taken) all))

-- rooms of which none got an event or lost one
module _ {writer : ℕ} {rs : List Room} {txns : TxnIndex} {key : Option TxnKey} {fresh : Option Standing} {spare : Type 0} {b : Rooms} (held : IsBook writer rs txns key fresh spare b)
    (rs' : List Room) (kept : map bare rs' ≡ map bare rs) (txns' : TxnIndex) (same : (k : TxnKey) → id_at txns' k ≡ id_at txns k) (key' : Option TxnKey) (b' : Rooms) (spare' : Type 0) where
  waits_now : (es : List Event) → Waits writer rs' txns' key' None spare' es → b' ≡ record b { pending = es } → IsBook writer rs' txns' key' None spare' b'
  waits_now es waits is =
      let all : IsBook writer rs' txns' key' None spare' (record b { pending = es }) = record {
        writes = held.writes;
        rises = subst Rises (sym kept) held.rises;
        opens = subst (AllByRecursion Opens) (sym kept) held.opens;
        same = λ room. ap (λ rooms. events_in writer rooms room) kept ∙ held.same room;
        sent = λ k. same k ∙ held.sent k;
        waits = waits;
      } in subst (λ v. IsBook writer rs' txns' key' None spare' v) (sym is) all

  -- no block waits
  pub after_drop : b' ≡ record b { pending = [] } → IsBook writer rs' txns' key' None spare' b'
  after_drop is = waits_now [] tt is

  size : length rs' ≡ length rs
  size = sym (length-map rs' bare) ∙ (ap length kept ∙ length-map rs bare)

  at_kept : (i : ℕ) (d : Room) → (get_or rs' i d).at ≡ (get_or rs i d).at
  at_kept i d = ap (λ (r : Bare). r.0) (sym (get_or-map bare rs' i d) ∙ (ap (λ l. get_or l i (bare d)) kept ∙ get_or-map bare rs i d))

  not_sent : (k : Option TxnKey) → sent_at txns k ≡ None → sent_at txns' k ≡ None
  not_sent None h = refl
  not_sent (Some k) h = same k ∙ h

  -- one event waits, in the room at an index
  pub after_ready : (e : Event) (old : List Room) → old ≡ rs → (i : ℕ) → IsRoomAt writer old e.room i → ((d : Room) → (get_or rs' i d).state.ready ≡ e ∷ [])
      → txn_of key' ≡ e.txn → txns'.last ≡ None → sent_at txns key' ≡ None → b' ≡ record b { pending = e ∷ [] } → IsBook writer rs' txns' key' None spare' b'
  after_ready e old was i at room named settled first is =
      let within : i < length rs' = subst (λ n. i < n) (ap length was ∙ sym size) at.within in
      let here : (get_or rs' i blank).at ≡ e.room.at = at_kept i blank ∙ (ap (λ l. (get_or l i blank).at) (sym was) ∙ at.here blank) in
      let waits : OneWaits writer rs' txns' key' e = record {
        writes = at.writes;
        room = ((get_or rs' i blank).state, state_of e.room.at rs' i blank (subst Rises (sym kept) held.rises) within here, room blank);
        named = named;
        settled = settled;
        first = not_sent key' first;
      } in waits_now (e ∷ []) waits is

-- the rooms of a `Vec` whose slice was written
pub bare_written : (n : ℕ) (xs ys : List Room) → n ≡ length ys → map bare xs ≡ map bare ys → map bare (take n (xs ++ drop (length xs) ys)) ≡ map bare ys
bare_written n xs ys whole same = ap (map bare) (written n xs ys whole (sym (length-map xs bare) ∙ (ap length same ∙ length-map ys bare))) ∙ same

pub ready_written : (n : ℕ) (xs ys : List Room) → n ≡ length ys → map bare xs ≡ map bare ys → (i : ℕ) (block : List Event) → ((d : Room) → (get_or xs i d).state.ready ≡ block)
    → (d : Room) → (get_or (take n (xs ++ drop (length xs) ys)) i d).state.ready ≡ block
ready_written n xs ys whole same i block is d =
    ap (λ l. (get_or l i d).state.ready) (written n xs ys whole (sym (length-map xs bare) ∙ (ap length same ∙ length-map ys bare))) ∙ is d
