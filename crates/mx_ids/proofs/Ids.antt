-- Reading room ids and event ids: what is read is spelled so, and what is spelled so is read.
use Rattle.std.proofs.Common.{◌≡◌, ◌≢◌, ℕ, ◌-◌, ◌^◌, ◌<◌, min, true, ◌&&◌, leb, ltb, eqb, List, [], ◌∷◌, ◌++◌, Option, Some, None, MatchOption, decimal, refl, sym, ap, ap₂, ◌∙◌, arith}
use Rattle.std.proofs.lemmas.Option.{cond_some}
use Rattle.std.proofs.lemmas.Bool.{and_parts, and_from, cond-true, eqb-true, leb-true, le-leb, ltb-true, lt-ltb}
use Rattle.std.proofs.lemmas.Slice.Eq.{bytes_eq-Decides}
use Rattle.std.specs.Str.{bytes_eq}
use Rattle.mx_ids.specs.Decimal.{numeral}
use Rattle.mx_ids.specs.Ids.{room_id_text, IsRoomId, event_id_text, IsEventId, is_server_part, room_of, room_id_at, event_of, event_id_at}
use Rattle.mx_ids.specs.declared.event_id.EventId.{EventId}
use Rattle.mx_ids.specs.declared.room_id.RoomId.{RoomId}
use Rattle.mx_ids.proofs.Numerals.{decimal-numeral}
use Rattle.mx_ids.proofs.Read.{then_number, number_then, same_number}

-- what `!{writer}-{at}:{server}` prints
pub room_id_text_prints : (server : List ℕ) (room : RoomId) → room.writer < 2 ^ 8 → room.at < 2 ^ 64 → room_id_text server room ≡ 33 ∷ (decimal room.writer ++ 45 ∷ (decimal room.at ++ 58 ∷ server))
unfolding room_id_text
room_id_text_prints server room writer at = λ i. 33 ∷ (sym (decimal-numeral room.writer (omega (arith, writer))) i ++ 45 ∷ (sym (decimal-numeral room.at at) i ++ 58 ∷ server))

-- what `${at}:{server}` prints
pub event_id_text_prints : (server : List ℕ) (event : EventId) → event.at < 2 ^ 64 → event_id_text server event ≡ 36 ∷ (decimal event.at ++ 58 ∷ server)
unfolding event_id_text
event_id_text_prints server event at = λ i. 36 ∷ (sym (decimal-numeral event.at at) i ++ 58 ∷ server)

part_is : (server rest : List ℕ) → is_server_part server rest ≡ true → rest ≡ 58 ∷ server
unfolding is_server_part
part_is server [] h = absurd (cc)
part_is server (c ∷ cs) h =
    let both = and_parts (eqb c 58) (bytes_eq cs server) h in
    λ i. eqb-true c 58 both.0 i ∷ (bytes_eq-Decides cs server).0 both.1 i

is_part : (server : List ℕ) → is_server_part server (58 ∷ server) ≡ true
unfolding is_server_part
is_part server = and_from (eqb 58 58) (bytes_eq server server) refl ((bytes_eq-Decides server server).1 refl)

-- a number that is below 2^48 when it is read as a `u64`
below_cut : (n : ℕ) → ltb (min n (2 ^ 64 - 1)) (2 ^ 48) ≡ true → (n < 2 ^ 48) × (min n (2 ^ 64 - 1) ≡ n)
below_cut n test =
    let below = ltb-true (min n (2 ^ 64 - 1)) (2 ^ 48) test in
    (omega (arith, below), omega (arith, below))

room_spells : (server text : List ℕ) (room : RoomId) → room_id_at (2 ^ 64 - 1) server text ≡ Some room → (text ≡ room_id_text server room) × IsRoomId room
unfolding room_id_at room_id_text
room_spells server text room h =
    let most = 2 ^ 64 - 1 in
    let writer = number_then most 33 text _ room h in
    let at = number_then most 45 writer.1 _ room writer.3 in
    let w = min writer.0 most in
    let a = min at.0 most in
    let end = cond_some (is_server_part server at.1 && leb w 15 && ltb a (2 ^ 48)) (record { writer = w; at = a }) room at.3 in
    let both = and_parts (is_server_part server at.1 && leb w 15) (ltb a (2 ^ 48)) end.0 in
    let front = and_parts (is_server_part server at.1) (leb w 15) both.0 in
    let low = leb-true w 15 front.1 in
    let below = below_cut at.0 both.1 in
    let w_is : writer.0 ≡ room.writer = let cut : writer.0 ≡ w = omega (arith, low) in cut ∙ ap (λ (r : RoomId). r.writer) end.1 in
    let a_is : at.0 ≡ room.at = sym below.1 ∙ ap (λ (r : RoomId). r.at) end.1 in
    let whole : text ≡ 33 ∷ (numeral writer.0 ++ 45 ∷ (numeral at.0 ++ 58 ∷ server)) =
    writer.2 ∙ ap (λ xs. 33 ∷ (numeral writer.0 ++ xs)) (at.2 ∙ ap (λ xs. 45 ∷ (numeral at.0 ++ xs)) (part_is server at.1 front.0)) in
    (whole ∙ (λ i. 33 ∷ (numeral (w_is i) ++ 45 ∷ (numeral (a_is i) ++ 58 ∷ server))), (omega (arith, low, w_is), omega (arith, below.0, a_is)))

room_reads : (server : List ℕ) (room : RoomId) → IsRoomId room → room_id_at (2 ^ 64 - 1) server (room_id_text server room) ≡ Some room
unfolding room_id_at room_id_text
room_reads server room is =
    let most = 2 ^ 64 - 1 in
    let w_is : min room.writer most ≡ room.writer = omega (arith, is.0) in
    let a_is : min room.at most ≡ room.at = omega (arith, is.1) in
    let test = and_from (is_server_part server (58 ∷ server) && leb room.writer 15) (ltb room.at (2 ^ 48)) (and_from (is_server_part server (58 ∷ server)) (leb room.writer 15) (is_part server) (le-leb room.writer 15 is.0)) (lt-ltb room.at (2 ^ 48) is.1) in
    then_number most room.writer (45 ∷ (numeral room.at ++ 58 ∷ server)) _ 33 _ refl
    (then_number most room.at (58 ∷ server) _ 45 _ refl
    (ap₂ (λ w a. room_of server w (a, 58 ∷ server)) w_is a_is ∙ cond-true (is_server_part server (58 ∷ server) && leb room.writer 15 && ltb room.at (2 ^ 48)) (Some room) None test))

pub same_room : (server : List ℕ) (x y : RoomId) → room_id_text server x ≡ room_id_text server y → x ≡ y
unfolding room_id_text
same_room server x y same =
    let writer = same_number 33 x.writer y.writer (45 ∷ (numeral x.at ++ 58 ∷ server)) (45 ∷ (numeral y.at ++ 58 ∷ server)) refl refl same in
    let at = same_number 45 x.at y.at (58 ∷ server) (58 ∷ server) refl refl writer.1 in
    λ i. record { writer = writer.0 i; at = at.0 i }

event_spells : (server text : List ℕ) (event : EventId) → event_id_at (2 ^ 64 - 1) server text ≡ Some event → (text ≡ event_id_text server event) × IsEventId event
unfolding event_id_at event_id_text
event_spells server text event h =
    let most = 2 ^ 64 - 1 in
    let at = number_then most 36 text _ event h in
    let a = min at.0 most in
    let end = cond_some (is_server_part server at.1 && ltb a (2 ^ 48)) (record { at = a }) event at.3 in
    let both = and_parts (is_server_part server at.1) (ltb a (2 ^ 48)) end.0 in
    let below = below_cut at.0 both.1 in
    let a_is : at.0 ≡ event.at = sym below.1 ∙ ap (λ (e : EventId). e.at) end.1 in
    (at.2 ∙ ap (λ xs. 36 ∷ (numeral at.0 ++ xs)) (part_is server at.1 both.0) ∙ (λ i. 36 ∷ (numeral (a_is i) ++ 58 ∷ server)), omega (arith, below.0, a_is))

event_reads : (server : List ℕ) (event : EventId) → IsEventId event → event_id_at (2 ^ 64 - 1) server (event_id_text server event) ≡ Some event
unfolding event_id_at event_id_text
event_reads server event is =
    let most = 2 ^ 64 - 1 in
    let a_is : min event.at most ≡ event.at = omega (arith, is) in
    let test = and_from (is_server_part server (58 ∷ server)) (ltb event.at (2 ^ 48)) (is_part server) (lt-ltb event.at (2 ^ 48) is) in
    then_number most event.at (58 ∷ server) _ 36 _ refl
    (ap (λ a. event_of server (a, 58 ∷ server)) a_is ∙ cond-true (is_server_part server (58 ∷ server) && ltb event.at (2 ^ 48)) (Some event) None test)

pub same_event : (server : List ℕ) (x y : EventId) → event_id_text server x ≡ event_id_text server y → x ≡ y
unfolding event_id_text
same_event server x y same =
    let at = same_number 36 x.at y.at (58 ∷ server) (58 ∷ server) refl refl same in
    λ i. record { at = at.0 i }

-- what a reader answers that reads just the texts of ids
answer_found : {T : Type 0} (read : List ℕ → Option T) (text_of : T → List ℕ) (Is : T → Type 0)
    → ((text : List ℕ) (t : T) → read text ≡ Some t → (text ≡ text_of t) × Is t)
    → ((t : T) → Is t → read (text_of t) ≡ Some t)
    → (text : List ℕ) (o : Option T) → o ≡ read text → MatchOption o ((t : T) → Is t → text ≢ text_of t) (λ t. (text ≡ text_of t) × Is t)
answer_found read text_of Is spells reads text None e = λ t is at. absurd (cc (e ∙ ap read at ∙ reads t is))
answer_found read text_of Is spells reads text (Some t) e = spells text t (sym e)

pub room_found : (server text : List ℕ) (o : Option RoomId) → o ≡ room_id_at (2 ^ 64 - 1) server text
    → MatchOption o ((id : RoomId) → IsRoomId id → text ≢ room_id_text server id) (λ id. (text ≡ room_id_text server id) × IsRoomId id)
room_found server = answer_found (room_id_at (2 ^ 64 - 1) server) (room_id_text server) IsRoomId (room_spells server) (room_reads server)

pub room_back : (server text : List ℕ) (o : Option RoomId) → o ≡ room_id_at (2 ^ 64 - 1) server text
    → (id : RoomId) → text ≡ room_id_text server id → IsRoomId id → o ≡ Some id
room_back server text o e id at is = e ∙ ap (room_id_at (2 ^ 64 - 1) server) at ∙ room_reads server id is

pub event_found : (server text : List ℕ) (o : Option EventId) → o ≡ event_id_at (2 ^ 64 - 1) server text
    → MatchOption o ((id : EventId) → IsEventId id → text ≢ event_id_text server id) (λ id. (text ≡ event_id_text server id) × IsEventId id)
event_found server = answer_found (event_id_at (2 ^ 64 - 1) server) (event_id_text server) IsEventId (event_spells server) (event_reads server)

pub event_back : (server text : List ℕ) (o : Option EventId) → o ≡ event_id_at (2 ^ 64 - 1) server text
    → (id : EventId) → text ≡ event_id_text server id → IsEventId id → o ≡ Some id
event_back server text o e id at is = e ∙ ap (event_id_at (2 ^ 64 - 1) server) at ∙ event_reads server id is
