-- Keys in order, with a key that goes last.
use Rattle.std.proofs.Common.{◌≡◌, ℕ, List, [], ◌∷◌, ◌++◌, Bool, true, Result, Ok, Err, OnOk, Option, option_map, pos, codes, min, refl, ap, ◌∙◌, append_assoc}
use Rattle.std.proofs.lemmas.Bool.{and_parts, and_from}
use Rattle.std.proofs.lemmas.Cmp.{nat_list_cmp_total}
use Rattle.std.proofs.lemmas.List.{map-append}
use Rattle.std.specs.Cmp.Lexicographic.{slice_cmp}
use Rattle.std.specs.Ordering.{is_lt, nat_cmp}
use Rattle.mx_ids.specs.Ids.{event_id_text}
use Rattle.mx_ids.specs.declared.memory.Memory.{Memory}
use Rattle.mx_json.specs.Keys.{are_ordered, keys_of}
use Rattle.mx_json.specs.Numbers.{largest}
use Rattle.mx_json.specs.declared.members.Member.{Member}
use Rattle.mx_json.specs.declared.value.Json as json
use Rattle.mx_json.specs.declared.value.Json.{Json}
use Rattle.mx_json.proofs.Order.{less_from}
use Rattle.mx_event.specs.Forms.{member, member_if, event_with, redacts_of, room_of}
use Rattle.mx_event.specs.declared.event.Event.{Event}

below_next : (a b c : List ℕ) → is_lt (slice_cmp nat_cmp a b) ≡ true → is_lt (slice_cmp nat_cmp b c) ≡ true → is_lt (slice_cmp nat_cmp a c) ≡ true
below_next a b c first second = ap is_lt (nat_list_cmp_total.trans a b c (less_from (slice_cmp nat_cmp a b) first) (less_from (slice_cmp nat_cmp b c) second))

-- a key above the last one goes behind it
ordered_push : (ks : List (List ℕ)) (a b : List ℕ) → are_ordered (ks ++ a ∷ []) ≡ true → is_lt (slice_cmp nat_cmp a b) ≡ true → are_ordered (ks ++ a ∷ b ∷ []) ≡ true
ordered_push [] a b order less = rw less refl
ordered_push (k ∷ []) a b order less = let p = and_parts (is_lt (slice_cmp nat_cmp k a)) true order in rw (p.0, less) refl
ordered_push (k ∷ l ∷ ks) a b order less =
    let p = and_parts (is_lt (slice_cmp nat_cmp k l)) (are_ordered (l ∷ (ks ++ a ∷ []))) order in
    and_from (is_lt (slice_cmp nat_cmp k l)) (are_ordered (l ∷ (ks ++ a ∷ b ∷ []))) p.0 (ordered_push (l ∷ ks) a b p.1 less)

-- a key above the last one may stand in its place
pub ordered_skip : (ks : List (List ℕ)) (a b : List ℕ) → are_ordered (ks ++ a ∷ []) ≡ true → is_lt (slice_cmp nat_cmp a b) ≡ true → are_ordered (ks ++ b ∷ []) ≡ true
ordered_skip [] a b order less = refl
ordered_skip (k ∷ []) a b order less = let p = and_parts (is_lt (slice_cmp nat_cmp k a)) true order in rw (below_next k a b p.0 less) refl
ordered_skip (k ∷ l ∷ ks) a b order less =
    let p = and_parts (is_lt (slice_cmp nat_cmp k l)) (are_ordered (l ∷ (ks ++ a ∷ []))) order in
    and_from (is_lt (slice_cmp nat_cmp k l)) (are_ordered (l ∷ (ks ++ b ∷ []))) p.0 (ordered_skip (l ∷ ks) a b p.1 less)

ordered_behind : (ms new : List (Member Json)) (key : List ℕ) (value : Json) → new ≡ ms ++ member key value ∷ [] → are_ordered (keys_of ms ++ key ∷ []) ≡ true
    → (k : List ℕ) → is_lt (slice_cmp nat_cmp key k) ≡ true → are_ordered (keys_of new ++ k ∷ []) ≡ true
ordered_behind ms new key value is order k less =
    ap (λ l. are_ordered (keys_of l ++ k ∷ [])) is
    ∙ ap (λ l. are_ordered (l ++ k ∷ [])) (map-append (λ (m : Member Json). m.key) ms (member key value ∷ []))
    ∙ ap are_ordered (append_assoc (keys_of ms) (key ∷ []) (k ∷ []))
    ∙ ordered_push (keys_of ms) key k order less

-- the same, where the member was put
pub ordered_if_put : (r : Result (Unit {0}) Memory) (ms new : List (Member Json)) (key name : List ℕ) (value : Json) → name ≡ key → OnOk r (new ≡ ms ++ member name value ∷ [])
    → are_ordered (keys_of ms ++ key ∷ []) ≡ true → OnOk r ((k : List ℕ) → is_lt (slice_cmp nat_cmp key k) ≡ true → are_ordered (keys_of new ++ k ∷ []) ≡ true)
ordered_if_put (Err e) ms new key name value same is order = tt
ordered_if_put (Ok u) ms new key name value same is order = ordered_behind ms new key value (is ∙ ap (λ k. ms ++ member k value ∷ []) same) order

-- the members of an event, put one after the other, and some behind them
pub joined : (c i t s y : Member Json) (r o k last m0 m1 m2 m3 m4 m5 m6 m7 m8 : List (Member Json))
    → m1 ≡ m0 ++ c ∷ [] → m2 ≡ m1 ++ i ∷ [] → m3 ≡ m2 ++ t ∷ [] → m4 ≡ m3 ++ r → m5 ≡ m4 ++ o → m6 ≡ m5 ++ s ∷ [] → m7 ≡ m6 ++ k → m8 ≡ m7 ++ y ∷ []
    → m8 ++ last ≡ m0 ++ (c ∷ i ∷ t ∷ (r ++ (o ++ (s ∷ (k ++ (y ∷ last))))))
joined c i t s y r o k last m0 m1 m2 m3 m4 m5 m6 m7 m8 e1 e2 e3 e4 e5 e6 e7 e8 =
    ap (λ l. l ++ last) e8 ∙ append_assoc m7 (y ∷ []) last
    ∙ ap (λ l. l ++ (y ∷ last)) e7 ∙ append_assoc m6 k (y ∷ last)
    ∙ ap (λ l. l ++ (k ++ (y ∷ last))) e6 ∙ append_assoc m5 (s ∷ []) (k ++ (y ∷ last))
    ∙ ap (λ l. l ++ (s ∷ (k ++ (y ∷ last)))) e5 ∙ append_assoc m4 o (s ∷ (k ++ (y ∷ last)))
    ∙ ap (λ l. l ++ (o ++ (s ∷ (k ++ (y ∷ last))))) e4 ∙ append_assoc m3 r (o ++ (s ∷ (k ++ (y ∷ last))))
    ∙ ap (λ l. l ++ (r ++ (o ++ (s ∷ (k ++ (y ∷ last)))))) e3 ∙ append_assoc m2 (t ∷ []) (r ++ (o ++ (s ∷ (k ++ (y ∷ last)))))
    ∙ ap (λ l. l ++ (t ∷ (r ++ (o ++ (s ∷ (k ++ (y ∷ last))))))) e2 ∙ append_assoc m1 (i ∷ []) (t ∷ (r ++ (o ++ (s ∷ (k ++ (y ∷ last))))))
    ∙ ap (λ l. l ++ (i ∷ t ∷ (r ++ (o ++ (s ∷ (k ++ (y ∷ last))))))) e1 ∙ append_assoc m0 (c ∷ []) (i ∷ t ∷ (r ++ (o ++ (s ∷ (k ++ (y ∷ last))))))

-- with the values of an event they are its members
pub formed : (server : List ℕ) (with_room : Bool) (last : List (Member Json)) (e : Event) (content id ts sender kind : Json) (r o k : Option Json)
    → content ≡ e.content → id ≡ json.Text (event_id_text server e.id) → ts ≡ json.Int (pos (min e.ts largest)) → r ≡ redacts_of e → o ≡ room_of server with_room e
    → sender ≡ json.Text e.sender → k ≡ option_map json.Text e.state_key → kind ≡ json.Text e.kind
    → member (codes "content") content ∷ member (codes "event_id") id ∷ member (codes "origin_server_ts") ts ∷ (member_if (codes "redacts") r ++ (member_if (codes "room_id") o
    ++ (member (codes "sender") sender ∷ (member_if (codes "state_key") k ++ (member (codes "type") kind ∷ last)))))
    ≡ event_with server with_room last e
formed server with_room last e content id ts sender kind r o k content_is id_is ts_is r_is o_is sender_is k_is kind_is =
    λ i. member (codes "content") (content_is i) ∷ member (codes "event_id") (id_is i) ∷ member (codes "origin_server_ts") (ts_is i) ∷ (member_if (codes "redacts") (r_is i) ++ (member_if (codes "room_id") (o_is i)
    ++ (member (codes "sender") (sender_is i) ∷ (member_if (codes "state_key") (k_is i) ++ (member (codes "type") (kind_is i) ∷ last)))))
