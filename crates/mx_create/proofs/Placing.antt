-- An admitted block as it stands after the writer's own stores.
use Rattle.std.proofs.Common.{◌≡◌, ℕ, pos, suc, ◌+◌, ◌<◌, ◌==◌, ◌&&◌, ◌||◌, not, is_none, nat_lt, Bool, true, false, cond, List, [], ◌∷◌, ◌++◌, length, length-append, map, Option, Some, None, IsSome, option_map, refl, sym, ap, ap₂, ◌∙◌, arith, append_assoc, append-nil}
use Rattle.std.proofs.lemmas.Bool.{and_from, and_parts, eq-eqb, eqb-true, ne_eqb}
use Rattle.std.proofs.lemmas.List.Elements.{filter-append}
use Rattle.std.specs.List.{AllByRecursion, list_any}
use Rattle.std.specs.Option.{option_or}
use Rattle.mx_ids.specs.declared.room_id.RoomId.{RoomId}
use Rattle.mx_core.specs.History.{placed_from}
use Rattle.mx_window.specs.Lasts.{last_of}
use Rattle.mx_json.specs.declared.value.Json.{Json}
use Rattle.mx_event.specs.Denied.{breaks_create, breaks_level, breaks_member_form, breaks_power_change, breaks_power_form, breaks_sender, breaks_user_key, denied, first_broken, membership_rule, names_own, reaches, rules_for}
use Rattle.mx_event.specs.Kinds.{create_type, has_key, is_of, is_redaction, is_text, member_type, redaction_type}
use Rattle.mx_event.specs.Levels.{level_in, redact_level}
use Rattle.mx_event.specs.Shown.{names}
use Rattle.mx_event.specs.Lawful.{are_lawful, is_lawful, of_room, placed_event, same_room}
use Rattle.mx_event.specs.State.{content_of, sender_of}
use Rattle.mx_event.specs.declared.draft.Draft.{Draft}
use Rattle.mx_event.specs.declared.event.Event.{Event}
use Rattle.mx_room.specs.Books.{events_of}
use Rattle.mx_room.proofs.Lawful.{Follow, MayBe, events_follow, no_create, room_of}
use Rattle.mx_room.proofs.Standing.{placed_more}
use Rattle.mx_create.specs.Admitted.{IsUnplaced, first_denied, made}
use Rattle.mx_create.specs.Storing.{BlockIsLawful}
use Rattle.mx_create.proofs.Admitting.{admitted_are, both}

-- ---- an event without its place is judged as it was

abbrev bare : Event → Event
bare e = record e { id = record { at = 0 }; room = record { writer = 0; at = 0 } }

kept_last : {A : Type 0} (f : Event → A) → ((e : Event) → f (bare e) ≡ f e) → (o : Option Event) → option_map f (option_map bare o) ≡ option_map f o
kept_last f same None = refl
kept_last f same (Some e) = ap Some (same e)

last_bare : (kind key : List ℕ) (es : List Event) → last_of (has_key kind key) (map bare es) ≡ option_map bare (last_of (has_key kind key) es)
last_bare kind key [] = refl
last_bare kind key (e ∷ es) = ap (λ o. option_or o (cond (has_key kind key e) (Some (bare e)) None)) (last_bare kind key es) ∙ inside (last_of (has_key kind key) es) (has_key kind key e) where
  inside : (o : Option Event) (b : Bool) → option_or (option_map bare o) (cond b (Some (bare e)) None) ≡ option_map bare (option_or o (cond b (Some e) None))
  inside (Some v) b = refl
  inside None true = refl
  inside None false = refl

content_bare : (kind key : List ℕ) (es : List Event) → option_map content_of (last_of (has_key kind key) (map bare es)) ≡ option_map content_of (last_of (has_key kind key) es)
content_bare kind key es = ap (option_map content_of) (last_bare kind key es) ∙ kept_last content_of (λ e. refl) (last_of (has_key kind key) es)

sender_bare : (kind key : List ℕ) (es : List Event) → option_map sender_of (last_of (has_key kind key) (map bare es)) ≡ option_map sender_of (last_of (has_key kind key) es)
sender_bare kind key es = ap (option_map sender_of) (last_bare kind key es) ∙ kept_last sender_of (λ e. refl) (last_of (has_key kind key) es)

length_bare : (es : List Event) → length (map bare es) ≡ length es
length_bare [] = refl
length_bare (e ∷ es) = ap suc (length_bare es)

level_bare : (user : List ℕ) (es : List Event) (content : Option Json) → level_in user (map bare es) content ≡ level_in user es content
level_bare user es None = ap (λ o. cond (is_text user o) (pos 100) (pos 0)) (sender_bare create_type [] es)
level_bare user es (Some content) = refl

-- the rules, with what the last of them says
abbrev denied_with : Event → List Event → Bool → Option ℕ
denied_with e es redacts =
    first_broken
    ((1, breaks_create e es) ∷ cond (is_of create_type e) [] (cond (is_of member_type e) ((2, breaks_member_form e es) ∷ membership_rule e es ∷ [])
    ((7, breaks_sender e es) ∷ (8, breaks_level e es) ∷ (9, breaks_user_key e es) ∷ (10, breaks_power_form e es) ∷ (11, breaks_power_change e es) ∷ (12, redacts) ∷ [])))

with_bare : (e : Event) (es : List Event) → denied_with e (map bare es) false ≡ denied_with e es false
with_bare e es = simp (content_bare, sender_bare, length_bare, level_bare)

denied_bare : (e : Event) (es : List Event) → is_redaction e ≡ false → denied e (map bare es) ≡ denied e es
denied_bare e es h = to_none (map bare es) ∙ (with_bare e es ∙ sym (to_none es)) where
  to_none : (xs : List Event) → denied e xs ≡ denied_with e xs false
  to_none xs = ap (λ b. denied_with e xs (b && (not (names_own e xs) && not (reaches (redact_level xs) e xs)))) h

placed_bare : (first at : ℕ) (es : List Event) → map bare (placed_from placed_event first at es) ≡ map bare es
placed_bare first at [] = refl
placed_bare first at (e ∷ es) = ap (λ l. bare e ∷ l) (placed_bare first (at + 1) es)

-- an event that is no redaction is allowed after placed events where it is after the events themselves
denied_placed : (e : Event) (first at : ℕ) (es : List Event) → is_redaction e ≡ false → denied e (placed_from placed_event first at es) ≡ denied e es
denied_placed e first at es h =
    sym (denied_bare e (placed_from placed_event first at es) h) ∙ (ap (denied e) (placed_bare first at es) ∙ denied_bare e es h)

-- ---- the rooms of the writer's events

has_some : {A : Type 0} (xs : List A) → (length xs == 0) ≡ false → 0 < length xs
has_some [] h = absurd cc
has_some (x ∷ xs) h = omega arith

-- an event that creates no room isn't the first of its room
not_first : (e : Event) (es : List Event) → denied e es ≡ None → is_of create_type e ≡ false → 0 < length es
not_first e es allowed other = has_some es (inside (length es == 0) refl) where
  inside : (t : Bool) → (length es == 0) ≡ t → t ≡ false
  inside true is =
      let refused : denied e es ≡ Some 1 =
      ap (λ t. first_broken ((1, cond t (nat_lt 0 (length es)) (length es == 0)) ∷ rules_for e es)) other
      ∙ ap (λ t. first_broken ((1, t) ∷ rules_for e es)) is in
      absurd cc
  inside false is = refl

module _ (first k : ℕ) where
  abbrev RoomBelow : Event → Type 0
  RoomBelow e = e.room.at < first

  room_below : (before : List Event) (e : Event) → MayBe k before e → e.id.at < first → AllByRecursion RoomBelow before → RoomBelow e
  room_below before e may here all = inside (is_of create_type e) refl where
    inside : (t : Bool) → is_of create_type e ≡ t → e.room.at < first
    inside true is = omega (arith, may.creates is, here)
    inside false is =
        let found = room_of RoomBelow e.room before all (not_first e (of_room e.room before) may.allowed is) in
        let same = and_parts (found.0.room.writer == e.room.writer) (found.0.room.at == e.room.at) found.1.1 in
        omega (arith, eqb-true found.0.room.at e.room.at same.1, found.1.0)

  rooms_below : (before es : List Event) → Follow k before es → AllByRecursion (λ (e : Event). e.id.at < first) es → AllByRecursion RoomBelow before → AllByRecursion RoomBelow es
  rooms_below before [] h low all = tt
  rooms_below before (e ∷ es) h low all =
      let here : RoomBelow e = room_below before e h.0 low.0 all in
      (here, rooms_below (before ++ e ∷ []) es h.1 low.1 (both RoomBelow before (e ∷ []) all (here, tt)))

  abbrev new_room : RoomId
  new_room = record { writer = k; at = first }

  -- none of them is in the new room
  none_in : (es : List Event) → AllByRecursion RoomBelow es → of_room new_room es ≡ []
  none_in [] h = refl
  none_in (e ∷ es) h =
      ap (λ b. cond ((e.room.writer == k) && b) (e ∷ of_room new_room es) (of_room new_room es)) (ne_eqb e.room.at first (λ is. omega (arith, is, h.0)))
      ∙ (drops (e.room.writer == k) (e ∷ of_room new_room es) (of_room new_room es) ∙ none_in es h.1) where
        drops : (b : Bool) (xs ys : List Event) → cond (b && false) xs ys ≡ ys
        drops true xs ys = refl
        drops false xs ys = refl

  -- ---- the events of the block

  -- a state event of the room that the block creates
  record IsOfBlock (e : Event) : Type 0 where
    key : IsSome e.state_key
    room : e.room ≡ record { writer = k; at = 0 }

  all_of_block : (drafts : List Draft) → AllByRecursion IsUnplaced drafts → AllByRecursion IsOfBlock (map (made k) drafts)
  all_of_block [] h = tt
  all_of_block (d ∷ ds) h = (record { key = h.0.key; room = refl }, all_of_block ds h.1)

  no_redaction : (e : Event) → IsOfBlock e → is_redaction e ≡ false
  no_redaction e h = inside e.state_key h.key (is_of redaction_type e) where
    inside : (o : Option (List ℕ)) → IsSome o → (b : Bool) → (b && is_none o) ≡ false
    inside None is b = absurd cc
    inside (Some key) is true = refl
    inside (Some key) is false = refl

  all_in : (at : ℕ) (es : List Event) → AllByRecursion IsOfBlock es → of_room new_room (placed_from placed_event first at es) ≡ placed_from placed_event first at es
  all_in at [] h = refl
  all_in at (e ∷ es) h =
      ap (λ b. cond b (placed_event e first at ∷ of_room new_room (placed_from placed_event first (at + 1) es)) (of_room new_room (placed_from placed_event first (at + 1) es))) (here e h.0)
      ∙ ap (λ l. placed_event e first at ∷ l) (all_in (at + 1) es h.1) where
        here : (e : Event) → IsOfBlock e → same_room (placed_event e first at).room new_room ≡ true
        here e h = ap (λ (r : RoomId). same_room (cond (r.at == 0) (record { writer = r.writer; at = first }) r) new_room) h.room ∙ and_from (k == k) (first == first) (eq-eqb k k refl) (eq-eqb first first refl)

  first_none : (o p : Option ℕ) → option_or o p ≡ None → (o ≡ None) × (p ≡ None)
  first_none None p h = (refl, h)
  first_none (Some n) p h = absurd cc

  -- the event that creates the room stands first
  at_first : (e : Event) (pre : List Event) → denied e pre ≡ None → is_of create_type e ≡ true → first ≡ first + length pre
  at_first e [] allowed creates = omega arith
  at_first e (x ∷ pre) allowed creates = let other = no_create e (x ∷ pre) allowed (omega arith) in absurd cc

  five : {a b c d e : Bool} → a ≡ true → b ≡ true → c ≡ true → d ≡ true → e ≡ true → (a && (b && (c && (d && e)))) ≡ true
  five {a} {b} {c} {d} {e} ha hb hc hd he =
      and_from a (b && (c && (d && e))) ha (and_from b (c && (d && e)) hb (and_from c (d && e) hc (and_from d e hd he)))

  module _ (old : List Event) (apart : of_room new_room old ≡ []) where
    abbrev Placed : List Event → List Event
    Placed pre = placed_from placed_event first first pre

    of_new : (pre : List Event) → AllByRecursion IsOfBlock pre → of_room new_room (old ++ Placed pre) ≡ Placed pre
    of_new pre h = filter-append (λ (e : Event). same_room e.room new_room) old (Placed pre) ∙ (ap (λ l. l ++ of_room new_room (Placed pre)) apart ∙ all_in first pre h)

    lawful_one : (pre : List Event) (e : Event) → AllByRecursion IsOfBlock pre → IsOfBlock e → denied e pre ≡ None → is_lawful k (old ++ Placed pre) (first + length pre) (placed_event e first (first + length pre)) ≡ true
    lawful_one pre e all is allowed =
        let at : ℕ = first + length pre in
        let room : (placed_event e first at).room ≡ new_room = ap (λ (r : RoomId). cond (r.at == 0) (record { writer = r.writer; at = first }) r) is.room in
        let its : of_room (placed_event e first at).room (old ++ Placed pre) ≡ Placed pre = ap (λ (r : RoomId). of_room r (old ++ Placed pre)) room ∙ of_new pre all in
        let plain : is_redaction e ≡ false = no_redaction e is in
        let ok : denied (placed_event e first at) (of_room (placed_event e first at).room (old ++ Placed pre)) ≡ None =
        ap (denied (placed_event e first at)) its ∙ (denied_placed e first first pre plain ∙ allowed) in
        five (eq-eqb at at refl) (eq-eqb (placed_event e first at).room.writer k (ap (λ (r : RoomId). r.writer) room))
        (ap (λ (r : RoomId). not (is_of create_type e) || (r.at == at)) room ∙ begins (is_of create_type e) refl) (ap is_none ok)
        (ap (λ b. not b || list_any (λ (v : Event). names (placed_event e first at) v.id.at) (of_room (placed_event e first at).room (old ++ Placed pre))) plain) where
          begins : (b : Bool) → is_of create_type e ≡ b → (not b || (first == first + length pre)) ≡ true
          begins true creates = eq-eqb first (first + length pre) (at_first e pre allowed creates)
          begins false creates = refl

    lawful_rest : (pre es : List Event) → AllByRecursion IsOfBlock pre → AllByRecursion IsOfBlock es → first_denied pre es ≡ None
        → are_lawful k (old ++ Placed pre) (first + length pre) (placed_from placed_event first (first + length pre) es) ≡ true
    lawful_rest pre [] all rest allowed = refl
    lawful_rest pre (e ∷ es) all rest allowed =
        let at : ℕ = first + length pre in
        let none = first_none (denied e pre) (first_denied (pre ++ e ∷ []) es) allowed in
        let before : old ++ Placed (pre ++ e ∷ []) ≡ (old ++ Placed pre) ++ placed_event e first at ∷ [] =
        ap (λ l. old ++ l) (placed_more placed_event first first pre e) ∙ sym (append_assoc old (Placed pre) (placed_event e first at ∷ [])) in
        let next : first + length (pre ++ e ∷ []) ≡ at + 1 = omega (arith, length-append {A = Event}) in
        and_from (is_lawful k (old ++ Placed pre) at (placed_event e first at)) _ (lawful_one pre e all rest.0 none.0)
        (ap₂ (λ l n. are_lawful k l n (placed_from placed_event first n es)) (sym before) (sym next)
        ∙ lawful_rest (pre ++ e ∷ []) es (both IsOfBlock pre (e ∷ []) all (rest.0, tt)) rest.1 none.1)

pub block_lawful : BlockIsLawful
block_lawful b drafts events first lane block is low =
    let k : ℕ = b.writer in
    let es : List Event = map (made k) drafts in
    let old : List Event = events_of b in
    let are = admitted_are k drafts events is in
    let apart : of_room (new_room first k) old ≡ [] = none_in first k old (rooms_below first k [] old (events_follow b lane) low tt) in
    let lawful : are_lawful k (old ++ []) (first + 0) (placed_from placed_event first (first + 0) es) ≡ true = lawful_rest first k old apart [] es tt (all_of_block first k drafts block.new) are.0 in
    let start : first + 0 ≡ first = omega arith in
    ap (λ l. are_lawful k old first (placed_from placed_event first first l)) are.1
    ∙ (ap₂ (λ l n. are_lawful k l n (placed_from placed_event first n es)) (sym (append-nil old)) (sym start) ∙ lawful)
