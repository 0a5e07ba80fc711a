-- Events of one room that were built one after the other are valid.
use Rattle.std.proofs.Common.{◌≡◌, ℕ, ◌+◌, Bool, true, false, is_none, nat_eq, ◌&&◌, List, [], ◌∷◌, ◌++◌, length, filter, Option, None, refl, ap, ap₂, sym, subst, ◌∙◌, arith, append_assoc, append-nil, eqb-true}
use Rattle.std.proofs.lemmas.Bool.{and_parts, and_from}
use Rattle.std.specs.List.{AllByRecursion}
use Rattle.mx_ids.specs.declared.room_id.RoomId.{RoomId}
use Rattle.mx_window.specs.Windows.{stand_from}
use Rattle.mx_window.proofs.Each.{AllByRecursion-append, AllByRecursion-weaker, filter-same}
use Rattle.mx_window.proofs.Intervals.{Ascends-stand_from, stand_from-push}
use Rattle.mx_event.specs.Denied.{denied}
use Rattle.mx_event.specs.Lawful.{has_target, of_room, same_room}
use Rattle.mx_event.specs.Shown.{position_of}
use Rattle.mx_event.specs.Valid.{IsValid, are_valid}
use Rattle.mx_event.specs.declared.event.Event.{Event}
use Rattle.tests_sync.specs.OneRoom.{IsBuilt, is_here}

valid_more : (before xs : List Event) (e : Event) → are_valid before xs ≡ true → is_none (denied e (before ++ xs)) ≡ true → has_target e (before ++ xs) ≡ true
    → are_valid before (xs ++ e ∷ []) ≡ true
valid_more before [] e h allowed target =
    and_from (is_none (denied e before) && has_target e before) true
    (and_from (is_none (denied e before)) (has_target e before)
    (subst (λ l. is_none (denied e l) ≡ true) (append-nil before) allowed)
    (subst (λ l. has_target e l ≡ true) (append-nil before) target)) refl
valid_more before (x ∷ xs) e h allowed target =
    let parts = and_parts (is_none (denied x before) && has_target x before) (are_valid (before ++ x ∷ []) xs) h in
    and_from (is_none (denied x before) && has_target x before) (are_valid (before ++ x ∷ []) (xs ++ e ∷ [])) parts.0
    (valid_more (before ++ x ∷ []) xs e parts.1
    (subst (λ l. is_none (denied e l) ≡ true) (sym (append_assoc before (x ∷ []) xs)) allowed)
    (subst (λ l. has_target e l ≡ true) (sym (append_assoc before (x ∷ []) xs)) target))

pub built_none : IsBuilt [] []
built_none = record { all_taken = refl; placed = refl; valid = refl; here = tt }

pub built_itself : (taken es : List Event) → IsBuilt taken es → IsBuilt es es
built_itself taken es built = record { all_taken = refl; placed = built.placed; valid = built.valid; here = built.here }

pub built_more : (taken es new_taken new_es : List Event) (e : Event) → IsBuilt taken es → position_of e ≡ length es + 1 → is_here e ≡ true
    → (is_none (denied e taken) && has_target e taken) ≡ true → new_taken ≡ taken ++ e ∷ [] → new_es ≡ es ++ e ∷ [] → IsBuilt new_taken new_es
built_more taken es new_taken new_es e built at here valid takes more =
    let parts = and_parts (is_none (denied e es)) (has_target e es) (subst (λ l. (is_none (denied e l) && has_target e l) ≡ true) built.all_taken valid) in
    let next : position_of e ≡ 1 + length es = omega (arith, at) in record {
      all_taken = takes ∙ ap (λ l. l ++ e ∷ []) built.all_taken ∙ sym more;
      placed = subst (λ l. stand_from position_of 1 l ≡ true) (sym more) (stand_from-push position_of 1 es e built.placed next);
      valid = subst (λ l. are_valid [] l ≡ true) (sym more) (valid_more [] es e built.valid parts.0 parts.1);
      here = subst (AllByRecursion (λ (d : Event). is_here d ≡ true)) (sym more)
          (AllByRecursion-append (λ (d : Event). is_here d ≡ true) es (e ∷ []) built.here (here, tt));
    }

all_kept : (es : List Event) → filter (λ (e : Event). true) es ≡ es
all_kept [] = refl
all_kept (e ∷ es) = ap (λ l. e ∷ l) (all_kept es)

none_kept : (es : List Event) → filter (λ (e : Event). false) es ≡ []
none_kept [] = refl
none_kept (e ∷ es) = none_kept es

pub rooms_valid : (es : List Event) → IsBuilt es es → (r : RoomId) → IsValid (of_room r es)
rooms_valid es built r = subst IsValid (sym same) (by_test (nat_eq 0 r.writer && nat_eq 1 r.at)) where
  same : of_room r es ≡ filter (λ (e : Event). nat_eq 0 r.writer && nat_eq 1 r.at) es
  same =
      filter-same (λ (e : Event). same_room e.room r) (λ (e : Event). nat_eq 0 r.writer && nat_eq 1 r.at) es
      (AllByRecursion-weaker (λ (e : Event). is_here e ≡ true) (λ (e : Event). same_room e.room r ≡ (nat_eq 0 r.writer && nat_eq 1 r.at)) (λ e here.
      let parts = and_parts (nat_eq e.room.writer 0) (nat_eq e.room.at 1) here in
      ap₂ (λ w a. nat_eq w r.writer && nat_eq a r.at) (eqb-true e.room.writer 0 parts.0) (eqb-true e.room.at 1 parts.1)) es built.here)

  by_test : (b : Bool) → IsValid (filter (λ (e : Event). b) es)
  by_test true = subst IsValid (sym (all_kept es)) record { ascends = Ascends-stand_from position_of 0 1 es (omega arith) built.placed; valid = built.valid }
  by_test false = subst IsValid (sym (none_kept es)) record { ascends = tt; valid = refl }
