-- A walk back over a list of receipts, from a position to 1.
use Rattle.std.proofs.Common.{◌≡◌, ℕ, ◌-◌, Bool, true, false, cond, List, [], ◌∷◌, ◌++◌, take, length, min, max, Some, None, filter, map, refl, sym, ap, ◌∙◌, arith}
use Rattle.std.specs.Option.{option_or}
use Rattle.mx_ids.specs.declared.room_id.RoomId.{RoomId}
use Rattle.mx_lanes.specs.Parts.{Taken, part_at}
use Rattle.mx_lanes.proofs.Walk.{taken-back, take-min}
use Rattle.mx_window.specs.Lasts.{last_of}
use Rattle.mx_window.specs.Windows.{between}
use Rattle.mx_window.proofs.Intervals.{between-take}
use Rattle.mx_window.proofs.Lasts.{last_of-append}
use Rattle.mx_receipt.specs.declared.receipt.Receipt.{Receipt}
use Rattle.mx_receipt.specs.Receipts.{AreInPlace, furthest_in, greatest, is_users, position_of}

-- where the walk begins
pub begins : (r p : ℕ) (receipts : List Receipt) → AreInPlace receipts → p ≡ min r (length receipts) → take p receipts ≡ between position_of 0 r receipts
begins r p receipts placed least = ap (λ n. take n receipts) least ∙ take-min r receipts ∙ sym (between-take position_of r receipts placed)

-- the last receipt up to a position is the one there, if it passes, or else the last before it
pub one_back : (test : Receipt → Bool) (parts : Taken Receipt) (p : ℕ) (e : Receipt) (b : Bool) → Some e ≡ part_at parts p → b ≡ test e
    → last_of test (take p parts.items) ≡ option_or (cond b (Some e) None) (last_of test (take (p - 1) parts.items))
one_back test parts p e b is tested =
    let before = take (p - 1) parts.items in
    ap (last_of test) (taken-back parts p e is) ∙ last_of-append test before (e ∷ []) ∙ ap (λ c. option_or (cond c (Some e) None) (last_of test before)) (sym tested)

last_greatest : (room : RoomId) (user : List ℕ) (before : List Receipt) (e : Receipt) → furthest_in room user (before ++ e ∷ []) ≡ max (furthest_in room user before) (cond (is_users room user e) e.event.at 0)
last_greatest room user [] e = only (is_users room user e)
  where
    only : (b : Bool) → greatest (map (λ (x : Receipt). x.event.at) (cond b (e ∷ []) [])) ≡ max 0 (cond b e.event.at 0)
    only true = omega arith
    only false = refl
last_greatest room user (x ∷ before) e = first (is_users room user x) (last_greatest room user before e)
  where
    first : (b : Bool) → furthest_in room user (before ++ e ∷ []) ≡ max (furthest_in room user before) (cond (is_users room user e) e.event.at 0)
        → greatest (map (λ (y : Receipt). y.event.at) (cond b (x ∷ filter (is_users room user) (before ++ e ∷ [])) (filter (is_users room user) (before ++ e ∷ []))))
        ≡ max (greatest (map (λ (y : Receipt). y.event.at) (cond b (x ∷ filter (is_users room user) before) (filter (is_users room user) before)))) (cond (is_users room user e) e.event.at 0)
    first true later = ap (max x.event.at) later ∙ omega arith
    first false later = later

-- the furthest event so far, with the receipt at a position taken in
pub one_further : (room : RoomId) (user : List ℕ) (parts : Taken Receipt) (p far next : ℕ) (e : Receipt) → Some e ≡ part_at parts p
    → next ≡ cond (is_users room user e) (max far e.event.at) far
    → max next (furthest_in room user (take (p - 1) parts.items)) ≡ max far (furthest_in room user (take p parts.items))
one_further room user parts p far next e is taken =
    let before = take (p - 1) parts.items in
    ap (λ n. max n (furthest_in room user before)) taken ∙ chosen before (is_users room user e)
    ∙ ap (max far) (sym (ap (furthest_in room user) (taken-back parts p e is) ∙ last_greatest room user before e))
  where
    chosen : (before : List Receipt) (b : Bool) → max (cond b (max far e.event.at) far) (furthest_in room user before) ≡ max far (max (furthest_in room user before) (cond b e.event.at 0))
    chosen before true = omega arith
    chosen before false = omega arith
