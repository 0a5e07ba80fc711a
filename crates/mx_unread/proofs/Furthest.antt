-- The furthest event that a user's receipts in a room name.
use Rattle.std.proofs.Common.{◌≡◌, ℕ, ◌≤◌, Bool, true, false, cond, ◌&&◌, nat_lt, nat_le, List, [], ◌∷◌, ◌++◌, filter, map, max, refl, ap, ap₂, ◌∙◌, arith}
use Rattle.std.proofs.lemmas.List.Elements.{filter-append}
use Rattle.mx_ids.specs.declared.room_id.RoomId.{RoomId}
use Rattle.mx_window.specs.Windows.{Ascends, between}
use Rattle.mx_window.proofs.Each.{filter-swap}
use Rattle.mx_window.proofs.Intervals.{between-split}
use Rattle.mx_receipt.specs.Receipts.{furthest, furthest_in, greatest, is_for, is_users, position_of, same_kind}
use Rattle.mx_receipt.specs.declared.receipt.Receipt.{Receipt}
use Rattle.mx_receipt.specs.declared.receipt.ReceiptKind.{ReceiptKind}
use Rattle.mx_receipt.specs.declared.receipt.ReceiptKind.TheVariants.{Read, Private}
use Rattle.mx_snapshot.specs.Receipts.{of_user}
use Rattle.mx_unread.specs.Marks.{furthest_of}

first_further : (n a b : ℕ) → max (max n a) b ≡ max n (max a b)
first_further n a b = omega arith

second_further : (n a b : ℕ) → max a (max n b) ≡ max n (max a b)
second_further n a b = omega arith

module _ (room : RoomId) (user : List ℕ) where
  -- the user's receipts are those of the two kinds
  both_kinds : (xs : List Receipt) → max (furthest_of (of_user room user Read xs)) (furthest_of (of_user room user Private xs)) ≡ furthest_in room user xs
  both_kinds [] = refl
  both_kinds (x ∷ xs) = by_tests (is_users room user x) x.kind (both_kinds xs) where
    by_tests : (b : Bool) (k : ReceiptKind) → max (furthest_of (of_user room user Read xs)) (furthest_of (of_user room user Private xs)) ≡ furthest_in room user xs
        → max (furthest_of (cond (b && same_kind k Read) (x ∷ of_user room user Read xs) (of_user room user Read xs)))
        (furthest_of (cond (b && same_kind k Private) (x ∷ of_user room user Private xs) (of_user room user Private xs)))
        ≡ greatest (map (λ (y : Receipt). y.event.at) (cond b (x ∷ filter (is_users room user) xs) (filter (is_users room user) xs)))
    by_tests true Read h = first_further x.event.at (furthest_of (of_user room user Read xs)) (furthest_of (of_user room user Private xs)) ∙ ap (max x.event.at) h
    by_tests true Private h = second_further x.event.at (furthest_of (of_user room user Read xs)) (furthest_of (of_user room user Private xs)) ∙ ap (max x.event.at) h
    by_tests false k h = h

  pub furthest_is : (low r : ℕ) (receipts : List Receipt) → max (furthest_of (between position_of low r (of_user room user Read receipts))) (furthest_of (between position_of low r (of_user room user Private receipts)))
      ≡ furthest_in room user (between position_of low r receipts)
  furthest_is low r receipts =
      let within : Receipt → Bool = λ x. nat_lt low x.at && nat_le x.at r in
      ap₂ max (ap furthest_of (filter-swap within (is_for room user Read) receipts)) (ap furthest_of (filter-swap within (is_for room user Private) receipts))
      ∙ both_kinds (filter within receipts)

greatest_both : (ms ns : List ℕ) → greatest (ms ++ ns) ≡ max (greatest ms) (greatest ns)
greatest_both [] ns = let g : greatest ns ≡ max 0 (greatest ns) = omega arith in g
greatest_both (m ∷ ms) ns =
    let g : max m (max (greatest ms) (greatest ns)) ≡ max (max m (greatest ms)) (greatest ns) = omega arith in
    ap (max m) (greatest_both ms ns) ∙ g

map_both : (f : Receipt → ℕ) (xs ys : List Receipt) → map f (xs ++ ys) ≡ map f xs ++ map f ys
map_both f [] ys = let g : map f ys ≡ map f ys = λ i. map f ys in g
map_both f (x ∷ xs) ys = ap (λ l. f x ∷ l) (map_both f xs ys)

-- with the receipts up to a later position
pub furthest_more : (room : RoomId) (user : List ℕ) (i j : ℕ) (receipts : List Receipt) → Ascends position_of 0 receipts → i ≤ j
    → furthest room user j receipts ≡ max (furthest room user i receipts) (furthest_in room user (between position_of i j receipts))
furthest_more room user i j receipts up le =
    let event : Receipt → ℕ = λ x. x.event.at in
    ap (λ l. greatest (map event (filter (is_users room user) l))) (between-split position_of 0 i j 0 receipts up (omega arith) le)
    ∙ ap (λ l. greatest (map event l)) (filter-append (is_users room user) (between position_of 0 i receipts) (between position_of i j receipts))
    ∙ ap greatest (map_both event (filter (is_users room user) (between position_of 0 i receipts)) (filter (is_users room user) (between position_of i j receipts)))
    ∙ greatest_both (map event (filter (is_users room user) (between position_of 0 i receipts))) (map event (filter (is_users room user) (between position_of i j receipts)))
