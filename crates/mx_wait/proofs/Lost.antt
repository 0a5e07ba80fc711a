-- No wake is lost.
use Rattle.std.proofs.Common.{◌≡◌, ℕ, ◌<◌, ◌≤◌, ◌⊎◌, Bool, true, false, cond, max, nat_lt, List, [], ◌∷◌, ◌++◌, refl, sym, subst, inl, inr}
use Rattle.std.proofs.Math.Nat.{max-eq_left}
use Rattle.std.proofs.lemmas.Bool.{lt-ltb, ltb-false}
use Rattle.std.proofs.lemmas.List.Elements.{Contains-append_left, Contains-append_right}
use Rattle.std.specs.List.{Contains}
use Rattle.mx_wait.specs.declared.names.StreamName.{StreamName}
use Rattle.mx_wait.specs.declared.names.StreamName.TheVariants.{Events, Receipts, Accounts}
use Rattle.mx_wait.specs.declared.parking.Registry.{Registry}
use Rattle.mx_wait.specs.declared.telling.Board.{Board}
use Rattle.mx_wait.specs.Moves.{Move, NoneIsLost, Parks, Tells, after, all_handed, hands}
use Rattle.mx_wait.specs.Parked.{handed, parked, told_at, with_line}

not_greater : (a f front : ℕ) → nat_lt a f ≡ false → a < front → max a f < front
not_greater a f front no_more h = let up : f ≤ a = ltb-false a f no_more in subst (λ n. n < front) (sym (max-eq_left {n = a} {m = f} up)) h

module _ {W : Type 0} (w : W) (front : ℕ) where
  abbrev Kept : Board W → StreamName → Type 0
  Kept b s = Contains (parked b.wakers s) w × (told_at b s < front)

  parks : (s q : StreamName) (b : Board W) (v : W) → Kept b s → Kept (after b (Parks q v)) s
  parks Events Events b v h = (Contains-append_left (parked b.wakers Events) (v ∷ []) w h.0, h.1)
  parks Receipts Receipts b v h = (Contains-append_left (parked b.wakers Receipts) (v ∷ []) w h.0, h.1)
  parks Accounts Accounts b v h = (Contains-append_left (parked b.wakers Accounts) (v ∷ []) w h.0, h.1)
  parks Events Receipts b v h = h
  parks Events Accounts b v h = h
  parks Receipts Events b v h = h
  parks Receipts Accounts b v h = h
  parks Accounts Events b v h = h
  parks Accounts Receipts b v h = h

  -- where the stream's front goes on, all that wait at it are handed out
  own : (s : StreamName) (r : Registry W) (a f n : ℕ) → Contains (parked r s) w → a < front → (c : Bool) → nat_lt a f ≡ c
      → Contains (cond c (parked r s) []) w ⊎ (Contains (parked (cond c (with_line r s (record { wakers = []; round = n })) r) s) w × (max a f < front))
  own s r a f n h low true is = inl h
  own s r a f n h low false is = inr (h, not_greater a f front is low)

  -- another stream's wakers stay
  other : (s q : StreamName) (r : Registry W) (n : ℕ) → parked (with_line r q (record { wakers = []; round = n })) s ≡ parked r s → Contains (parked r s) w → (c : Bool)
      → Contains (parked (cond c (with_line r q (record { wakers = []; round = n })) r) s) w
  other s q r n same h true = subst (λ ws. Contains ws w) (sym same) h
  other s q r n same h false = h

  tells : (s q : StreamName) (b : Board W) (f : ℕ) → Kept b s → Contains (hands b (Tells q f)) w ⊎ Kept (after b (Tells q f)) s
  tells Events Events b f h = own Events b.wakers b.events f _ h.0 h.1 (nat_lt b.events f) refl
  tells Receipts Receipts b f h = own Receipts b.wakers b.receipts f _ h.0 h.1 (nat_lt b.receipts f) refl
  tells Accounts Accounts b f h = own Accounts b.wakers b.accounts f _ h.0 h.1 (nat_lt b.accounts f) refl
  tells Events Receipts b f h = inr (other Events Receipts b.wakers _ refl h.0 (nat_lt b.receipts f), h.1)
  tells Events Accounts b f h = inr (other Events Accounts b.wakers _ refl h.0 (nat_lt b.accounts f), h.1)
  tells Receipts Events b f h = inr (other Receipts Events b.wakers _ refl h.0 (nat_lt b.events f), h.1)
  tells Receipts Accounts b f h = inr (other Receipts Accounts b.wakers _ refl h.0 (nat_lt b.accounts f), h.1)
  tells Accounts Events b f h = inr (other Accounts Events b.wakers _ refl h.0 (nat_lt b.events f), h.1)
  tells Accounts Receipts b f h = inr (other Accounts Receipts b.wakers _ refl h.0 (nat_lt b.receipts f), h.1)

  step : (s : StreamName) (b : Board W) (m : Move W) → Kept b s → Contains (hands b m) w ⊎ Kept (after b m) s
  step s b (Parks q v) h = inr (parks s q b v h)
  step s b (Tells q f) h = tells s q b f h

  at_last : (s : StreamName) (b : Board W) → Kept b s → Contains (hands b (Tells s front) ++ []) w
  at_last s b h =
      Contains-append_left (handed b.wakers s (told_at b s) front) [] w
      (subst (λ c. Contains (cond c (parked b.wakers s) []) w) (sym (lt-ltb (told_at b s) front h.1)) h.0)

  never_lost : (s : StreamName) (b : Board W) (ms : List (Move W)) → Kept b s → Contains (all_handed b (ms ++ Tells s front ∷ [])) w
  never_lost s b [] h = at_last s b h
  never_lost s b (m ∷ ms) h = elim (step s b m h) [
    | inl now ↦ Contains-append_left (hands b m) (all_handed (after b m) (ms ++ Tells s front ∷ [])) w now
    | inr later ↦ Contains-append_right (hands b m) (all_handed (after b m) (ms ++ Tells s front ∷ [])) w (never_lost s (after b m) ms later)
  ]

pub none_is_lost : {W : Type 0} → NoneIsLost W
none_is_lost b s w ms front parked low = never_lost w front s b ms (parked, low)
