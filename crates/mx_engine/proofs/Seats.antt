-- A pass from which none was split off has seen just the stores that were made with it.
use Rattle.std.proofs.Common.{◌≡◌, ℕ, ◌+◌, ◌%◌, ◌^◌, ◌<◌, Bool, true, false, if◌then◌else◌, Some, None, Ok, length, min, eqb, sym, ap, ◌∙◌, arith, mod-eq_of_lt}
use Rattle.mx_front.specs.declared.view.Right.TheVariants.{Alone}
use Rattle.mx_front.specs.declared.view.View.{View}
use Rattle.mx_writers.specs.declared.answers.Written.{Written}
use Rattle.mx_writers.specs.Writes.{stores_by}
use Rattle.mx_engine.specs.Written.{made_after, own_by, stores_after}
use Rattle.mx_engine.specs.declared.seat.Counted.{Counted}

-- it isn't one from which one was split off
pub not_parted : {P : Type 0} (n : ℕ) → min (n + 1) 18446744073709551615 ≡ 0 → P
not_parted n e = absurd (omega (arith, e))

after_test : (b : Bool) (n old new first : ℕ) → n ≡ old → new ≡ old + (if b then 0 else 1) → new < 2 ^ 64 → stores_after n (if b then None else Some first) ≡ new
after_test true n old new first e is few = omega (arith, e, is)
after_test false n old new first e is few = mod-eq_of_lt (omega (arith, e, is, few)) ∙ omega (arith, e, is)

-- v is what the pass knew before a call, and u after it
module _ {I : Type 0} (n : Counted) (v u : View I) (alone : n.passes ≡ 0 → v.right ≡ Alone) (all : n.passes ≡ 0 → n.stores ≡ length v.seen) where
  pub still_alone : u.right ≡ v.right → n.passes ≡ 0 → u.right ≡ Alone
  still_alone kept none = kept ∙ alone none

  -- nothing was stored with it
  pub still_all : (v.right ≡ Alone → u.seen ≡ v.seen) → n.passes ≡ 0 → n.stores ≡ length u.seen
  still_all same none = all none ∙ sym (ap length (same (alone none)))

  pub none_more : (v.right ≡ Alone → length u.seen ≡ length v.seen + 0) → n.passes ≡ 0 → n.stores ≡ length u.seen
  none_more grown none = omega (arith, all none, grown (alone none))

  -- so many were
  pub some_more : (k : ℕ) → (v.right ≡ Alone → length u.seen ≡ length v.seen + k) → length u.seen < 2 ^ 64 → n.passes ≡ 0 → (n.stores + k) % 2 ^ 64 ≡ length u.seen
  some_more k grown few none =
      let is : n.stores + k ≡ length u.seen = omega (arith, all none, grown (alone none)) in
      ap (λ m. m % 2 ^ 64) is ∙ mod-eq_of_lt few

  -- as many as an answer says
  pub taken : (E : Type 0) (w : Written) → (v.right ≡ Alone → length u.seen ≡ length v.seen + stores_by {E = E} (Ok w)) → length u.seen < 2 ^ 64 → n.passes ≡ 0 → (made_after n (own_by w) None).stores ≡ length u.seen
  taken E w grown few none = after_test (eqb w.count 0) n.stores (length v.seen) (length u.seen) w.first (all none) (grown (alone none)) few

  -- nothing, and then it looked
  pub none_seen : (mid : View I) → (v.right ≡ Alone → length mid.seen ≡ length v.seen + 0) → mid.right ≡ v.right → (mid.right ≡ Alone → u.seen ≡ mid.seen) → n.passes ≡ 0 → n.stores ≡ length u.seen
  none_seen mid grown kept same none =
      let is = alone none in
      omega (arith, all none, grown is, ap length (same (kept ∙ is)))
