-- A piece behind other bytes.
use Rattle.std.proofs.Common.{◌≡◌, ℕ, ◌+◌, List, ◌++◌, length, take, drop, sym, ap, ◌∙◌}
use Rattle.std.proofs.Math.Seq.{take-add, take-append_seam}

-- bytes that were put behind those that there were, into the room that was made, which is then cut off behind them
pub put_behind : (old grown room new cut : List ℕ) (before len count : ℕ) → before ≡ length old → len ≡ length grown → length new ≡ length grown
    → take before new ≡ take before room → room ≡ grown → take (length old) grown ≡ old → cut ≡ take (before + count) (take len (new ++ drop (length new) grown))
    → cut ≡ old ++ take count (drop before new)
put_behind old grown room new cut before len count first all same front is kept cut_is =
    let whole : take len (new ++ drop (length new) grown) ≡ new = ap (λ n. take n (new ++ drop (length new) grown)) (all ∙ sym same) ∙ take-append_seam new (drop (length new) grown) in
    let begins : take before new ≡ old = front ∙ (ap (take before) is ∙ (ap (λ n. take n grown) first ∙ kept)) in
    cut_is ∙ (ap (take (before + count)) whole ∙ (take-add before count new ∙ ap (λ l. l ++ take count (drop before new)) begins))
