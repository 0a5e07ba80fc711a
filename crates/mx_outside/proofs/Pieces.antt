-- A piece from the front of a list, and the rest.
use Rattle.std.proofs.Common.{◌≡◌, ℕ, ◌+◌, ◌-◌, List, ◌++◌, length, take, drop, ap, sym, ◌∙◌}
use Rattle.std.proofs.lemmas.List.{take-append-drop, drop-drop, take_rest}

-- what was left from `at` on is the piece that was copied, and what is left after it
pub piece_split : (bytes all left piece : List ℕ) (at n : ℕ) → drop at bytes ≡ left → all ≡ bytes
    → piece ≡ take n (take (length all - at) (drop at all)) → left ≡ piece ++ drop (at + n) bytes
piece_split bytes all left piece at n behind same copied =
    let whole : take (length all - at) (drop at all) ≡ drop at bytes = take_rest all at ∙ ap (drop at) same in
    sym behind ∙ sym (take-append-drop n (drop at bytes)) ∙ ap (λ front. front ++ drop n (drop at bytes)) (sym (copied ∙ ap (take n) whole)) ∙ ap (λ rest. piece ++ rest) (drop-drop n at bytes)
