-- Bytes that are known, moved in several steps.
use Rattle.std.proofs.Common.{◌≡◌, ℕ, ◌+◌, List, ◌++◌, take, drop, ap, sym, ◌∙◌, append_assoc, append-nil, Some, None}
use Rattle.std.specs.declared.option.Option.{Option}
use Rattle.std.specs.Io.KnownBytes.{Consumes, Appends, IsAtEnd}
use Rattle.std.proofs.Math.Seq.{take-add}
use Rattle.mx_outside.specs.Moves.{Holds}

pub consumes_more : (a b c : Option (List ℕ)) (xs ys zs : List ℕ) → Consumes a b xs → Consumes b c ys → zs ≡ xs ++ ys → Consumes a c zs
consumes_more None b c xs ys zs first next joined = tt
consumes_more (Some l) None c xs ys zs first next joined = absurd first
consumes_more (Some l) (Some m) None xs ys zs first next joined = absurd next
consumes_more (Some l) (Some m) (Some n) xs ys zs first next joined =
    first ∙ ap (λ rest. xs ++ rest) next ∙ sym (append_assoc xs ys n) ∙ ap (λ front. front ++ n) (sym joined)

pub all_consumed : (a b : Option (List ℕ)) (xs : List ℕ) → Consumes a b xs → IsAtEnd b → Holds a xs
all_consumed None b xs moved ended = tt
all_consumed (Some l) None xs moved ended = absurd moved
all_consumed (Some l) (Some m) xs moved ended = sym (moved ∙ ap (λ rest. xs ++ rest) ended ∙ append-nil xs)

pub appends_more : (a b c : Option (List ℕ)) (bytes : List ℕ) (at n : ℕ)
    → Appends a b (take at bytes) → Appends b c (take n (drop at bytes)) → Appends a c (take (at + n) bytes)
appends_more None b c bytes at n first next = tt
appends_more (Some l) None c bytes at n first next = absurd first
appends_more (Some l) (Some m) None bytes at n first next = absurd next
appends_more (Some l) (Some m) (Some k) bytes at n first next =
    next ∙ ap (λ front. front ++ take n (drop at bytes)) first ∙ append_assoc l (take at bytes) (take n (drop at bytes)) ∙ ap (λ rest. l ++ rest) (sym (take-add at n bytes))
