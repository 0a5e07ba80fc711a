-- What a state is once events of a block are taken in, or one is ready.
use Rattle.std.proofs.Common.{◌≡◌, ℕ, suc, ◌+◌, ◌<◌, List, [], ◌∷◌, ◌++◌, length, take, drop, get_or, Result, Ok, Err, OnOk, OnErr, sym, ap, ◌∙◌, append_assoc, arith}
use Rattle.std.proofs.lemmas.List.{drop-drop, length-take-le, take_more}
use Rattle.mx_core.specs.History.{placed_from}
use Rattle.mx_ids.specs.declared.memory.Memory.{Memory}
use Rattle.mx_event.specs.Lawful.{placed_event}
use Rattle.mx_event.specs.declared.event.Event.{Event}
use Rattle.mx_auth.specs.Standing.{Standing}

-- one item more at the end
pub placed_more : {I : Type 0} (place : I → ℕ → ℕ → I) (first at : ℕ) (xs : List I) (x : I)
    → placed_from place first at (xs ++ x ∷ []) ≡ placed_from place first at xs ++ place x first (at + length xs) ∷ []
placed_more place first at [] x = ap (λ n. place x first n ∷ []) (none at) where
  none : (n : ℕ) → n ≡ n + 0
  none n = omega arith
placed_more place first at (y ∷ xs) x =
    ap (λ ys. place y first at ∷ ys) (placed_more place first (at + 1) xs x ∙ ap (λ n. placed_from place first (at + 1) xs ++ place x first n ∷ []) (shift at (length xs))) where
      shift : (n k : ℕ) → (n + 1) + k ≡ n + suc k
      shift n k = omega arith

-- a state in which a block was ready, once the first n of its events are taken in
abbrev pub taken_to : Standing → ℕ → List Event → ℕ → Standing
taken_to s first es n = record { events = s.events ++ placed_from placed_event first first (take n es); ready = drop n es }

-- one event more is taken in
pub taken_next : (s t u : Standing) (first at n : ℕ) (es : List Event) (e : Event) → n < length es → e ≡ get_or es n e → t ≡ taken_to s first es n → at ≡ first + n
    → u ≡ record { events = t.events ++ placed_event e first at ∷ []; ready = drop 1 t.ready } → u ≡ taken_to s first es (n + 1)
taken_next s t u first at n es e l is was place now =
    let so-far : List Event = placed_from placed_event first first (take n es) in
    let one-more : take (n + 1) es ≡ take n es ++ e ∷ [] = take_more es n e l ∙ ap (λ x. take n es ++ x ∷ []) (sym is) in
    let position : first + length (take n es) ≡ at = ap (λ k. first + k) (length-take-le n es (omega (arith, l))) ∙ sym place in
    let block : placed_from placed_event first first (take (n + 1) es) ≡ so-far ++ placed_event e first at ∷ [] =
    ap (λ ys. placed_from placed_event first first ys) one-more ∙ placed_more placed_event first first (take n es) e ∙ ap (λ k. so-far ++ placed_event e first k ∷ []) position in
    let events : (s.events ++ so-far) ++ placed_event e first at ∷ [] ≡ s.events ++ placed_from placed_event first first (take (n + 1) es) =
    append_assoc s.events so-far (placed_event e first at ∷ []) ∙ ap (λ ys. s.events ++ ys) (sym block) in
    let rest : drop 1 (drop n es) ≡ drop (n + 1) es = drop-drop 1 n es in
    now ∙ ap (λ (v : Standing). record { events = v.events ++ placed_event e first at ∷ []; ready = drop 1 v.ready }) was ∙ (λ i. record { events = events i; ready = rest i })

-- an event that is ready leaves the events
pub made_ready : (s t u : Standing) (e : Event) (result : Result (Unit {0}) Memory) → t ≡ record s { ready = [] } → OnOk result (u ≡ record t { ready = t.ready ++ e ∷ [] }) → OnErr result (u ≡ t) → u.events ≡ s.events
made_ready s t u e (Ok x) dropped ok err = ap (λ (v : Standing). v.events) ok ∙ ap (λ (v : Standing). v.events) dropped
made_ready s t u e (Err f) dropped ok err = ap (λ (v : Standing). v.events) err ∙ ap (λ (v : Standing). v.events) dropped
