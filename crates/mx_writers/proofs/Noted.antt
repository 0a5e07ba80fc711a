-- What a pass knows after a write with a note before it and one after it, and what the gate was told.
use Rattle.std.proofs.Common.{◌≡◌, ℕ, ◌+◌, ◌<◌, Bool, true, if◌then◌else◌, List, [], ◌∷◌, Option, Some, None, Result, Ok, Err, length, length-append, append-nil, refl, sym, ap, ◌∙◌, subst, arith}
use Rattle.std.proofs.lemmas.Bool.{ne_eqb}
use Rattle.std.specs.Option.{ForSome}
use Rattle.mx_core.specs.declared.history.Stored.{Stored}
use Rattle.mx_core.specs.History.{own, Begins, Law}
use Rattle.mx_core.proofs.Histories.{begins_trans}
use Rattle.mx_front.specs.declared.view.View.{View}
use Rattle.mx_front.specs.Calls.{Notes, SeesStore}
use Rattle.mx_front.specs.Told.{hearing}
use Rattle.mx_writers.specs.declared.answers.Written.{Written}
use Rattle.mx_writers.specs.declared.answers.Refused.{Refused}
use Rattle.mx_writers.specs.Decision.{Decision, Placing}
use Rattle.mx_writers.specs.Writes.{IsBeside, WritesBy, WritesSeen, stores_by, told_by, WasTold}

pub write_seen : {I D E : Type 0} (place : Placing I) (decides : ℕ → List (Stored I) → D → Decision I E) (k stop : ℕ) (draft : D) (answer : Result Written (Refused E)) (law : Law I) (k1 k2 : ℕ) (p0 p1 p2 v0 v1 u v2 : View I)
    → k1 ≡ k → k2 ≡ k → p1 ≡ hearing p0 v0 → Notes law k1 p0 v0 v1 → WritesBy place (decides k p1.own draft) k stop p1.own answer p2 → IsBeside answer v1 u → Notes law k2 p2 u v2
    → WritesSeen place decides k stop draft answer v0 v2
write_seen {I} place decides k stop draft answer law k1 k2 p0 p1 p2 v0 v1 u v2 e1 e2 heard first wrote beside second = record {
  mine = p1.own;
  pen = p2;
  wrote = wrote;
  before = subst (λ l. Begins (own v0.seen k) l) (sym (ap (λ (v : View I). v.own) heard)) (subst (λ j. Begins (own v0.seen j) p0.own) e1 first.before);
  after = ap (own v2.seen) (sym e2) ∙ second.after;
  seen = begins_trans v0.seen v1.seen v2.seen first.first (begins_trans v1.seen u.seen v2.seen beside.begins second.first);
  told = second.second;
  fewer = omega (arith, first.fewer, beside.fewer, second.fewer);
  kept = omega (arith, first.read, beside.read, second.read);
  read = omega (arith, second.read);
  looks = second.looks ∙ (beside.looks ∙ first.looks);
  right = second.right ∙ (beside.right ∙ first.right);
  alone = λ is.
      let now = first.right ∙ is in
      ap (λ (l : List (Stored I)). length l) (second.alone (beside.right ∙ now)) ∙ (beside.alone now ∙ ap (λ (l : List (Stored I)). length l + stores_by answer) (first.alone is));
}

-- a write that stores nothing leaves the pass as it was
pub beside_same : {I E : Type 0} (answer : Result Written (Refused E)) (v u : View I) → u ≡ v → stores_by answer ≡ 0 → IsBeside answer v u
beside_same answer v u is none = subst (IsBeside answer v) (sym is) (record {
  begins = ([], sym (append-nil v.seen));
  alone = λ _. omega (arith, none);
  right = refl;
  fewer = omega arith;
  read = refl;
  looks = refl;
})

-- a store that the pass has seen
pub beside_stored : {I E : Type 0} (w : Written) (x : Stored I) (pen v u : View I) → 0 < w.count → SeesStore v x pen u → IsBeside {I = I} {E = E} (Ok w) v u
beside_stored {I} {E} w x pen v u some sees = record {
  begins = sees.begins;
  alone = λ is.
      let one : stores_by {E = E} (Ok w) ≡ 1 = ap (λ b. let n : ℕ = if b then 0 else 1 in n) (ne_eqb w.count 0 (λ e. omega (arith, some, e))) in
      omega (arith, one, ap length (sees.alone is), length-append v.seen (x ∷ []));
  right = sees.right;
  fewer = sees.fewer;
  read = sees.read;
  looks = sees.looks;
}

-- a gate of which a watch says that it was told by a write was told of the store
pub was_told : {A E : Type 0} (said : A → ℕ → ℕ → Bool) (k : ℕ) (r : Result Written (Refused E)) (held gate : A) (o : Option (ℕ × ℕ)) → ForSome o (λ block. said held block.0 block.1 ≡ true) → held ≡ gate → o ≡ told_by k r
    → WasTold (said gate) k r
was_told said k (Err e) held gate o heard same is = tt
was_told said k (Ok w) held gate o heard same is = λ pos.
    let there : o ≡ Some (k, w.first) = is ∙ ap (λ b. if b then None else Some (k, w.first)) (ne_eqb w.count 0 (λ e. omega (arith, pos, e))) in
    subst (λ a. said a k w.first ≡ true) same (heard (k, w.first) there)
