-- What is picked from connections, of each in its order, has marks that rise on each.
use Rattle.std.proofs.Common.{◌≡◌, ℕ, ◌≤◌, zero, suc, List, [], ◌∷◌, Option, Some, None, refl, sym, ap, ◌∙◌, subst, arith}
use Rattle.std.specs.Prelude.{⊤}
use Rattle.std.proofs.lemmas.Bool.{eqb-true}
use Rattle.std.proofs.lemmas.Option.{same_Some}
use Rattle.std.specs.List.{AllByRecursion, slice_get}
use Rattle.mx_http.specs.declared.call.Call.{Call}
use Rattle.mx_chains.specs.Chains.{marks_of}
use Rattle.mx_fold.specs.Anywhere.{AreLater, EachRises}
use Rattle.mx_fold.specs.Lists as fold
use Rattle.mx_fold.specs.Lists.{AreFewer, Histories}
use Rattle.mx_poll.specs.OfEngine.Answers.{Stops, counts}
use Rattle.mx_poll.specs.Aims.Asked.{Site}
use Rattle.mx_poll.specs.OfEngine.Exchanges.{AtMost}
use Rattle.mx_poll.specs.OfEngine.Answered.{Answered}
use Rattle.mx_poll.specs.OfEngine.Counts.{Counts}
use Rattle.mx_poll.specs.OfEngine.Mark.{Mark}
use Rattle.mx_ask.specs.declared.ask.Request.{Request}
use Rattle.mx_serve.specs.Asked.{call_asked}
use Rattle.mx_serve.specs.Chains.{with_answer, with_request}
use Rattle.mx_serve.specs.Exchanges.{AreTurns}
use Rattle.mx_serve.specs.Together.{AreInOrder, Exchanged, IsAnsweredOn, Pick, Session, answers_in, exchanged, exchanged_on, numbers_in, picked, picked_at, requests_in, with_number, with_picked}
use Rattle.mx_serve.specs.declared.call_asked.CallAsked.{CallAsked}
use Rattle.mx_serve.specs.declared.call_asked.CallAsked.TheVariants as call

abbrev stores_at : Mark → fold.Counts
stores_at m = record { events = m.events; receipts = m.receipts; accounts = m.accounts }

-- the mark of an exchange counts no more than that of another
abbrev IsBefore : Exchanged → Exchanged → Type 0
IsBefore x y = AtMost (counts x.mark) (counts y.mark)

at_most_self : (n : Counts) → AtMost n n
at_most_self n = record { events = omega arith; receipts = omega arith; accounts = omega arith }

at_most_trans : (a b c : Counts) → AtMost a b → AtMost b c → AtMost a c
at_most_trans a b c l m = record {
  events = omega (arith, l.events, m.events);
  receipts = omega (arith, l.receipts, m.receipts);
  accounts = omega (arith, l.accounts, m.accounts);
}

none_is : {A : Type 0} {B : Type 0} (x : A) → ◌≡◌ {A = Option A} None (Some x) → B
none_is x e = absurd cc

-- ---- one connection

module _ (site : Site) (stops : Stops) (seen : Histories) (on : ℕ) where
  after_all : (before : Counts) (calls : List Call) (marks : List Mark) → AreTurns site stops seen before calls marks
      → (j : ℕ) (y : Exchanged) → slice_get (exchanged on calls marks) j ≡ Some y → AtMost before (counts y.mark)
  after_all before [] marks h j y is = none_is y is
  after_all before (c ∷ calls) [] h j y is = none_is y is
  after_all before (c ∷ calls) (m ∷ marks) h zero y is = subst (λ (x : Exchanged). AtMost before (counts x.mark)) (same_Some (record { on = on; call = c; mark = m }) y is) h.0.later
  after_all before (c ∷ calls) (m ∷ marks) h (suc j) y is = at_most_trans before (counts m) (counts y.mark) h.0.later (after_all (counts m) calls marks h.1 j y is)

  rise : (before : Counts) (calls : List Call) (marks : List Mark) → AreTurns site stops seen before calls marks
      → (i j : ℕ) → i ≤ j → (x y : Exchanged) → slice_get (exchanged on calls marks) i ≡ Some x → slice_get (exchanged on calls marks) j ≡ Some y → IsBefore x y
  rise before [] marks h i j less x y first second = none_is x first
  rise before (c ∷ calls) [] h i j less x y first second = none_is x first
  rise before (c ∷ calls) (m ∷ marks) h zero zero less x y first second = subst (IsBefore x) (same_Some x y (sym first ∙ second)) (at_most_self (counts x.mark))
  rise before (c ∷ calls) (m ∷ marks) h zero (suc j) less x y first second =
      subst (λ z. IsBefore z y) (same_Some (record { on = on; call = c; mark = m }) x first) (after_all (counts m) calls marks h.1 j y second)
  rise before (c ∷ calls) (m ∷ marks) h (suc i) zero less x y first second = absurd (omega (arith, less))
  rise before (c ∷ calls) (m ∷ marks) h (suc i) (suc j) less x y first second = rise (counts m) calls marks h.1 i j (omega (arith, less)) x y first second

number_in : (on : ℕ) (calls : List Call) (marks : List Mark) (i : ℕ) (x : Exchanged) → slice_get (exchanged on calls marks) i ≡ Some x → x.on ≡ on
number_in on [] marks i x is = none_is x is
number_in on (c ∷ calls) [] i x is = none_is x is
number_in on (c ∷ calls) (m ∷ marks) zero x is = sym (ap (λ (z : Exchanged). z.on) (same_Some (record { on = on; call = c; mark = m }) x is))
number_in on (c ∷ calls) (m ∷ marks) (suc i) x is = number_in on calls marks i x is

-- ---- several

all_at : {A : Type 0} (P : A → Type 0) (xs : List A) (i : ℕ) (x : A) → AllByRecursion P xs → slice_get xs i ≡ Some x → P x
all_at P [] i x h is = none_is x is
all_at P (y ∷ xs) zero x h is = subst P (same_Some y x is) h.0
all_at P (y ∷ xs) (suc i) x h is = all_at P xs i x h.1 is

module _ (site : Site) (stops : Stops) (all : Histories) (cs : List Session) (answered : AllByRecursion (IsAnsweredOn site stops all) cs) where
  number_on : (on i : ℕ) (o : Option Session) (x : Exchanged) → slice_get (exchanged_on on o) i ≡ Some x → x.on ≡ on
  number_on on i None x is = none_is x is
  number_on on i (Some c) x is = number_in on c.calls c.marks i x is

  rise_on : (on i j : ℕ) → i ≤ j → (o : Option Session) → slice_get cs on ≡ o → (x y : Exchanged)
      → slice_get (exchanged_on on o) i ≡ Some x → slice_get (exchanged_on on o) j ≡ Some y → IsBefore x y
  rise_on on i j less None at x y first second = none_is x first
  rise_on on i j less (Some c) at x y first second =
      let is = all_at (IsAnsweredOn site stops all) cs on c answered at in
      rise site stops all on c.before c.calls c.marks is.turns i j less x y first second

  later : (p q : Pick) (x y : Exchanged) → picked_at cs p ≡ Some x → picked_at cs q ≡ Some y → (q.on ≡ p.on → p.at ≤ q.at) → y.on ≡ x.on → IsBefore x y
  later p q x y first second ordered same =
      let on : q.on ≡ p.on = sym (number_on q.on q.at (slice_get cs q.on) y second) ∙ (same ∙ number_on p.on p.at (slice_get cs p.on) x first) in
      rise_on p.on p.at q.at (ordered on) (slice_get cs p.on) refl x y first (subst (λ k. slice_get (exchanged_on k (slice_get cs k)) q.at ≡ Some y) on second)

  -- a fact of all that is picked
  one_picked : (P : Exchanged → Type 0) (o : Option Exchanged) (xs : List Exchanged) → ((y : Exchanged) → o ≡ Some y → P y) → AllByRecursion P xs → AllByRecursion P (with_picked o xs)
  one_picked P None xs f h = h
  one_picked P (Some y) xs f h = (f y refl, h)

  all_picked : (P : Exchanged → Type 0) (Q : Pick → Type 0) → ((q : Pick) (y : Exchanged) → Q q → picked_at cs q ≡ Some y → P y)
      → (ps : List Pick) → AllByRecursion Q ps → AllByRecursion P (picked cs ps)
  all_picked P Q f [] h = tt
  all_picked P Q f (q ∷ ps) h = one_picked P (picked_at cs q) (picked cs ps) (λ y is. f q y h.0 is) (all_picked P Q f ps h.1)

  -- each exchange comes before those of its connection that follow
  abbrev Rise : List Exchanged → Type 0
  Rise [] = ⊤
  Rise (x ∷ xs) = AllByRecursion (λ y. y.on ≡ x.on → IsBefore x y) xs × Rise xs

  one_rises : (o : Option Exchanged) (xs : List Exchanged) → ((x : Exchanged) → o ≡ Some x → AllByRecursion (λ (y : Exchanged). y.on ≡ x.on → IsBefore x y) xs) → Rise xs → Rise (with_picked o xs)
  one_rises None xs f h = h
  one_rises (Some x) xs f h = (f x refl, h)

  picks_rise : (ps : List Pick) → AreInOrder ps → Rise (picked cs ps)
  picks_rise [] h = tt
  picks_rise (p ∷ ps) h = one_rises (picked_at cs p) (picked cs ps)
      (λ x is. all_picked (λ y. y.on ≡ x.on → IsBefore x y) (λ q. q.on ≡ p.on → p.at ≤ q.at) (λ q y ordered at. later p q x y is at ordered) ps h.0) (picks_rise ps h.1)

  -- ---- as the law of chains has it

  one_later : (on : ℕ) (n : Mark) (x : Exchanged) (asks : CallAsked) (ns : List ℕ) (rs : List Request) (ans : List Answered)
      → (x.on ≡ on → AtMost (counts n) (counts x.mark)) → AreLater on (stores_at n) ns (marks_of rs ans)
      → AreLater on (stores_at n) (with_number x.on asks ns) (marks_of (with_request asks rs) (with_answer site all asks x.mark ans))
  one_later on n x call.Options ns rs ans less rest = rest
  one_later on n x call.Versions ns rs ans less rest = rest
  one_later on n x (call.Refused r) ns rs ans less rest = rest
  one_later on n x (call.Request r) ns rs ans less rest = (λ same. fewer (less (eqb-true x.on on same)), rest)
    where
      fewer : AtMost (counts n) (counts x.mark) → AreFewer (stores_at n) (stores_at x.mark)
      fewer l = record { events = l.events; receipts = l.receipts; accounts = l.accounts }

  are_later : (on : ℕ) (n : Mark) (xs : List Exchanged) → AllByRecursion (λ (y : Exchanged). y.on ≡ on → AtMost (counts n) (counts y.mark)) xs
      → AreLater on (stores_at n) (numbers_in site.users xs) (marks_of (requests_in site.users xs) (answers_in site all xs))
  are_later on n [] h = tt
  are_later on n (x ∷ xs) h = one_later on n x (call_asked site.users x.call) (numbers_in site.users xs) (requests_in site.users xs) (answers_in site all xs) h.0 (are_later on n xs h.1)

  one_more : (x : Exchanged) (asks : CallAsked) (ns : List ℕ) (rs : List Request) (ans : List Answered)
      → AreLater x.on (stores_at x.mark) ns (marks_of rs ans) → EachRises ns (marks_of rs ans)
      → EachRises (with_number x.on asks ns) (marks_of (with_request asks rs) (with_answer site all asks x.mark ans))
  one_more x call.Options ns rs ans here rest = rest
  one_more x call.Versions ns rs ans here rest = rest
  one_more x (call.Refused r) ns rs ans here rest = rest
  one_more x (call.Request r) ns rs ans here rest = (here, rest)

  each_rises : (xs : List Exchanged) → Rise xs → EachRises (numbers_in site.users xs) (marks_of (requests_in site.users xs) (answers_in site all xs))
  each_rises [] h = tt
  each_rises (x ∷ xs) h = one_more x (call_asked site.users x.call) (numbers_in site.users xs) (requests_in site.users xs) (answers_in site all xs)
      (are_later x.on x.mark xs h.0) (each_rises xs h.1)

  pub picked_rise : (ps : List Pick) → AreInOrder ps → EachRises (numbers_in site.users (picked cs ps)) (marks_of (requests_in site.users (picked cs ps)) (answers_in site all (picked cs ps)))
  picked_rise ps h = each_rises (picked cs ps) (picks_rise ps h)
