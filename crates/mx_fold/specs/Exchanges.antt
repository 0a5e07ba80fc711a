-- The exchanges of a connection, from what was asked and the marks alone; and the headline's clause on them.
use Rattle.std.specs.Prelude.{◌≡◌, ℕ, Bool, true, cond, List, [], ◌∷◌, None, IfSome}
use Rattle.std.specs.List.{AllByRecursion}
use Rattle.mx_fold.specs.Lists.{Lists, Histories, Counts, AreFewer, AreLawful, no_stores, counts_of, lists_of, lists_at}
use Rattle.mx_fold.specs.Servers.{Server, RestsFold}
use Rattle.mx_fold.specs.Replies.{Ask, PassedOver, answer_to}
use Rattle.mx_fold.specs.Clients.{Exchange, chain, Agrees}
use Rattle.mx_fold.specs.Sent.{SeesSaid}
use Rattle.mx_filter.specs.Sieves as sieves
use Rattle.mx_filter.specs.declared.parts.Selection.{Selection}

-- how many stores of each stream the lists at an answer have; and whether the answer is the 503
pub record Mark : Type 0 where
  pub stores : Counts
  pub memory : Bool

abbrev pub exchange_at : {V D : Type 0} → Server V D → Histories → ℕ × Ask → Mark → Exchange V D
exchange_at w h asked mark = record {
  device = asked.0;
  lists = lists_at mark.stores h;
  said = cond mark.memory PassedOver (answer_to w (lists_at mark.stores h) (w.user_of asked.0) asked.1);
}

-- one exchange for each mark
abbrev pub exchanges : {V D : Type 0} → Server V D → Histories → List (ℕ × Ask) → List Mark → List (Exchange V D)
exchanges w h [] marks = []
exchanges w h (a ∷ asked) [] = []
exchanges w h (a ∷ asked) (mark ∷ marks) = exchange_at w h a mark ∷ exchanges w h asked marks

-- each mark's lists begin the next one's, and the last one's what is seen in the end
abbrev pub MarksRise : Counts → List Mark → Counts → Type 0
MarksRise low [] high = AreFewer low high
MarksRise low (mark ∷ marks) high = AreFewer low mark.stores × MarksRise mark.stores marks high

-- each device's chain with each filter that picks state by type and room agrees with the picture at its token
abbrev pub ChainsAgree : {V D : Type 0} → Server V D → Lists → List (Exchange V D) → Type 0
ChainsAgree w lists xs = (device : ℕ) (f : Selection) → sieves.folds f ≡ true → IfSome (chain w device f None xs) (Agrees w (w.user_of device) f lists)

-- each event that a timeline or a page sent is visible to its user at the front of the lists at the mark
abbrev pub AreSent : {V D : Type 0} → Server V D → List (Exchange V D) → Type 0
AreSent {V} {D} w xs = AllByRecursion (λ (x : Exchange V D). SeesSaid w x.lists (w.user_of x.device) x.said) xs

-- Whatever a connection was asked, and on whatever beginnings of the stores that its pass has seen in the end: the chain of
-- each device and filter agrees with the picture at its token.
abbrev pub ConnectionsAgree : Type 0 → Type 0 → Type 0
ConnectionsAgree V D = (w : Server V D) → (h : Histories) → AreLawful h → RestsFold w (lists_of h)
    → (asked : List (ℕ × Ask)) (marks : List Mark)
    → MarksRise no_stores marks (counts_of h) → ChainsAgree w (lists_of h) (exchanges w h asked marks)

-- And what its answers send in timelines and pages is visible.
abbrev pub ConnectionsSee : Type 0 → Type 0 → Type 0
ConnectionsSee V D = (w : Server V D) (h : Histories) (asked : List (ℕ × Ask)) (marks : List Mark) → AreSent w (exchanges w h asked marks)
