-- Exchanges of several runs, as exchanges over the lists of the last one.
use Rattle.std.proofs.Common.{◌≡◌, ℕ, cond, List, [], ◌∷◌, ◌++◌, Option, map, refl, sym, ap, ◌∙◌, subst}
use Rattle.mx_filter.specs.declared.parts.Selection.{Selection}
use Rattle.mx_fold.specs.Anywhere.{PagesReach, after_exchange}
use Rattle.mx_fold.specs.Clients.{Client, Exchange, chain}
use Rattle.mx_fold.specs.Exchanges.{Mark, exchange_at, exchanges}
use Rattle.mx_fold.specs.Lists.{Grows, Histories}
use Rattle.mx_fold.specs.Replies.{Ask, PassedOver, answer_to}
use Rattle.mx_fold.specs.Servers.{Server}
use Rattle.mx_restarts.specs.Kept.{IsInPlace, IsKeptIn}
use Rattle.mx_restarts.proofs.Keeping.{lists_there}

-- ---- exchanges of an earlier run

module _ (seen begun all : Histories) (are : IsInPlace begun) (kept : IsKeptIn seen begun) (grows : Grows begun all) where
  -- the mark that counts as much in the last run
  pub mark_there : Mark → Mark
  mark_there mark = record { stores = (lists_there seen begun all are kept grows mark.stores).0; memory = mark.memory }

  exchange_there : {V D : Type 0} (w : Server V D) (a : ℕ × Ask) (mark : Mark) → exchange_at w all a (mark_there mark) ≡ exchange_at w seen a mark
  unfolding mark_there
  exchange_there w a mark =
      let same = (lists_there seen begun all are kept grows mark.stores).1 in
      λ i. record { device = a.0; lists = same i; said = cond mark.memory PassedOver (answer_to w (same i) (w.user_of a.0) a.1) }

  pub exchanges_there : {V D : Type 0} (w : Server V D) (asked : List (ℕ × Ask)) (marks : List Mark)
      → exchanges w all asked (map mark_there marks) ≡ exchanges w seen asked marks
  exchanges_there w [] marks = refl
  exchanges_there w (a ∷ asked) [] = refl
  exchanges_there w (a ∷ asked) (mark ∷ marks) = λ i. exchange_there w a mark i ∷ exchanges_there w asked marks i

-- ---- one after the other

module _ {V D : Type 0} (w : Server V D) (h : Histories) (device : ℕ) (f : Selection) where
  -- these exchanges do to a client what exchanges over the lists do
  pub record ComesTo (xs : List (Exchange V D)) : Type 0 where
    pub asked : List (ℕ × Ask)
    pub marks : List Mark
    pub chains : (client : Option (Client V)) → chain w device f client xs ≡ chain w device f client (exchanges w h asked marks)
    pub reaches : (client : Option (Client V)) → PagesReach w device f client xs → PagesReach w device f client (exchanges w h asked marks)

  chain_on : (xs ys : List (Exchange V D)) (client : Option (Client V)) → chain w device f client (xs ++ ys) ≡ chain w device f (chain w device f client xs) ys
  chain_on [] ys client = refl
  chain_on (x ∷ xs) ys client = chain_on xs ys (after_exchange w device f x client)

  reach_parts : (xs ys : List (Exchange V D)) (client : Option (Client V)) → PagesReach w device f client (xs ++ ys)
      → PagesReach w device f client xs × PagesReach w device f (chain w device f client xs) ys
  reach_parts [] ys client reach = (tt, reach)
  reach_parts (x ∷ xs) ys client reach = let rest = reach_parts xs ys (after_exchange w device f x client) reach.1 in ((reach.0, rest.0), rest.1)

  reach_on : (xs ys : List (Exchange V D)) (client : Option (Client V)) → PagesReach w device f client xs → PagesReach w device f (chain w device f client xs) ys
      → PagesReach w device f client (xs ++ ys)
  reach_on [] ys client first rest = rest
  reach_on (x ∷ xs) ys client first rest = (first.0, reach_on xs ys (after_exchange w device f x client) first.1 rest)

  -- exchanges over the lists, and others over them after these
  record Both (asked more : List (ℕ × Ask)) (marks others : List Mark) : Type 0 where
    pub all : List (ℕ × Ask)
    pub at : List Mark
    pub are : exchanges w h all at ≡ exchanges w h asked marks ++ exchanges w h more others

  both : (asked more : List (ℕ × Ask)) (marks others : List Mark) → Both asked more marks others
  both [] more marks others = record { all = more; at = others; are = refl }
  both (a ∷ asked) more [] others = record { all = more; at = others; are = refl }
  both (a ∷ asked) more (mark ∷ marks) others =
      let rest = both asked more marks others in
      record { all = a ∷ rest.all; at = mark ∷ rest.at; are = ap (λ l. exchange_at w h a mark ∷ l) rest.are }

  pub come_to : (xs ys : List (Exchange V D)) → ComesTo xs → ComesTo ys → ComesTo (xs ++ ys)
  come_to xs ys first then =
      let two = both first.asked then.asked first.marks then.marks in
      let before = exchanges w h first.asked first.marks in
      let after = exchanges w h then.asked then.marks in
      record {
        asked = two.all;
        marks = two.at;
        chains = λ client. chain_on xs ys client ∙ (ap (λ c. chain w device f c ys) (first.chains client) ∙ (then.chains (chain w device f client before)
            ∙ (sym (chain_on before after client) ∙ ap (chain w device f client) (sym two.are))));
        reaches = λ client reach.
            let parts = reach_parts xs ys client reach in
            let rest : PagesReach w device f (chain w device f client before) after = then.reaches (chain w device f client before) (subst (λ c. PagesReach w device f c ys) (first.chains client) parts.1) in
            subst (PagesReach w device f client) (sym two.are) (reach_on before after client (first.reaches client parts.0) rest);
      }
