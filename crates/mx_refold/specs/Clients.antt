-- A client of a server that redacts its copies by all redactions that its timelines hold: the headline's clause on exchanges
-- in any order, without a condition on pages.
use Rattle.std.specs.Prelude.{◌≡◌, ℕ, true, List, [], ◌∷◌, Option, None, IfSome}
use Rattle.std.specs.Option.{option_map}
use Rattle.mx_filter.specs.Sieves as sieves
use Rattle.mx_filter.specs.declared.parts.Selection.{Selection}
use Rattle.mx_fold.specs.Anywhere.{after_exchange}
use Rattle.mx_fold.specs.Clients.{Client, Exchange, chain, Agrees}
use Rattle.mx_fold.specs.Exchanges.{Mark, exchanges}
use Rattle.mx_fold.specs.Lists.{Histories, AreLawful, no_lists, lists_of}
use Rattle.mx_fold.specs.Replies.{Ask}
use Rattle.mx_fold.specs.Servers.{Server, RestsFold, story}
use Rattle.mx_refold.specs.Redacted.{holding_redacted}

-- the client after the redactions that its timelines hold; no list is read for what a client does
abbrev pub redacted_client : {V D : Type 0} → Server V D → List ℕ → Selection → Client V → Client V
redacted_client w user f c = record {
  token = c.token;
  front = c.front;
  rooms = λ room. holding_redacted (story w no_lists user f room).room (c.rooms room);
  account = c.account;
}

-- Whatever is asked, each on whatever beginning of the stores, in whatever order these begin one another: the chain of a device
-- and a filter, once its copies are redacted by all redactions that its timelines hold, agrees with the picture at its token.
abbrev pub ClientsRedact : Type 0 → Type 0 → Type 0
ClientsRedact V D = (w : Server V D) (h : Histories) → AreLawful h → RestsFold w (lists_of h) → (asked : List (ℕ × Ask)) (marks : List Mark)
    → (device : ℕ) (f : Selection) → sieves.folds f ≡ true
    → IfSome (option_map (redacted_client w (w.user_of device) f) (chain w device f None (exchanges w h asked marks))) (Agrees w (w.user_of device) f (lists_of h))

-- *Chain*, of a client that applies these redactions after each answer
abbrev pub redacting_chain : {V D : Type 0} → Server V D → ℕ → Selection → Option (Client V) → List (Exchange V D) → Option (Client V)
redacting_chain w device f client [] = client
redacting_chain w device f client (x ∷ xs) =
    redacting_chain w device f (option_map (redacted_client w (w.user_of device) f) (after_exchange w device f x client)) xs

-- It is the same whether a client applies them after each answer, or once in the end.
abbrev pub RedactsAlike : Type 0 → Type 0 → Type 0
RedactsAlike V D = (w : Server V D) (device : ℕ) (f : Selection) → sieves.folds f ≡ true → (xs : List (Exchange V D))
    → redacting_chain w device f None xs ≡ option_map (redacted_client w (w.user_of device) f) (chain w device f None xs)
