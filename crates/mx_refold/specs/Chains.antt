-- Chains of replies and pages, whose pages may be of any front of at least that where their gap was cut.
use Rattle.std.specs.Prelude.{ℕ, ◌≤◌, Bool, List, [], ◌∷◌, Option, Some, None, ⊤}
use Rattle.mx_folding.specs.Stories.{Tokens, IsTokens, Story, IsStory, IsNext}
use Rattle.mx_folding.specs.Chains.{Client, new_client, Opening, Turn, Synced, Paged, after_turn, after_turns, IsOpen, Agrees}
use Rattle.mx_folding_needs.specs.Premises.{Item}
use Rattle.mx_refold.specs.Redacted.{holding_redacted}

-- the client after the redactions that its timelines hold
abbrev pub client_redacted : {X E K V D T : Type 0} → (X → Story E K V D T) → Client X E K V T → Client X E K V T
client_redacted w c = record { token = c.token; base = c.base; front = c.front; rooms = λ x. holding_redacted (w x).room (c.rooms x) }

-- the gap was cut at or before the front
abbrev pub IsReached : {E : Type 0} → ℕ → Option (Opening E) → Type 0
IsReached e None = ⊤
IsReached e (Some o) = o.gap.front ≤ e

-- a reply answers the client's token; a page is of an open gap, at a front of at least that where the gap was cut
abbrev pub IsAnyTurn : {X E K V T : Type 0} → Tokens T → Client X E K V T → Turn X E K T → Type 0
IsAnyTurn ts c (Synced ask heroes j) = IsNext ts c.token j
IsAnyTurn {X = X} ts c (Paged limit e openings) = (x : X) → IsReached e (openings x) × IsOpen (openings x) (c.rooms x)

abbrev pub AreAnyTurns : {X E K V D T : Type 0} → Tokens T → (X → Story E K V D T) → Client X E K V T → List (Turn X E K T) → Type 0
AreAnyTurns ts w c [] = ⊤
AreAnyTurns ts w c (turn ∷ turns) = IsAnyTurn ts c turn × AreAnyTurns ts w (after_turn ts w c turn) turns

-- from a client without a token, after any sync replies that answer its tokens and any pages of its gaps, what is seen of it
-- agrees with the picture at its token
abbrev pub ChainsAgree : (X E K V D T : Type 0) → ((X → Story E K V D T) → Client X E K V T → Client X E K V T) → Type 0
ChainsAgree X E K V D T seen = (ts : Tokens T) → IsTokens ts → (w : X → Story E K V D T) → ((x : X) → IsStory ts (w x)) → (turns : List (Turn X E K T))
    → AreAnyTurns ts w (new_client X E K V T) turns → Agrees ts w (seen w (after_turns ts w (new_client X E K V T) turns))

-- The folding law, of a client that redacts its copies by all redactions that its timelines hold.
abbrev pub ChainsRedact : Type 0 → Type 0 → Type 0 → Type 0 → Type 0 → Type 0 → Type 0
ChainsRedact X E K V D T = ChainsAgree X E K V D T client_redacted

-- Of a client that doesn't it is false.
abbrev pub NeedsRedactions : Type 0
NeedsRedactions = ChainsAgree (Unit {0}) Item Bool ℕ ℕ ℕ (λ w c. c) → ⊥
