-- Chains of sync replies and pages, from a client without a token.
use Rattle.std.specs.Prelude.{◌≡◌, ℕ, ◌≤◌, max, Bool, List, [], ◌∷◌, ◌++◌, Option, Some, None, ⊤}
use Rattle.std.specs.Option.{option_map}
use Rattle.mx_folding.specs.Parts.{Gap, page_of}
use Rattle.mx_folding.specs.Clients.{Entry, Open, ClientRoom, with_page}
use Rattle.mx_folding.specs.Stories.{Tokens, IsTokens, position, Story, IsStory, Sync, told, Holding, with_told, HoldingAgrees, IsNext}

-- A client of rooms X. `base` is its token's component b, `front` the greatest position of its token and of the fronts
-- of the pages so far; a client needn't keep the latter.
pub record Client (X E K V T : Type 0) : Type 0 where
  pub token : Option T
  pub base : ℕ
  pub front : ℕ
  pub rooms : X → Holding E K V

abbrev pub new_client : (X E K V T : Type 0) → Client X E K V T
new_client X E K V T = record { token = None; base = 0; front = 0; rooms = λ x. record { joined = None; invited = None } }

-- where a gap stands in a timeline: what comes before and behind it
pub record Opening (E : Type 0) : Type 0 where
  pub before : List (Entry E)
  pub gap : Gap
  pub behind : List (Entry E)

abbrev pub around : {E : Type 0} → Opening E → List (Entry E)
around o = o.before ++ Open o.gap ∷ o.behind

-- what a client takes in: a sync reply, with the heroes of each room's summary; or pages at one front, at most one in
-- each room, of an open gap there
pub data Turn (X E K T : Type 0) : Type 0 where
  Synced : Sync → (X → K → Bool) → T → Turn X E K T
  Paged : ℕ → ℕ → (X → Option (Opening E)) → Turn X E K T

-- b of the first token is its position, and later tokens keep it
abbrev pub base_of : {T : Type 0} → Tokens T → ℕ → Option T → T → ℕ
base_of ts b None j = ts.event j
base_of ts b (Some i) j = b

abbrev pub paged : {E K V D T : Type 0} → Story E K V D T → ℕ → ℕ → Opening E → ClientRoom E K × V → ClientRoom E K × V
paged g limit e o had = (with_page g.room o.gap o.before o.behind (page_of g.room g.events limit e o.gap) had.0.state, had.1)

abbrev pub with_paged : {E K V D T : Type 0} → Story E K V D T → ℕ → ℕ → Option (Opening E) → Holding E K V → Holding E K V
with_paged g limit e None had = had
with_paged g limit e (Some o) had = record { joined = option_map (paged g limit e o) had.joined; invited = had.invited }

-- the client after a turn
abbrev pub after_turn : {X E K V D T : Type 0} → Tokens T → (X → Story E K V D T) → Client X E K V T → Turn X E K T → Client X E K V T
after_turn ts w c (Synced ask heroes j) = record {
  token = Some j;
  base = base_of ts c.base c.token j;
  front = max c.front (ts.event j);
  rooms = λ x. with_told (w x) ask.after (position ts c.token) (ts.event j) (told ts (w x) ask (heroes x) (base_of ts c.base c.token j) c.token j) (c.rooms x);
}
after_turn ts w c (Paged limit e openings) = record {
  token = c.token;
  base = c.base;
  front = max c.front e;
  rooms = λ x. with_paged (w x) limit e (openings x) (c.rooms x);
}

abbrev pub after_turns : {X E K V D T : Type 0} → Tokens T → (X → Story E K V D T) → Client X E K V T → List (Turn X E K T) → Client X E K V T
after_turns ts w c [] = c
after_turns ts w c (turn ∷ turns) = after_turns ts w (after_turn ts w c turn) turns

-- the gap stands open in the room's timeline
abbrev pub IsOpen : {E K V : Type 0} → Option (Opening E) → Holding E K V → Type 0
IsOpen None had = ⊤
IsOpen {E = E} {K = K} {V = V} (Some o) had = (room : ClientRoom E K) × (view : V) × (had.joined ≡ Some (room, view)) × (room.timeline ≡ around o)

-- the client's token lies at or before the front
abbrev pub IsPast : {T : Type 0} → Tokens T → Option T → ℕ → Type 0
IsPast ts None e = ⊤
IsPast ts (Some i) e = ts.event i ≤ e

-- a reply answers the client's token; a page is of an open gap, at a front of at least the token's
abbrev pub IsTurn : {X E K V T : Type 0} → Tokens T → Client X E K V T → Turn X E K T → Type 0
IsTurn ts c (Synced ask heroes j) = IsNext ts c.token j
IsTurn {X = X} ts c (Paged limit e openings) = IsPast ts c.token e × ((x : X) → IsOpen (openings x) (c.rooms x))

abbrev pub AreTurns : {X E K V D T : Type 0} → Tokens T → (X → Story E K V D T) → Client X E K V T → List (Turn X E K T) → Type 0
AreTurns ts w c [] = ⊤
AreTurns ts w c (turn ∷ turns) = IsTurn ts c turn × AreTurns ts w (after_turn ts w c turn) turns

-- the client holds of each room what the picture at its token has
abbrev pub Agrees : {X E K V D T : Type 0} → Tokens T → (X → Story E K V D T) → Client X E K V T → Type 0
Agrees {X = X} ts w c = (x : X) → HoldingAgrees ts (w x) c.base c.token c.front (c.rooms x)

-- The folding law. From a client without a token, after any sync replies that answer its tokens and any pages of its
-- gaps, it agrees with the picture at its token.
abbrev pub ChainsFold : Type 0 → Type 0 → Type 0 → Type 0 → Type 0 → Type 0 → Type 0
ChainsFold X E K V D T = (ts : Tokens T) → IsTokens ts → (w : X → Story E K V D T) → ((x : X) → IsStory ts (w x)) → (turns : List (Turn X E K T))
    → AreTurns ts w (new_client X E K V T) turns → Agrees ts w (after_turns ts w (new_client X E K V T) turns)
