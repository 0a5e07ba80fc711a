-- The folding law with each of its premises either asked or dropped.
use Rattle.std.specs.Prelude.{◌≡◌, ◌↔◌, ℕ, ◌<◌, ◌≤◌, Bool, true, false, List, [], ◌∷◌, Option, Some, is_some, ⊤}
use Rattle.std.specs.List.{AllByRecursion}
use Rattle.mx_window.specs.Windows.{Ascends}
use Rattle.mx_folding.specs.Rooms.{Room, StaysSent}
use Rattle.mx_folding.specs.Stories.{Tokens, IsTokens, Rest, Story, joined_in, IsNext}
use Rattle.mx_folding.specs.Chains.{Client, new_client, Turn, Synced, Paged, after_turn, after_turns, IsOpen, IsPast, Agrees, ChainsFold}

-- which premises are asked; each is named as where the law states it
pub record Asked : Type 0 where
  pub ascends : Bool
  pub earlier : Bool
  pub keys : Bool
  pub kept : Bool
  pub red_at : Bool
  pub red_key : Bool
  pub red_sender : Bool
  pub red_names : Bool
  pub red_red : Bool
  pub stayed_less : Bool
  pub stays : Bool
  pub kinds : Bool
  pub stayed : Bool
  pub folds : Bool
  pub still : Bool
  pub rises : Bool
  pub next : Bool
  pub past : Bool
  pub gaps : Bool

abbrev pub all_asked : Asked
all_asked = record {
  ascends = true;
  earlier = true;
  keys = true;
  kept = true;
  red_at = true;
  red_key = true;
  red_sender = true;
  red_names = true;
  red_red = true;
  stayed_less = true;
  stays = true;
  kinds = true;
  stayed = true;
  folds = true;
  still = true;
  rises = true;
  next = true;
  past = true;
  gaps = true;
}

abbrev pub If : Bool → Type 0 → Type 0
If true A = A
If false A = ⊤

pub record OrderIf {E K : Type 0} (a : Asked) (r : Room E K) (es : List E) : Type 0 where
  pub ascends : If a.ascends (Ascends r.at 0 es)
  pub earlier : If a.earlier (AllByRecursion (λ e. (p : ℕ) → r.names e ≡ Some p → p < r.at e) es)

pub record KeysIf {E K : Type 0} (a : Asked) (r : Room E K) : Type 0 where
  pub keys : If a.keys ((k l : K) → (r.same k l ≡ true) ↔ (k ≡ l))
  pub kept : If a.kept ((k : K) (e : E) → r.key e ≡ Some k → r.keeps e ≡ r.passes k)

pub record RedactionIf {E K : Type 0} (a : Asked) (r : Room E K) : Type 0 where
  pub red_at : If a.red_at ((e : E) → r.at (r.red e) ≡ r.at e)
  pub red_key : If a.red_key ((e : E) → r.key (r.red e) ≡ r.key e)
  pub red_sender : If a.red_sender ((e : E) → r.sender (r.red e) ≡ r.sender e)
  pub red_names : If a.red_names ((e : E) → r.names (r.red e) ≡ r.names e)
  pub red_red : If a.red_red ((e : E) → r.red (r.red e) ≡ r.red e)

pub record JoinedIf {E K V D T : Type 0} (a : Asked) (g : Story E K V D T) : Type 0 where
  pub stayed_less : If a.stayed_less ((b s t : ℕ) → b ≤ s → s ≤ t → g.room.stayed b t ≡ true → g.room.stayed b s ≡ true)
  pub stays : If a.stays ((s : ℕ) → joined_in g s ≡ true → StaysSent g.room g.events s)
  pub kinds : If a.kinds (AllByRecursion (λ e. g.is_own e ≡ true → is_some (g.membership e) ≡ true) g.events)
  pub stayed : If a.stayed ((b s : ℕ) → b ≤ s → g.room.stayed b s ≡ true → joined_in g s ≡ true)

pub record RestIf {V D T : Type 0} (a : Asked) (ts : Tokens T) (joined : ℕ → Bool) (rest : Rest V D T) : Type 0 where
  pub folds : If a.folds ((i j : T) → ts.before i j ≡ true → joined (ts.event i) ≡ true → joined (ts.event j) ≡ true
      → rest.changed (rest.view i) (rest.delta i j) ≡ rest.view j)
  pub still : If a.still ((i j : T) → ts.before i j ≡ true → joined (ts.event i) ≡ true → joined (ts.event j) ≡ true
      → rest.differs i j ≡ false → rest.view j ≡ rest.view i)

-- `IsStory`, as far as it is asked
pub record StoryIf {E K V D T : Type 0} (a : Asked) (ts : Tokens T) (g : Story E K V D T) : Type 0 where
  pub order : OrderIf a g.room g.events
  pub keys : KeysIf a g.room
  pub redaction : RedactionIf a g.room
  pub joined : JoinedIf a g
  pub rest : RestIf a ts (joined_in g) g.rest

abbrev pub TurnIf : {X E K V T : Type 0} → Asked → Tokens T → Client X E K V T → Turn X E K T → Type 0
TurnIf a ts c (Synced ask heroes j) = If a.next (IsNext ts c.token j)
TurnIf {X = X} a ts c (Paged limit e gaps) = If a.past (IsPast ts c.token e) × If a.gaps ((x : X) → IsOpen (gaps x) (c.rooms x))

abbrev pub TurnsIf : {X E K V D T : Type 0} → Asked → Tokens T → (X → Story E K V D T) → Client X E K V T → List (Turn X E K T) → Type 0
TurnsIf a ts w c [] = ⊤
TurnsIf a ts w c (turn ∷ turns) = TurnIf a ts c turn × TurnsIf a ts w (after_turn ts w c turn) turns

-- `ChainsFold`, with the premises that are asked
abbrev pub ChainsFoldIf : Asked → Type 0 → Type 0 → Type 0 → Type 0 → Type 0 → Type 0 → Type 0
ChainsFoldIf a X E K V D T = (ts : Tokens T) → If a.rises (IsTokens ts) → (w : X → Story E K V D T) → ((x : X) → StoryIf a ts (w x))
    → (turns : List (Turn X E K T)) → TurnsIf a ts w (new_client X E K V T) turns → Agrees ts w (after_turns ts w (new_client X E K V T) turns)

-- with all premises it is the folding law
abbrev pub AllAsked : Type 0 → Type 0 → Type 0 → Type 0 → Type 0 → Type 0 → Type 0
AllAsked X E K V D T = ChainsFoldIf all_asked X E K V D T ↔ ChainsFold X E K V D T

-- The events that the counterexamples are made of.
pub record Item : Type 0 where
  pub place : ℕ
  -- the position of the event that it redacts
  pub names : Option ℕ
  -- it was redacted
  pub bare : Bool

-- With these premises alone the law is false: of one room of such events, with two state keys.
abbrev pub FailsWith : Asked → Type 0
FailsWith a = ChainsFoldIf a (Unit {0}) Item Bool ℕ ℕ ℕ → ⊥
