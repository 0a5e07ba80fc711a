-- Chains of replies and pages, whose pages may be of any front of at least that where their gap was cut.
use Rattle.std.proofs.Common.{ℕ, ◌≤◌, max, List, [], ◌∷◌, Option, Some, None, refl, arith}
use Rattle.mx_folding.specs.Stories.{Tokens, IsTokens, position, Story, IsStory, Sync, told, with_told, Holding, HoldingAgrees, IsNext, IsBase}
use Rattle.mx_folding.specs.Chains.{Client, new_client, Opening, Turn, Synced, Paged, base_of, with_paged, after_turn, after_turns, IsOpen}
use Rattle.mx_refold.specs.Redacted.{holding_redacted}
use Rattle.mx_refold.specs.Chains.{IsReached, IsAnyTurn, AreAnyTurns, ChainsRedact}
use Rattle.mx_refold.proofs.Holdings.{reply_folds, page_folds}
use Rattle.mx_refold.proofs.Cuts.{AreCut, reply_cut, page_cut, seen_from}

module _ {X E K V D T : Type 0} (ts : Tokens T) (tokens : IsTokens ts) (w : X → Story E K V D T) (stories : (x : X) → IsStory ts (w x)) where
  -- at each front from its own on the client agrees after the redactions of its timelines, and its gaps were cut in order
  pub record Sound (c : Client X E K V T) : Type 0 where
    pub based : c.base ≤ position ts c.token
    pub within : position ts c.token ≤ c.front
    pub agrees : (front : ℕ) → c.front ≤ front → (x : X) → HoldingAgrees ts (w x) c.base c.token front (holding_redacted (w x).room (c.rooms x))
    pub cut : (x : X) → AreCut ts (w x) (stories x) (c.rooms x)

  base_is : (b : ℕ) (since : Option T) (j : T) → b ≤ position ts since → IsBase ts (base_of ts b since j) since j
  base_is b None j based = refl
  base_is b (Some i) j based = based

  base_below : (b : ℕ) (since : Option T) (j : T) → b ≤ position ts since → IsNext ts since j → base_of ts b since j ≤ ts.event j
  base_below b None j based next = omega arith
  base_below b (Some i) j based next = let up : ts.event i ≤ ts.event j = tokens.rises i j next in omega arith

  based_alike : (b : ℕ) (since : Option T) (j : T) (front : ℕ) (x : X) (had : Holding E K V) → HoldingAgrees ts (w x) b since front had
      → HoldingAgrees ts (w x) (base_of ts b since j) since front had
  based_alike b None j front x had h = h
  based_alike b (Some i) j front x had h = h

  synced : (c : Client X E K V T) (ask : Sync) (heroes : X → K → _) (j : T) → IsNext ts c.token j → Sound c → Sound (after_turn ts w c (Synced ask heroes j))
  synced c ask heroes j next sound =
      let b : ℕ = base_of ts c.base c.token j in
      let after : (front : ℕ) → max c.front (ts.event j) ≤ front → (x : X) → HoldingAgrees ts (w x) b (Some j) front
      (holding_redacted (w x).room (with_told (w x) ask.after (position ts c.token) (ts.event j) (told ts (w x) ask (heroes x) b c.token j) (c.rooms x))) =
      λ front upto x. reply_folds ts (w x) (stories x) tokens ask (heroes x) b c.token j c.front front (c.rooms x) next
      (base_is c.base c.token j sound.based) (omega arith) (omega arith)
      (based_alike c.base c.token j c.front x (holding_redacted (w x).room (c.rooms x)) (sound.agrees c.front (omega arith) x)) in
      record {
        based = base_below c.base c.token j sound.based next;
        within = omega arith;
        agrees = after;
        cut = λ x. reply_cut ts (w x) (stories x) tokens ask (heroes x) b b c.token j (max c.front (ts.event j)) (c.rooms x) next
            (after (max c.front (ts.event j)) (omega arith) x) (sound.cut x);
      }

  page_agrees : (c : Client X E K V T) (limit e front : ℕ) (x : X) (o : Option (Opening E)) → max c.front e ≤ front → Sound c
      → IsReached e o → IsOpen o (c.rooms x)
      → HoldingAgrees ts (w x) c.base c.token front (holding_redacted (w x).room (with_paged (w x) limit e o (c.rooms x)))
  page_agrees c limit e front x None upto sound reached open' = sound.agrees front (omega arith) x
  page_agrees c limit e front x (Some o) upto sound reached open' =
      let within : position ts c.token ≤ c.front = sound.within in
      page_folds ts (w x) (stories x) limit c.base e c.front front c.token o (c.rooms x)
      (seen_from ts (w x) (stories x) e o (c.rooms x) reached open' (sound.cut x)) (omega arith) (omega arith) (omega arith) open'
      (sound.agrees c.front (omega arith) x)

  page_cuts : (c : Client X E K V T) (limit e : ℕ) (x : X) (o : Option (Opening E)) → Sound c → IsOpen o (c.rooms x)
      → AreCut ts (w x) (stories x) (with_paged (w x) limit e o (c.rooms x))
  page_cuts c limit e x None sound open' = sound.cut x
  page_cuts c limit e x (Some o) sound open' = page_cut ts (w x) (stories x) limit e o (c.rooms x) open' (sound.cut x)

  pub sound_turn : (c : Client X E K V T) (turn : Turn X E K T) → IsAnyTurn ts c turn → Sound c → Sound (after_turn ts w c turn)
  sound_turn c (Synced ask heroes j) is sound = synced c ask heroes j is sound
  sound_turn c (Paged limit e openings) is sound = record {
    based = sound.based;
    within = let within : position ts c.token ≤ c.front = sound.within in omega arith;
    agrees = λ front upto x. page_agrees c limit e front x (openings x) upto sound (is x).0 (is x).1;
    cut = λ x. page_cuts c limit e x (openings x) sound (is x).1;
  }

  -- a client without a token holds nothing
  pub sound_new : Sound (new_client X E K V T)
  sound_new = record { based = omega arith; within = omega arith; agrees = λ front upto x. (refl, refl); cut = λ x p is. absurd (cc is) }

  sound_turns : (c : Client X E K V T) (turns : List (Turn X E K T)) → AreAnyTurns ts w c turns → Sound c → Sound (after_turns ts w c turns)
  sound_turns c [] are sound = sound
  sound_turns c (turn ∷ turns) are sound = sound_turns (after_turn ts w c turn) turns are.1 (sound_turn c turn are.0 sound)

  pub redact_fold : (turns : List (Turn X E K T)) → AreAnyTurns ts w (new_client X E K V T) turns → (x : X)
      → let c : Client X E K V T = after_turns ts w (new_client X E K V T) turns in
      HoldingAgrees ts (w x) c.base c.token c.front (holding_redacted (w x).room (c.rooms x))
  redact_fold turns are x =
      let c : Client X E K V T = after_turns ts w (new_client X E K V T) turns in
      (sound_turns (new_client X E K V T) turns are sound_new).agrees c.front (omega arith) x

pub chains_redact : {X E K V D T : Type 0} → ChainsRedact X E K V D T
chains_redact ts tokens w stories turns are x = redact_fold ts tokens w stories turns are x
