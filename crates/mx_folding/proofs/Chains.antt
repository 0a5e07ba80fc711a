-- Chains of replies and pages.
use Rattle.std.proofs.Common.{◌≡◌, ℕ, ◌≤◌, Bool, true, false, cond, List, [], ◌∷◌, Option, Some, None, option_map, refl, ap, sym, ◌∙◌, subst, arith}
use Rattle.std.specs.Prelude.{⊤}
use Rattle.mx_window.proofs.Each.{AllByRecursion-weaker}
use Rattle.mx_folding.specs.Rooms.{StaysSent}
use Rattle.mx_folding.specs.Redactions.{is_named}
use Rattle.mx_folding.specs.Parts.{page_of}
use Rattle.mx_folding.specs.Clients.{held, ClientRoom, with_page}
use Rattle.mx_folding.specs.Agreement.{IsDue, RoomAgrees}
use Rattle.mx_folding.proofs.Copies.{due_later}
use Rattle.std.proofs.Common.{max}
use Rattle.std.proofs.lemmas.Option.{same_Some}
use Rattle.std.specs.Option.{option_and_then}
use Rattle.mx_folding.proofs.Pages.{folds_page}
use Rattle.mx_folding.proofs.Memberships.{folds_room}
use Rattle.mx_folding.specs.Visible.{Membership, Join, Invite, Leave, Ban, is_join}
use Rattle.mx_folding.specs.Stories.{Tokens, IsTokens, Story, own_at, IsStory, Standing, Out, In, Asked, standing_by, standing_of, standing, Holding, StandingAgrees, HoldingAgrees, IsNext, IsBase}
use Rattle.mx_folding.specs.Chains.{Client, new_client, Opening, around, Turn, Synced, Paged, base_of, paged, with_paged, after_turn, after_turns, IsOpen, IsPast, AreTurns, Agrees, ChainsFold}

-- b lies at or before the token, and the token at or before the front
abbrev IsSound : {T : Type 0} → Tokens T → ℕ → Option T → ℕ → Type 0
IsSound ts b None front = ⊤
IsSound ts b (Some i) front = (b ≤ ts.event i) × (ts.event i ≤ front)

base_is : {T : Type 0} (ts : Tokens T) → IsTokens ts → (b : ℕ) (since : Option T) (j : T) (front : ℕ) → IsSound ts b since front
    → IsNext ts since j → IsBase ts (base_of ts b since j) since j
base_is ts tokens b None j front sound next = refl
base_is ts tokens b (Some i) j front sound next = sound.0

sound_after : {T : Type 0} (ts : Tokens T) → IsTokens ts → (b : ℕ) (since : Option T) (j : T) (front : ℕ) → IsSound ts b since front
    → IsNext ts since j → IsSound ts (base_of ts b since j) (Some j) (max front (ts.event j))
sound_after ts tokens b None j front sound next = (omega arith, omega arith)
sound_after ts tokens b (Some i) j front sound next =
    let up : ts.event i ≤ ts.event j = tokens.rises i j next in let low : b ≤ ts.event i = sound.0 in (omega arith, omega arith)

sound_paged : {T : Type 0} (ts : Tokens T) (b : ℕ) (since : Option T) (front e : ℕ) → IsSound ts b since front → IsSound ts b since (max front e)
sound_paged ts b None front e sound = tt
sound_paged ts b (Some i) front e sound = let up : ts.event i ≤ front = sound.1 in (sound.0, omega arith)

-- what is held agrees at b' as at b, before the first token
agrees_based : {E K V D T : Type 0} (ts : Tokens T) (g : Story E K V D T) (b : ℕ) (since : Option T) (j : T) (front : ℕ) (had : Holding E K V)
    → HoldingAgrees ts g b since front had → HoldingAgrees ts g (base_of ts b since j) since front had
agrees_based ts g b None j front had agrees = agrees
agrees_based ts g b (Some i) j front had agrees = agrees

stands_in : {E K V D T : Type 0} (g : Story E K V D T) (picked : Bool) (own : Option E) → cond picked (standing_of g own) Out
    ≡ In → is_join (option_and_then g.membership own) ≡ true
stands_in g false own h = absurd (cc (h))
stands_in g true None h = absurd (cc (h))
stands_in g true (Some e) h = by (g.membership e) h where
  by : (m : Option Membership) → standing_by m (g.stripped e) ≡ In → is_join m ≡ true
  by None h = absurd (cc (h))
  by (Some Join) h = refl
  by (Some Invite) h = absurd (cc (h))
  by (Some Leave) h = absurd (cc (h))
  by (Some Ban) h = absurd (cc (h))

-- a page of a room that the user is joined in
page_in : {E K V D T : Type 0} (ts : Tokens T) (g : Story E K V D T) (story : IsStory ts g) (limit b e front front' : ℕ)
    (i : T) (o : Opening E) (had : Holding E K V) (st : Standing)
    → standing g (ts.event i) ≡ st → ts.event i ≤ e → e ≤ front' → front ≤ front' → IsOpen (Some o) had → StandingAgrees ts g b i front st had
    → StandingAgrees ts g b i front' st (with_paged g limit e (Some o) had)
page_in ts g story limit b e front front' i o had Out is past upto later open' h = absurd (cc (h.0, open'.2))
page_in ts g story limit b e front front' i o had (Asked ids) is past upto later open' h = absurd (cc (h.0, open'.2))
page_in {E = E} {K = K} {V = V} ts g story limit b e front front' i o had In is past upto later open' h =
    let room : ClientRoom E K = h.0 in
    let same : ◌≡◌ {A = Option (ClientRoom E K × V)} (Some (open'.0, open'.1)) (Some (h.0, h.1)) = sym open'.2 ∙ h.2 in
    let same_room : open'.0 ≡ h.0 = ap (λ (p : ClientRoom E K × V). p.0) (same_Some (open'.0, open'.1) (h.0, h.1) same) in
    let timeline : room.timeline ≡ around o = ap (λ (c : ClientRoom E K). c.timeline) (sym same_room) ∙ open'.3 in
    let whole : ◌≡◌ {A = ClientRoom E K} room (record { state = room.state; timeline = around o }) =
    λ j. record { state = room.state; timeline = timeline j } in
    let agrees : RoomAgrees g.room g.events b (ts.event i) front (record { state = room.state; timeline = around o }) =
    subst (RoomAgrees g.room g.events b (ts.event i) front) whole h.3 in
    let stays : StaysSent g.room g.events (ts.event i) = story.stays (ts.event i) (stands_in g g.picked (own_at g (ts.event i)) is) in (
      with_page g.room o.gap o.before o.behind (page_of g.room g.events limit e o.gap) room.state,
      h.1,
      ap (option_map (paged g limit e o)) h.2,
      folds_page g.room g.events story.room limit b (ts.event i) front front' e o.gap o.before o.behind room.state stays past upto later agrees,
      h.4,
      h.5,
    )

-- a later front asks no more of what is held
holds_later : {E K V D T : Type 0} (ts : Tokens T) (g : Story E K V D T) (b : ℕ) (i : T) (front front' : ℕ) (st : Standing) (had : Holding E K V)
    → front ≤ front' → StandingAgrees ts g b i front st had → StandingAgrees ts g b i front' st had
holds_later ts g b i front front' Out had up h = h
holds_later ts g b i front front' (Asked ids) had up h = h
holds_later ts g b i front front' In had up h =
    let room = h.0 in
    let agrees = h.3 in (
      h.0,
      h.1,
      h.2,
      record {
        timeline = agrees.timeline;
        state = agrees.state;
        held_copies =
            AllByRecursion-weaker (IsDue g.room g.events front (is_named g.room (held room.timeline)))
            (IsDue g.room g.events front' (is_named g.room (held room.timeline)))
            (λ c d. due_later g.room g.events front front' (is_named g.room (held room.timeline)) c up d) (held room.timeline) agrees.held_copies;
        state_copies = λ key c e. due_later g.room g.events front front' (is_named g.room (held room.timeline)) c up (agrees.state_copies key c e);
      },
      h.4,
      h.5,
    )

page_step : {E K V D T : Type 0} (ts : Tokens T) (g : Story E K V D T) (story : IsStory ts g) (limit b e front front' : ℕ)
    (since : Option T) (gap : Option (Opening E)) (had : Holding E K V)
    → IsPast ts since e → e ≤ front' → front ≤ front' → IsOpen gap had → HoldingAgrees ts g b since front had
    → HoldingAgrees ts g b since front' (with_paged g limit e gap had)
page_step ts g story limit b e front front' None None had past upto later open' agrees = agrees
page_step ts g story limit b e front front' None (Some gap) had past upto later open' agrees = absurd (cc (agrees.0, open'.2))
page_step ts g story limit b e front front' (Some i) None had past upto later open' agrees =
    holds_later ts g b i front front' (standing g (ts.event i)) had later agrees
page_step ts g story limit b e front front' (Some i) (Some gap) had past upto later open' agrees =
    page_in ts g story limit b e front front' i gap had (standing g (ts.event i)) refl past upto later open' agrees

-- each turn keeps the agreement
turns_fold : {X E K V D T : Type 0} (ts : Tokens T) → IsTokens ts → (w : X → Story E K V D T) → ((x : X) → IsStory ts (w x))
    → (c : Client X E K V T) (turns : List (Turn X E K T))
    → IsSound ts c.base c.token c.front → Agrees ts w c → AreTurns ts w c turns → Agrees ts w (after_turns ts w c turns)
turns_fold ts tokens w stories c [] sound agrees are = agrees
turns_fold ts tokens w stories c (Synced ask heroes j ∷ turns) sound agrees are =
    turns_fold ts tokens w stories (after_turn ts w c (Synced ask heroes j)) turns (sound_after ts tokens c.base c.token j c.front sound are.0)
    (λ x. folds_room ts tokens (w x) (stories x) ask (heroes x) (base_of ts c.base c.token j) c.token j c.front (max c.front (ts.event j)) (c.rooms x)
    are.0 (base_is ts tokens c.base c.token j c.front sound are.0) (omega arith) (omega arith)
    (agrees_based ts (w x) c.base c.token j c.front (c.rooms x) (agrees x))) are.1
turns_fold ts tokens w stories c (Paged limit e gaps ∷ turns) sound agrees are =
    turns_fold ts tokens w stories (after_turn ts w c (Paged limit e gaps)) turns (sound_paged ts c.base c.token c.front e sound)
    (λ x. page_step ts (w x) (stories x) limit c.base e c.front (max c.front e) c.token (gaps x) (c.rooms x) are.0.0
    (omega arith) (omega arith) (are.0.1 x) (agrees x)) are.1

pub chains_fold : {X E K V D T : Type 0} → ChainsFold X E K V D T
chains_fold {X = X} {E = E} {K = K} {V = V} {T = T} ts tokens w stories turns are =
    turns_fold ts tokens w stories (new_client X E K V T) turns tt (λ x. (refl, refl)) are
