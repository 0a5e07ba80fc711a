-- The sessions of one thread, of which each stands by itself.
use Rattle.std.specs.Prelude.{ℕ, List, Option, Some, None, IfSome}
use Rattle.std.specs.List.{All, slice_get}
use Rattle.std.specs.Global.{Vec}
use Rattle.std.proofs.Props.{props}
use Rattle.mx_fold.specs.Lists.{Lists, lists_of}
use Rattle.mx_poll.specs.Aims.Asked.{Site}
use Rattle.mx_poll.specs.OfEngine.Answers.{Stops, counts_of}
use Rattle.mx_poll.specs.OfEngine.EnginePass.{EnginePass}
use Rattle.mx_poll.specs.OfEngine.Exchanges.{AtMost, first_of}
use Rattle.mx_poll.specs.OfEngine.Mark.{Mark}
use Rattle.mx_poll.specs.OfEngine.Shown.{stores_of}
use Rattle.mx_serve.specs.Sessions.{Moment}
use Rattle.mx_loop.specs.Stands.{ArePolled, Stands, sight}
use Rattle.mx_loop.specs.declared.line.State.{State}
use Rattle.mx_loop.specs.declared.line.State.TheVariants as state
use Rattle.mx_loop.specs.declared.session.Session.{Session}

-- what a session has seen is of what the pass has, and so is what it says where it rests
pub record IsHeld {P : Type 0} (pass : EnginePass) (s : Session P) : Type 0 where
  pub seen : AtMost s.line.seen (counts_of (stores_of pass))
  pub polled : ArePolled (lists_of (stores_of pass)) s.line.marks s.state

-- of each place where there is a session
abbrev pub AreHeld : {P : Type 0} → EnginePass → List (Option (Session P)) → Type 0
AreHeld pass all = All (λ o. IfSome o (λ s. IsHeld pass s)) all

-- which is a fact
polled_prop : (l : Lists) (marks : Vec Mark) (s : State) → IsProp (ArePolled l marks s)
polled_prop l marks state.Head = hlevel props
polled_prop l marks (state.Body d) = hlevel props
polled_prop l marks (state.Rests r) = hlevel props
polled_prop l marks (state.Writes n) = hlevel props
polled_prop l marks (state.Ended e) = hlevel props

place_prop : {P : Type 0} (pass : EnginePass) (o : Option (Session P)) → IsProp (IfSome o (λ s. IsHeld pass s))
place_prop pass None = hlevel props
place_prop pass (Some s) = hlevel (props, polled_prop)

pub are_held_prop : {P : Type 0} (pass : EnginePass) (all : List (Option (Session P))) → IsProp (AreHeld pass all)
are_held_prop pass all = hlevel (props, place_prop)

-- the session at this place stands, on what it has seen of what the pass has
abbrev pub StandsAt : {P : Type 0} → (P → Option (List ℕ)) → (P → Option (List ℕ)) → Site → Stops → ℕ → Moment → EnginePass → List (Option (Session P)) → ℕ → Type 0
StandsAt left written site stops limit start pass all i =
    IfSome (slice_get all i) (λ o. IfSome o (λ s. Stands site stops limit start (first_of (stores_of pass) s.line.seen) (sight left written s.line) s.state))
