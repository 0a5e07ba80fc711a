use Rattle.std.proofs.Common.{◌≡◌, ℕ, length}
use Rattle.mx_fold.specs.Lists.{Grows}
use Rattle.mx_poll.specs.OfEngine.Shown.{Ties, site_of, stops_of, stores_of}
use Rattle.mx_serve.specs.Sessions.{Moment}
use Rattle.mx_loop.specs.Turns.{StandsAt}
use Rattle.mx_loop.proofs.sessions.Sessions.run_turns.Given as goal

abbrev pub invariant-turns : goal.invariant-turns
invariant-turns g l = record {
  ties : Ties l.server.engine l.self.pass;
  grows : Grows (stores_of l.initial.self.pass) (stores_of l.self.pass);
  count : length l.self.all.items ≡ length l.initial.self.all.items;
  stands : (i : ℕ) (start : Moment) → StandsAt g.P.Port.left g.P.Port.written (site_of l.server.engine) (stops_of l.server.engine) l.server.limit start l.initial.self.pass l.initial.self.all.items i
      → StandsAt g.P.Port.left g.P.Port.written (site_of l.server.engine) (stops_of l.server.engine) l.server.limit start l.self.pass l.self.all.items i;
}
