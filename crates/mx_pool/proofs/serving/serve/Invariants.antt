use Rattle.mx_pool.specs.Connections.{ends_by, places_of, service_of}
use Rattle.mx_pool.specs.Serving.{IsGiven}
use Rattle.mx_pool.proofs.serving.serve.Given as goal

abbrev pub ghosts-serve_by-N-Ledger : goal.ghosts-serve_by-N-Ledger
ghosts-serve_by-N-Ledger g a = record { name = a.blank.name; parts = a.blank.parts }

-- the seats are the server's, and a connection's ends those of a pair that the listener gives
abbrev pub ghosts-serve_by-N-Seating : goal.ghosts-serve_by-N-Seating
ghosts-serve_by-N-Seating g a = record {
  service = service_of a.server;
  places = places_of a.server.engine;
  is_kind = IsGiven g.L.Listener.left (ends_by g.L.In.Source.left g.L.Out.Sink.written g.L.In.Source.faults g.L.Out.Sink.faults) (g.L.Listener.left a.listener.now);
}
