pub use Rattle.mx_poll.specs.OfEngine.Answers.{Stops, counts_of, nothing, stops_at, stops_with}
