pub use Rattle.mx_poll.specs.OfEngine.Shown.{IsKnown, Looks, Ties, known_of, looks_of, made_of, none_made, site_of, stops_of, stores_of}
