pub use Rattle.mx_engine.specs.Shown.{IsKnown, Looks, LooksBy, LooksFor, Ties, is_whoami, known_of, looks_of, made_of, none_made, site_of, stops_of, stores_of}
