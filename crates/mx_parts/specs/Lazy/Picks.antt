pub use Rattle.mx_lazy.specs.Picks.{IsStayed, pick_of}
