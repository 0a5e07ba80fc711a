pub use Rattle.mx_poll.specs.OfEngine.Places.{HasAll, IsAlone, Places, firsts_of, followed_by}
