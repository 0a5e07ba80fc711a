pub use Rattle.mx_engine.specs.Places.{HasAll, IsAlone, Places, firsts_of, followed_by, nowhere, places_for}
