-- The state of a room at a position, as a snapshot finds it.
pub use Rattle.mx_snapshot.specs.Standing.{is_at, stands, stands_under, standing_in}
