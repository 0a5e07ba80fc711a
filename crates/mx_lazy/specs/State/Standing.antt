pub use Rattle.mx_state.specs.Standing.{is_at, standing_in, stands, stands_under}
