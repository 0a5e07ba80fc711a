pub use Rattle.mx_state.proofs.Standing.{standing_is, state_is}
