pub use Rattle.mx_visible.proofs.LastJoin.{room_ascends}
