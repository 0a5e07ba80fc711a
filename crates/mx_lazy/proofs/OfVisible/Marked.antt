pub use Rattle.mx_visible.proofs.Marked.{ended, found_here, none_left, own_room}
