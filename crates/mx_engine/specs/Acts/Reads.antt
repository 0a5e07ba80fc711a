unfoldable pub use Rattle.mx_acts.specs.Reads.{page_said, sync_said}
pub use Rattle.mx_acts.specs.Reads.{of_room, page_ask, page_told, snapshot_of, sync_ask, sync_by, sync_told, unless_ahead}
