pub use Rattle.mx_lanes.proofs.parts.Parts.TheSendSync.{the_send, the_sync}
