pub use Rattle.mx_sync.proofs.Stays.{end_none, end_some}
