pub use Rattle.mx_engine.proofs.Alone.{AddsAll, CountsAll, adds_for, adds_nothing, adds_then, all_told, counts_for, counts_nothing, counts_then, has_all}
