pub use Rattle.mx_lazy.proofs.Still.{summary_still}
