pub use Rattle.mx_engine.proofs.Done.{all_self, made_wanting, no_made, none_done}
