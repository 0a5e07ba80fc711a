pub use Rattle.mx_lazy.specs.OfVisible.Walks.{joins, last_join}
