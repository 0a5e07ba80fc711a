pub use Rattle.mx_lazy.specs.declared.room_summary.Summary.{Summary}
