pub use Rattle.mx_lazy.specs.Summaries.{same_summary}
