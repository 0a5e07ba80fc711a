pub use Rattle.mx_lazy.specs.Summaries.{same_summary, same_texts, summary_at, summary_of}
