pub use Rattle.mx_event.specs.Kinds.{is_text}
