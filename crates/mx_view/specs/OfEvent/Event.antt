pub use Rattle.mx_event.specs.declared.event.Event.{Event}
