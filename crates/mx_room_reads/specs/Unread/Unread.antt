pub use Rattle.mx_rest.specs.Unread.Unread.{rules_at}
