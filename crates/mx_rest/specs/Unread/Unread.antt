pub use Rattle.mx_unread.specs.Unread.{rules_at}
