pub use Rattle.mx_lazy.specs.Members.{members_at, plain}
