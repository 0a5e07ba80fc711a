pub use Rattle.mx_lazy.specs.Members.{is_member, members_of}
