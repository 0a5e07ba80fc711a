pub use Rattle.mx_aims.specs.Asked.{Site, room_of}
