pub use Rattle.mx_engine.specs.Acts.Acts.{Act, Files, Marks, Notes, Puts, Reads, Sends, asked}
