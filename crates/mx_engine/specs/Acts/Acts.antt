pub use Rattle.mx_acts.specs.Acts.{Act, Files, Marks, Notes, Puts, Reads, Sends, asked}
