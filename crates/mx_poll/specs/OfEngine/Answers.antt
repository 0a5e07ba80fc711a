pub use Rattle.mx_engine.specs.Answers.{IsAnswered, IsRead, KeepsAct, KeepsBoth, KeepsEntry, KeepsMarker, KeepsNote, KeepsPut, KeepsReceipt, KeepsWrites, LeavesReceipts, Stops, TellsMarker, act_said, answer_to, counts, counts_of, filed, made_for, nothing, of_marker, reading, stops_at, stops_with}
