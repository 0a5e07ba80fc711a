use Rattle.std.proofs.Common.{ℕ, List, [], sym}
use Rattle.std.proofs.lemmas.List.{append-nil}
use Rattle.mx_restore.specs.declared.reading.ReadLine.{ReadLine}
use Rattle.mx_restore.proofs.reading.read_more.Goals as goal

pub returns-in-Err-clause-read : goal.returns-in-Err-clause-read
returns-in-Err-clause-read g c =
    let took = c.in-Err.ensures.took in
    record { piece = took.0; taken = took.2; read = record { texts = []; whole = sym {A = List ℕ} took.1; lines = []; added = sym {A = List ReadLine} (append-nil c.args.lines.now.items); are = tt } }
