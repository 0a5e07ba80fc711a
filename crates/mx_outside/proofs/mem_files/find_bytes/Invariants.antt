use Rattle.std.proofs.Common.{◌≡◌, drop}
use Rattle.mx_outside.specs.Named.{bytes_of}
use Rattle.mx_outside.proofs.mem_files.find_bytes.Given as goal

abbrev pub invariant-loop-file : goal.invariant-loop-file
invariant-loop-file l = bytes_of l.name (drop l.file-index l.files) ≡ bytes_of l.name l.files
