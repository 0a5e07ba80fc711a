-- Files in memory, by name.
use Rattle.std.specs.Prelude.{ℕ, Bool, List, [], ◌∷◌, Some, None, if◌then◌else◌, nat_eq, is_none, ◌||◌, string_bytes}
use Rattle.std.specs.declared.option.Option.{Option}
use Rattle.std.specs.Cmp.Lexicographic.{pointwise}
use Rattle.mx_outside.specs.declared.mem_file.MemFile.{MemFile}
use Rattle.mx_outside.specs.Calls.{FaultPlan, is_failing}

-- the bytes of the first file with this name
abbrev pub bytes_of : List ℕ → List MemFile → Option (List ℕ)
bytes_of name [] = None
bytes_of name (file ∷ files) = if pointwise nat_eq (string_bytes file.name) name then Some file.bytes.items else bytes_of name files

-- what a set of files in memory holds
pub record FilesState : Type 0 where
  pub files : List MemFile
  pub plan : FaultPlan

-- a read of this file fails: it is one of the failing calls, or no file has the name
abbrev pub is_refused : FilesState → List ℕ → Bool
is_refused files name = is_failing files.plan || is_none (bytes_of name files.files)
