-- The head of a request as the reader takes it apart.
use Rattle.std.specs.Prelude.{◌≡◌, ℕ, ◌<◌, ◌⊎◌, List, Option, Some, None, Result, Ok, Err, length}
use Rattle.std.specs.Io.KnownBytes.{IsAtEnd}
use Rattle.httparse.specs.Grammar.{RequestHead, print_request, HasNoRequest, NeverHasRequest, MayBecomeRequest, EndsInTarget}
use Rattle.httparse.specs.Spans.{IsRequestWithin, IsRequestOf}
use Rattle.httparse.specs.declared.spans.HeaderSpan.{HeaderSpan}
use Rattle.mx_http.specs.declared.call.Call.{Call}
use Rattle.mx_http.specs.declared.head.Head.{Head}
use Rattle.mx_http.specs.declared.grammar.Judged.{Judged}
use Rattle.mx_http.specs.declared.grammar.Judged.TheVariants as judged
use Rattle.mx_http.specs.declared.fault.HttpFault.{HttpFault}
use Rattle.mx_http.specs.declared.fault.HttpFault.TheVariants as faults
use Rattle.mx_http.specs.Calls.{AreLineEnds, HasBadSize, HasFault, HasHead, HasSize, IsBlank, IsOpenHead, IsUnfinished, call_of, head_limit}
use Rattle.mx_http.specs.Reads.{Fails}

-- a whole head at the front; none yet; or none, whatever follows
abbrev pub Judges : List ℕ → List HeaderSpan → Judged → Type 0
Judges bytes fields (judged.Whole spans) = IsRequestWithin bytes fields spans × IsRequestOf bytes fields spans
Judges bytes fields judged.Open = HasNoRequest bytes × (MayBecomeRequest bytes ⊎ AreLineEnds bytes)
Judges bytes fields judged.Bad = NeverHasRequest bytes × (EndsInTarget bytes → ⊥) × (AreLineEnds bytes → ⊥)

-- the last two, where no head comes at the front
abbrev pub JudgesNone : List ℕ → Judged → Type 0
JudgesNone bytes (judged.Whole spans) = ⊥
JudgesNone bytes judged.Open = EndsInTarget bytes ⊎ AreLineEnds bytes
JudgesNone bytes judged.Bad = (EndsInTarget bytes → ⊥) × (AreLineEnds bytes → ⊥)

-- the request of a head that was taken apart and a body
abbrev pub with_body : Head → List ℕ → Call
with_body parts body = record { method = parts.method; target = parts.target; bearer = parts.bearer; body = body; close = parts.close }

-- the bytes begin with a head within the limits, of which these are the parts
pub record HasParts (bytes : List ℕ) (parts : Head) : Type 0 where
  pub head : RequestHead
  pub rest : List ℕ
  pub has_head : HasHead bytes head rest
  pub has_size : HasSize head parts.size
  pub len : parts.len ≡ length (print_request head)
  pub says : (body : List ℕ) → call_of head body ≡ with_body parts body

-- the parts of a whole head, or that its field lines say no size
abbrev pub TakesApart : List ℕ → Result (Option Head) HttpFault → Type 0
TakesApart bytes (Ok (Some parts)) = HasParts bytes parts
TakesApart bytes (Ok None) = ⊥
TakesApart bytes (Err (faults.Memory _)) = Unit {0}
TakesApart bytes (Err fault) = HasBadSize bytes fault

-- a whole head at the front; none yet; or none, whatever follows
abbrev pub FindsHead : List ℕ → Result (Option Head) HttpFault → Type 0
FindsHead bytes (Ok (Some parts)) = HasParts bytes parts
FindsHead bytes (Ok None) = (length bytes < head_limit) × (IsOpenHead bytes ⊎ IsBlank bytes)
FindsHead bytes (Err (faults.Memory _)) = Unit {0}
FindsHead bytes (Err fault) = HasFault fault bytes

-- what bytes at whose front no head is whole are, at the end of the source
abbrev pub EndsWith : List ℕ → Result (Option Head) HttpFault → Type 0
EndsWith held (Ok (Some parts)) = ⊥
EndsWith held (Ok None) = IsBlank held
EndsWith held (Err faults.Cut) = IsUnfinished held × (IsBlank held → ⊥)
EndsWith held (Err other) = ⊥

-- a whole head at the front, the end of the source, or a fault
abbrev pub GivesHead : List ℕ → Option (List ℕ) → Result (Option Head) HttpFault → Type 0
GivesHead held left (Ok (Some parts)) = HasParts held parts
GivesHead held left (Ok None) = IsBlank held × IsAtEnd left
GivesHead held left (Err fault) = Fails held left fault

-- fewer bytes are held than are wanted, by this fault
abbrev pub Lacks : List ℕ → ℕ → Option (List ℕ) → HttpFault → Type 0
Lacks held wanted left faults.Cut = (length held < wanted) × IsAtEnd left
Lacks held wanted left faults.ReadFault = length held < wanted
Lacks held wanted left (faults.Memory _) = Unit {0}
Lacks held wanted left other = ⊥
