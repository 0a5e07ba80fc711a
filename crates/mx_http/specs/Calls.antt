-- The requests that bytes begin with, and how the bytes go on, over the grammar of request heads.
use Rattle.std.specs.Prelude.{◌≡◌, ℕ, ◌<◌, ◌≤◌, ◌⊎◌, ◌||◌, ◌==◌, List, [], ◌∷◌, ◌++◌, Ok, Err, length, take, All, IsTrue}
use Rattle.httparse.specs.Grammar.{RequestHead, print_request, ReadsRequest, HasNoRequest, NeverHasRequest, MayBecomeRequest, EndsInTarget}
use Rattle.mx_http.specs.Fields.{pairs_of, body_size, bearer_of, asks_close}
use Rattle.mx_http.specs.declared.call.Call.{Call}
use Rattle.mx_http.specs.declared.fault.HttpFault.{HttpFault}
use Rattle.mx_http.specs.declared.fault.HttpFault.TheVariants as faults

-- a head has at most so many bytes
abbrev pub head_limit : ℕ
head_limit = 16384

-- the request of a head and a body
abbrev pub call_of : RequestHead → List ℕ → Call
call_of head body = record {
  method = head.method;
  target = head.target;
  bearer = bearer_of (pairs_of head.fields);
  body = body;
  close = asks_close head.minor (pairs_of head.fields);
}

-- these bytes begin with this head, which is within the limits, and go on with the rest
pub record HasHead (bytes : List ℕ) (head : RequestHead) (rest : List ℕ) : Type 0 where
  pub reads : ReadsRequest bytes head rest
  pub short : length (print_request head) ≤ head_limit

-- the field lines of the head say that its body has so many bytes
abbrev pub HasSize : RequestHead → ℕ → Type 0
HasSize head size = body_size (pairs_of head.fields) ≡ Ok size

-- these bytes are one whole request, which says this
pub record IsCall (bytes : List ℕ) (call : Call) : Type 0 where
  pub head : RequestHead
  pub body : List ℕ
  pub has_head : HasHead bytes head body
  pub has_size : HasSize head (length body)
  pub says : call ≡ call_of head body

-- these bytes are these requests, one after the other
abbrev pub AreCalls : List ℕ → List Call → Type 0
AreCalls bytes [] = bytes ≡ []
AreCalls bytes (call ∷ calls) = (front : List ℕ) × (after : List ℕ) × (bytes ≡ front ++ after) × IsCall front call × AreCalls after calls

-- each byte is CR or LF
abbrev pub AreLineEnds : List ℕ → Type 0
AreLineEnds bytes = All (λ b. IsTrue (b == 13 || b == 10)) bytes

-- fewer bytes than a head may have, all of them CR or LF: nothing is asked
abbrev pub IsBlank : List ℕ → Type 0
IsBlank bytes = (length bytes < head_limit) × AreLineEnds bytes

-- a head that isn't whole yet, and may become one, or whose target goes on
pub record IsOpenHead (bytes : List ℕ) : Type 0 where
  pub short : length bytes < head_limit
  pub none : HasNoRequest bytes
  pub open_end : MayBecomeRequest bytes

-- a head whose body isn't whole yet
pub record IsOpenBody (bytes : List ℕ) : Type 0 where
  pub head : RequestHead
  pub rest : List ℕ
  pub size : ℕ
  pub has_head : HasHead bytes head rest
  pub has_size : HasSize head size
  pub lacks : length rest < size

-- a request that isn't whole yet
abbrev pub IsUnfinished : List ℕ → Type 0
IsUnfinished bytes = IsOpenHead bytes ⊎ IsOpenBody bytes

-- whatever follows these bytes, no head stands at their front; they don't end inside a target, whose text is judged
-- at its end, and something other than line ends is there
pub record IsClosed (bytes : List ℕ) : Type 0 where
  pub never : NeverHasRequest bytes
  pub no_target : EndsInTarget bytes → ⊥
  pub asks : AreLineEnds bytes → ⊥

-- as many bytes as a head may have hold none, and aren't closed
pub record HasLongHead (bytes : List ℕ) : Type 0 where
  pub long : head_limit ≤ length bytes
  pub none : HasNoRequest (take head_limit bytes)
  pub not_closed : IsClosed (take head_limit bytes) → ⊥

-- a head that is whole, and whose field lines say no size of a body, by this fault
pub record HasBadSize (bytes : List ℕ) (fault : HttpFault) : Type 0 where
  pub head : RequestHead
  pub rest : List ℕ
  pub has_head : HasHead bytes head rest
  pub says : body_size (pairs_of head.fields) ≡ Err fault

-- no request, whatever follows, by this fault
abbrev pub HasFault : HttpFault → List ℕ → Type 0
HasFault faults.Head bytes = IsClosed (take head_limit bytes)
HasFault faults.HeadTooLong bytes = HasLongHead bytes
HasFault faults.BodyTooLong bytes = HasBadSize bytes faults.BodyTooLong
HasFault faults.BadLength bytes = HasBadSize bytes faults.BadLength
HasFault faults.Coding bytes = HasBadSize bytes faults.Coding
HasFault other bytes = ⊥

-- no request, whatever follows
abbrev pub IsFaulty : List ℕ → Type 0
IsFaulty bytes = (fault : HttpFault) × HasFault fault bytes

-- no request stands at the front of these bytes
abbrev pub IsRest : List ℕ → Type 0
IsRest bytes = IsBlank bytes ⊎ (IsUnfinished bytes ⊎ IsFaulty bytes)

-- these bytes are these requests, and then bytes that begin with none
pub record Splits (bytes : List ℕ) (calls : List Call) (rest : List ℕ) : Type 0 where
  pub front : List ℕ
  pub whole : bytes ≡ front ++ rest
  pub each : AreCalls front calls
  pub ends : IsRest rest
