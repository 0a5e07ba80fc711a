-- All requests of a source are answered where nothing outside fails.
use Rattle.std.proofs.Common.{◌≡◌, ℕ, ◌<◌, inl, inr, List, [], ◌∷◌, ◌++◌, Option, Some, None, length, sym, ap, subst, ◌∙◌, arith, append-nil, append_assoc, length-append}
use Rattle.std.specs.Io.KnownBytes.{Consumes, IsAtEnd}
use Rattle.mx_http.specs.declared.call.Call.{Call}
use Rattle.mx_http.specs.declared.fault.HttpFault.{HttpFault}
use Rattle.mx_http.specs.Calls.{AreCalls, HasFault, IsBlank, IsRest}
use Rattle.mx_http.proofs.Unique.{calls_begin, fault_lasts, fault_shuts, splits_unique}
use Rattle.mx_serve.specs.declared.ended.End.{End}
use Rattle.mx_serve.specs.declared.ended.End.TheVariants as end
use Rattle.mx_serve.specs.Complete.{AnswersAll, AnswersWhole, HasNoFault}
use Rattle.mx_serve.specs.Sessions.{EndsBy}

-- what was taken, and what is left
taken : (bytes : List ℕ) (left : Option (List ℕ)) (front : List ℕ) → Consumes (Some bytes) left front → (more : List ℕ) × (bytes ≡ front ++ more) × (IsAtEnd left → more ≡ [])
taken bytes None front c = absurd c
taken bytes (Some more) front c = (more, c, λ e. e)

no_bytes : IsBlank []
no_bytes = (omega arith, λ k d lt. absurd (omega (arith, lt)))

-- a source that has ended has no other requests
all_of : (bytes front rest more : List ℕ) (calls all : List Call) → bytes ≡ (front ++ rest) ++ more → more ≡ [] → AreCalls front calls → IsRest rest → AreCalls bytes all
    → (calls ≡ all) × (rest ≡ [])
all_of bytes front rest more calls all e none are ends whole =
    splits_unique bytes calls all rest []
    record { front = front; whole = e ∙ ap (λ l. (front ++ rest) ++ l) none ∙ append-nil (front ++ rest); each = are; ends = ends }
    record { front = bytes; whole = sym (append-nil bytes); each = whole; ends = inl no_bytes }

-- no fault is in whole requests
no_fault : (rest more : List ℕ) (fault : HttpFault) (others : List Call) → HasFault fault rest → AreCalls (rest ++ more) others → ⊥
no_fault [] more fault [] f are = fault_shuts [] (fault, f) (inr no_bytes)
no_fault (b ∷ rest) more fault [] f are = cc
no_fault rest more fault (call ∷ others) f are = fault_lasts rest more are.0 are.1 call (fault, f) are.2 are.3

module _ (limit : ℕ) (calls all : List Call) (bytes front rest more : List ℕ) (left : Option (List ℕ)) (reads reads_now writes writes_now : ℕ)
    (split : bytes ≡ (front ++ rest) ++ more) (none_left : IsAtEnd left → more ≡ []) (are : AreCalls front calls) (whole : AreCalls bytes all) (few : length all < limit) where
  first : (others : List Call) × (all ≡ calls ++ others) × AreCalls (rest ++ more) others
  first = calls_begin calls all front (rest ++ more) bytes (split ∙ append_assoc front rest more) are whole

  ended_all : IsAtEnd left → IsRest rest → (calls ≡ all) × (rest ≡ [])
  ended_all at ends = all_of bytes front rest more calls all split (none_left at) are ends whole

  by_end : (how : End) → EndsBy limit how calls rest left → HasNoFault how reads reads_now writes writes_now → AnswersAll how calls all
  by_end end.Closed x quiet = (ended_all x.2 (inl x.1)).0
  by_end end.Asked x quiet = (x, (first.0, first.1))
  by_end end.Full x quiet = absurd (omega (arith, few, x.1, ap length first.1, length-append calls first.0))
  by_end end.Cut x quiet = absurd (x.2 (subst IsBlank (sym (ended_all x.3 (inr (inl x.1))).1) no_bytes))
  by_end (end.Refused fault) x quiet = absurd (no_fault rest more fault first.0 x.1 first.2)
  by_end end.ReadFault x quiet = absurd (quiet.none_read quiet.input.1)
  by_end end.WriteFault x quiet = absurd (quiet.none_written quiet.output.1)
  by_end (end.Memory _) x quiet = (first.0, first.1)

pub all_answered : AnswersWhole
all_answered site stops limit old new calls all marks ended bytes reads reads_now writes writes_now h quiet told whole few =
    let got = taken bytes new.left (h.front ++ h.rest) (subst (λ l. Consumes l new.left (h.front ++ h.rest)) told h.taken) in
    by_end limit calls all bytes h.front h.rest got.0 new.left reads reads_now writes writes_now got.1 got.2 h.are_calls whole few ended h.ends_by quiet
