-- A turn in which no request was read.
use Rattle.std.proofs.Common.{◌≡◌, ℕ, ◌≤◌, List, Option, codes, refl, sym, subst}
use Rattle.std.specs.Io.KnownBytes.{Appends}
use Rattle.mx_ids.specs.declared.memory.Memory.{Memory}
use Rattle.mx_outside.specs.Causes.{Rose}
use Rattle.mx_http.specs.declared.fault.HttpFault.{HttpFault}
use Rattle.mx_http.specs.declared.fault.HttpFault.TheVariants as faults
use Rattle.mx_http.specs.Calls.{HasFault}
use Rattle.mx_http.specs.Reads.{CountsFault, Fails}
use Rattle.mx_poll.specs.OfEngine.Answers.{Stops}
use Rattle.mx_poll.specs.Aims.Asked.{Site}
use Rattle.mx_serve.specs.Answers.{response}
use Rattle.mx_serve.specs.declared.ended.End.TheVariants as end
use Rattle.mx_serve.specs.declared.ended.Step.{Step}
use Rattle.mx_serve.specs.declared.ended.Step.TheVariants as step
use Rattle.mx_serve.specs.Exchanges.{fault_bytes, fault_response}
use Rattle.mx_serve.specs.Sessions.{Moment}
use Rattle.mx_serve.specs.Steps.{FailsBy, Refuses, StepInput, Turns, Waits}

-- a fault that is none of these three is answered
pub fails_refused : (fault : HttpFault) (from to : Option (List ℕ)) (s : Step) → (fault ≡ faults.Cut → ⊥) → (fault ≡ faults.ReadFault → ⊥) → ((m : Memory) → fault ≡ faults.Memory m → ⊥)
    → Refuses fault from to s → FailsBy fault from to s
fails_refused faults.Head from to s a b c r = r
fails_refused faults.HeadTooLong from to s a b c r = r
fails_refused faults.BodyTooLong from to s a b c r = r
fails_refused faults.BadLength from to s a b c r = r
fails_refused faults.Coding from to s a b c r = r
fails_refused faults.Cut from to s a b c r = absurd (a refl)
fails_refused faults.ReadFault from to s a b c r = absurd (b refl)
fails_refused (faults.Memory m) from to s a b c r = absurd (c m refl)

-- and one that is none of these three is answered 400
pub other_response : (fault : HttpFault) → (fault ≡ faults.HeadTooLong → ⊥) → (fault ≡ faults.BodyTooLong → ⊥) → (fault ≡ faults.Coding → ⊥)
    → response 400 (codes "{\"errcode\":\"M_UNRECOGNIZED\",\"error\":\"bad request\"}") ≡ fault_response fault
other_response faults.Head a b c = refl
other_response faults.HeadTooLong a b c = absurd (a refl)
other_response faults.BodyTooLong a b c = absurd (b refl)
other_response faults.BadLength a b c = refl
other_response faults.Coding a b c = absurd (c refl)
other_response faults.Cut a b c = refl
other_response faults.ReadFault a b c = refl
other_response (faults.Memory m) a b c = refl

module _ (site : Site) (stops : Stops) (limit earlier : ℕ) (old new : Moment) (waits : Waits old new) where
  -- what is no request was answered
  refused : (fault : HttpFault) (s : Step) → HasFault fault new.held → Refuses fault old.written new.written s → Turns site stops limit earlier old new s
  refused fault (step.Next m) x r = absurd r
  refused fault (step.Last m e) x r = absurd r
  refused fault (step.Ended end.Closed) x r = absurd r
  refused fault (step.Ended end.Asked) x r = absurd r
  refused fault (step.Ended end.Full) x r = absurd r
  refused fault (step.Ended end.Cut) x r = absurd r
  refused fault (step.Ended (end.Refused other)) x r =
      (waits, subst (λ f. HasFault f new.held) (sym r.0) x, subst (λ f. Appends old.written new.written (fault_bytes f)) (sym r.0) r.1)
  refused fault (step.Ended end.ReadFault) x r = absurd r
  refused fault (step.Ended end.WriteFault) x r = (waits, (fault, x, r))
  refused fault (step.Ended (end.Memory _)) x r = absurd r

  -- a step that is known
  is_step : (s t : Step) → s ≡ t → Turns site stops limit earlier old new t → Turns site stops limit earlier old new s
  is_step s t is x = subst (λ u. Turns site stops limit earlier old new u) (sym is) x

  pub failed : (fault : HttpFault) (s : Step) → Fails new.held new.left fault → FailsBy fault old.written new.written s → Turns site stops limit earlier old new s
  failed faults.Head s x r = refused faults.Head s x r
  failed faults.HeadTooLong s x r = refused faults.HeadTooLong s x r
  failed faults.BodyTooLong s x r = refused faults.BodyTooLong s x r
  failed faults.BadLength s x r = refused faults.BadLength s x r
  failed faults.Coding s x r = refused faults.Coding s x r
  failed faults.Cut s x r = is_step s (step.Ended end.Cut) r.0 ((waits, r.1), x.0, x.1, x.2)
  failed faults.ReadFault s x r = is_step s (step.Ended end.ReadFault) r.0 ((waits, r.1), x)
  failed (faults.Memory m) s x r = is_step s (step.Ended (end.Memory m)) r.0 (waits, r.1)

-- the count of the source's faults
module _ (before now : ℕ) (from to : Option (List ℕ)) where
  refused_reads : (fault : HttpFault) (s : Step) → now ≡ before → Refuses fault from to s → StepInput s before now
  refused_reads fault (step.Next m) same r = same
  refused_reads fault (step.Last m e) same r = same
  refused_reads fault (step.Ended end.Closed) same r = same
  refused_reads fault (step.Ended end.Asked) same r = same
  refused_reads fault (step.Ended end.Full) same r = same
  refused_reads fault (step.Ended end.Cut) same r = same
  refused_reads fault (step.Ended (end.Refused other)) same r = same
  refused_reads fault (step.Ended end.ReadFault) same r = absurd r
  refused_reads fault (step.Ended end.WriteFault) same r = same
  refused_reads fault (step.Ended (end.Memory _)) same r = same

  pub failed_reads : (fault : HttpFault) (s : Step) → before ≤ now → CountsFault fault before now → (fault ≡ faults.ReadFault → Rose before now) → FailsBy fault from to s → StepInput s before now
  failed_reads faults.Head s up same rose r = refused_reads faults.Head s same r
  failed_reads faults.HeadTooLong s up same rose r = refused_reads faults.HeadTooLong s same r
  failed_reads faults.BodyTooLong s up same rose r = refused_reads faults.BodyTooLong s same r
  failed_reads faults.BadLength s up same rose r = refused_reads faults.BadLength s same r
  failed_reads faults.Coding s up same rose r = refused_reads faults.Coding s same r
  failed_reads faults.Cut s up same rose r = subst (λ t. StepInput t before now) (sym r.0) same
  failed_reads faults.ReadFault s up same rose r = subst (λ t. StepInput t before now) (sym r.0) (up, rose refl)
  failed_reads (faults.Memory m) s up same rose r = subst (λ t. StepInput t before now) (sym r.0) same
