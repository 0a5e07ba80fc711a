-- An answer behind which the sink's count of faults goes on.
use Rattle.std.proofs.Common.{◌≡◌, ℕ, ◌≤◌, false, true, arith}
use Rattle.mx_poll.proofs.Watching.{rose_from}
use Rattle.mx_serve.specs.declared.ended.End.{End}
use Rattle.mx_serve.specs.declared.ended.End.TheVariants as end
use Rattle.mx_serve.specs.declared.ended.Step.{Step}
use Rattle.mx_serve.specs.declared.ended.Step.TheVariants as step
use Rattle.mx_serve.specs.Sessions.{OutputFaults}
use Rattle.mx_serve.specs.Steps.{StepOutput}

pub still : false ≡ true → ⊥
still e = absurd cc

module _ (before mid now : ℕ) (up : before ≤ mid) where
  ends_from : (e : End) → OutputFaults e mid now → OutputFaults e before now
  ends_from end.Closed h = omega (arith, up, h)
  ends_from end.Asked h = omega (arith, up, h)
  ends_from end.Full h = omega (arith, up, h)
  ends_from end.Cut h = omega (arith, up, h)
  ends_from (end.Refused _) h = omega (arith, up, h)
  ends_from end.ReadFault h = omega (arith, up, h)
  ends_from end.WriteFault h = (omega (arith, up, h.0), rose_from before mid now up h.1)
  ends_from (end.Memory _) h = omega (arith, up, h)

  pub output_from : (s : Step) → StepOutput s mid now → StepOutput s before now
  output_from (step.Next m) h = omega (arith, up, h)
  output_from (step.Last m e) h = ends_from e h
  output_from (step.Ended e) h = ends_from e h
