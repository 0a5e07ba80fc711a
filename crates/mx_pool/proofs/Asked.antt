-- A run by what its words ask, in each case of their reading.
use Rattle.std.proofs.Common.{◌≡◌, ◌⊎◌, ℕ, List, Option, Some, None, [], inl, inr, sym, subst, ◌∙◌}
use Rattle.mx_serve.specs.OfEngine.EnginePass.{EnginePass}
use Rattle.mx_serve.specs.declared.ended.Ended.{Ended}
use Rattle.mx_ids.specs.Memory.{refused_memory}
use Rattle.mx_pool.specs.declared.status.Status.{Status}
use Rattle.mx_pool.specs.declared.status.Status.TheVariants as status
use Rattle.mx_pool.specs.Lines.{Tells, line_of, shown}
use Rattle.mx_pool.specs.Runs.{IsPrinted, IsRan, IsRefused, IsShort, RanBy, ServesAll, ServesAt, TellsRun, TellsWith, World}
use Rattle.mx_words.specs.Words.{Help, Meaning, Refused, Said, Says, Version, Wrong}
use Rattle.mx_pool.proofs.Outcomes.{same_memory}

-- ---- a run

module _ (m : Meaning) (said : Said) (is : m ≡ Says said) where
  pub run_ran : (w : World) (s : Status) (c : Option (Ended × EnginePass)) → RanBy said w s c → IsRan m w s c
  run_ran w s c r = subst (λ x. IsRan x w s c) (sym is) (inr r)

  pub run_closed : {P Q : Type 0} (left : Option (List P)) (ports : Option (List Q)) → ServesAt said.way left ports → ServesAll m left ports
  run_closed left ports h = subst (λ x. ServesAll x left ports) (sym is) h

  pub run_told : (c : Option (Ended × EnginePass)) (old new : Option (List ℕ)) (f h : ℕ) (s : Status) → TellsWith said.journal said c old new f h s → TellsRun m c old new f h s
  run_told c old new f h s t = subst (λ x. TellsRun x c old new f h s) (sym is) (inr t)

-- ---- a text

module _ (m : Meaning) (is : (m ≡ Help) ⊎ (m ≡ Version)) where
  as_either : (P : Meaning → Type 0) → P Help → P Version → P m
  as_either P help version = elim is [
    | inl e ↦ subst P (sym e) help
    | inr e ↦ subst P (sym e) version
  ]

  pub text_ran : (w : World) (s : Status) (c : Option (Ended × EnginePass)) → IsPrinted w s c → IsRan m w s c
  text_ran w s c r = as_either (λ x. IsRan x w s c) (inr r) (inr r)

  pub text_closed : {P Q : Type 0} (left : Option (List P)) (ports : Option (List Q)) → ServesAll m left ports
  text_closed left ports = as_either (λ x. ServesAll x left ports) tt tt

  pub text_told : (c : Option (Ended × EnginePass)) (old new : Option (List ℕ)) (f h : ℕ) (s : Status) → Tells old new f h (line_of s None) → TellsRun m c old new f h s
  text_told c old new f h s t = as_either (λ x. TellsRun x c old new f h s) t t

-- ---- words that aren't of their form

module _ (m : Meaning) (why : List ℕ) (is : (m ≡ Refused) ⊎ (m ≡ Wrong why)) where
  as_refused : (P : Meaning → Type 0) → P Refused → P (Wrong why) → P m
  as_refused P refused wrong = elim is [
    | inl e ↦ subst P (sym e) refused
    | inr e ↦ subst P (sym e) wrong
  ]

  pub refused_ran : (w : World) (s : Status) (c : Option (Ended × EnginePass)) → IsRefused w s c → IsRan m w s c
  refused_ran w s c r = as_refused (λ x. IsRan x w s c) r r

  pub refused_closed : {P Q : Type 0} (left : Option (List P)) (ports : Option (List Q)) → ServesAll m left ports
  refused_closed left ports = as_refused (λ x. ServesAll x left ports) tt tt

  pub refused_told : (c : Option (Ended × EnginePass)) (old new : Option (List ℕ)) (f h : ℕ) (s : Status) → Tells old new f h (line_of s (Some (shown why))) → TellsRun m c old new f h s
  refused_told c old new f h s t = as_refused (λ x. TellsRun x c old new f h s) (why, t) t

-- ---- no memory to read them

pub short_ran : (m : Meaning) (w : World) (s : Status) (c : Option (Ended × EnginePass)) → IsShort w s c → IsRan m w s c
short_ran (Says said) w s c short = inl short
short_ran Help w s c short = inl short
short_ran Version w s c short = inl short
short_ran Refused w s c short = (inr short.0, short.1)
short_ran (Wrong why) w s c short = (inr short.0, short.1)

-- then the status isn't `Done`
pub short_closed : {P Q : Type 0} (m : Meaning) (s : Status) (left : Option (List P)) (ports : Option (List Q)) → s ≡ status.Memory refused_memory → s ≡ status.Done → ServesAll m left ports
short_closed m s left ports memory is = absurd (other (sym memory ∙ is))
  where
    other : ◌≡◌ {A = Status} (status.Memory refused_memory) status.Done → ⊥
    other e = cc

pub short_told : (m : Meaning) (c : Option (Ended × EnginePass)) (old new : Option (List ℕ)) (f h : ℕ) (s : Status) → s ≡ status.Memory refused_memory → Tells old new f h (line_of s None) → TellsRun m c old new f h s
short_told (Says said) c old new f h s memory t = inl (memory, t)
short_told Help c old new f h s memory t = t
short_told Version c old new f h s memory t = t
short_told Refused c old new f h s memory t = ([], subst (λ l. Tells old new f h l) (same_memory s None (Some (shown [])) memory) t)
short_told (Wrong why) c old new f h s memory t = subst (λ l. Tells old new f h l) (same_memory s None (Some (shown why)) memory) t
