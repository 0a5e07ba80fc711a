-- What is asked, by whether something refuses it.
use Rattle.std.proofs.Common.{◌≡◌, Option, Some, None, Result, Ok, Err, refl, ap}
use Rattle.std.specs.Result.{result_err}
use Rattle.mx_api.specs.Calls.{asked_by, request}
use Rattle.mx_api.specs.declared.asked.Asked.TheVariants as asked
use Rattle.mx_api.specs.declared.refused.Refused.{Refused}
use Rattle.mx_ask.specs.declared.ask.Ask.{Ask}
use Rattle.mx_ask.specs.declared.ask.Who.{Who}

pub refused_none : {T : Type 0} (r : Result T Refused) (who : Who) (ask : Ask) → None ≡ result_err r → request who ask ≡ asked_by (λ (x : T). request who ask) r
refused_none (Ok x) who ask is = refl
refused_none (Err e) who ask is = absurd cc

pub refused_some : {T : Type 0} (r : Result T Refused) (who : Who) (ask : Ask) (e : Refused) → Some e ≡ result_err r → asked.Refused e ≡ asked_by (λ (x : T). request who ask) r
refused_some (Ok x) who ask e is = absurd cc
refused_some (Err d) who ask e is = ap (λ o. asked.Refused (take_some o)) is where
  take_some : Option Refused → Refused
  take_some (Some x) = x
  take_some None = e
