use Rattle.serde_json.specs.View.{view}
use Rattle.mx_json.proofs.Reading.{a_fraction, out_of_range, in_range}
use Rattle.std.proofs.Common.{sym, ◌∙◌}
use Rattle.mx_json.proofs.reader.check.Goals as goal

pub returns-then-is_flawed-clause-refused : goal.returns-then-is_flawed-clause-refused
returns-then-is_flawed-clause-refused c = λ _. a_fraction (view c.args.value) (sym c.is_flawed.ensures ∙ c.if-is_flawed.true)

pub returns-then-is_flawed-2-clause-refused : goal.returns-then-is_flawed-2-clause-refused
returns-then-is_flawed-2-clause-refused c =
    λ _. out_of_range (view c.args.value) (sym c.is_flawed.ensures ∙ c.if-is_flawed.false) (sym c.is_flawed-2.ensures ∙ c.if-is_flawed-2.true)

pub returns-clause-found : goal.returns-clause-found
returns-clause-found c =
    in_range (view c.args.value) _ (sym c.is_flawed.ensures ∙ c.if-is_flawed.false) (sym c.is_flawed-2.ensures ∙ c.if-is_flawed-2.false) c.in_ok-json_from.ensures
