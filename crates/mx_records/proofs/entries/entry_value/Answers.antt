use Rattle.std.proofs.Common.{sym, ap, ◌∙◌}
use Rattle.std.proofs.lemmas.Result.{IfOk-weaker}
use Rattle.mx_records.specs.Records.{entry_json}
use Rattle.mx_records.proofs.entries.entry_value.Goals as goal

pub returns-in-Data-clause-value : goal.returns-in-Data-clause-value
returns-in-Data-clause-value c = IfOk-weaker c.data_value.result _ _ (λ j is. is c.in-Data.at ∙ ap entry_json (sym c.in-Data.is)) c.data_value.ensures.value

pub returns-in-Filter-clause-value : goal.returns-in-Filter-clause-value
returns-in-Filter-clause-value c = IfOk-weaker c.filter_value.result _ _ (λ j is. is c.in-Filter.at ∙ ap entry_json (sym c.in-Filter.is)) c.filter_value.ensures.value
