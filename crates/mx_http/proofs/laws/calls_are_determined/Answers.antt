use Rattle.mx_http.proofs.Unique.{fault_lasts, fault_same, fault_shuts, splits_unique, whole_is_no_rest}
use Rattle.mx_http.proofs.laws.calls_are_determined.Goals as goal

pub returns : goal.returns
returns c = record { unique = splits_unique; whole = whole_is_no_rest; fault = fault_shuts; one = fault_same; lasts = fault_lasts }
