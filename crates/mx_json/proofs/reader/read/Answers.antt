use Rattle.std.proofs.Common.{◌≡◌, ◌≢◌, IfOk, IfErr, Ok, Err, sym, subst, ◌∙◌, true≢false}
use Rattle.serde_json.specs.View.{view}
use Rattle.mx_ids.specs.Memory.{refused_memory}
use Rattle.mx_json.specs.declared.fault.JsonFault.TheVariants as faults
use Rattle.mx_json.proofs.Reading.{a_text, no_text}
use Rattle.mx_json.proofs.reader.read.Goals as goal

pub returns-in-Ok-clause-found : goal.returns-in-Ok-clause-found
returns-in-Ok-clause-found c =
    let is = a_text c.args.bytes.now (view c.in-Ok.value) c.in-Ok.ensures.ok.0 c.in-Ok.ensures.ok.1 in
    subst (λ r. IfOk c.check.result (λ j. r ≡ Ok j)) (sym is) c.check.ensures.found

pub returns-in-Ok-clause-refused : goal.returns-in-Ok-clause-refused
returns-in-Ok-clause-refused c =
    let is = a_text c.args.bytes.now (view c.in-Ok.value) c.in-Ok.ensures.ok.0 c.in-Ok.ensures.ok.1 in
    subst (λ r. IfErr c.check.result (λ f. f ≢ faults.Memory refused_memory → r ≡ Err f)) (sym is) c.check.ensures.refused

pub returns-else-is_memory-clause-refused : goal.returns-else-is_memory-clause-refused
returns-else-is_memory-clause-refused c =
    λ _. no_text c.args.bytes.now (c.in-Err.ensures.err (λ memory. true≢false (sym (c.is_memory.ensures.1 memory) ∙ c.if-is_memory.false)))
