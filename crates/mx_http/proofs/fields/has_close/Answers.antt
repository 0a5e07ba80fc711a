use Rattle.std.proofs.Common.{codes, rules, tests}
use Rattle.std.proofs.lemmas.Iterator.Search.{any_from_yields_List}
use Rattle.std.proofs.lemmas.Iterator.Splits.{YieldsList-from_slice_split}
use Rattle.httparse.specs.Grammar.{trim_ows}
use Rattle.mx_http.specs.Fields.{is_word}
use Rattle.mx_http.proofs.fields.has_close.Goals as goal

pub returns : goal.returns
returns c =
    any_from_yields_List (λ element. is_word (codes "close") (trim_ows element)) _ _ _ c.any.ensures.ran
    (YieldsList-from_slice_split _ _ c.args.value.now c.split.ensures.rest c.split.ensures.done c.split.ensures.closure (λ x r q k. search (rules, tests)))
    (λ x b q k. search (rules, tests))
