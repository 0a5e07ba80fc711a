use Rattle.std.proofs.Common.{◌∙◌, option_map}
use Rattle.std.proofs.lemmas.Result.{IfOk-weaker}
use Rattle.mx_filter.specs.Filters.{type_filter}
use Rattle.mx_filter.proofs.reading.data_filters.Goals as goal

pub returns : goal.returns
returns c =
    let room = c.both.ensures _ _ c.type_filter-2.ensures c.type_filter-3.ensures in
    IfOk-weaker c.both-2.result _ _
    (λ p is. is ∙ λ i. (type_filter (c.field_at.ensures i), (type_filter (c.field_at-2.ensures i), type_filter (option_map (λ a. a.now) c.args.account))))
    (c.both-2.ensures _ _ c.type_filter.ensures room)
