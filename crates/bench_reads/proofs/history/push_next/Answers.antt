use Rattle.std.proofs.Common.{◌∙◌}
use Rattle.mx_event.specs.Shown.{position_of}
use Rattle.bench_reads.proofs.Stocks.{one_more}
use Rattle.bench_reads.proofs.history.push_next.Goals as goal

pub returns : goal.returns
returns c =
    one_more position_of c.args.events.now.items c.push.new.self.items c.in_ok-event.field-0 c.len.result c.requires (c.len.ensures ∙ c.args.events.now.ok.0) c.in_ok-event.ensures c.in_ok-push.ensures.items
