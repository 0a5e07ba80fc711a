use Rattle.std.proofs.Common.{◌∙◌}
use Rattle.mx_account.specs.Entries.{position_of}
use Rattle.bench_reads.proofs.Stocks.{one_more}
use Rattle.bench_reads.proofs.others.push_entry.Goals as goal

pub returns : goal.returns
returns c =
    one_more position_of c.args.made.now.items c.push.new.self.items c.in_ok-entry.field-0 c.len.result c.requires (c.len.ensures ∙ c.args.made.now.ok.0) c.in_ok-entry.ensures c.in_ok-push.ensures.items
