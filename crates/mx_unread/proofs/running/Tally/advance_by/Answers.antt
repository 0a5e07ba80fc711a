use Rattle.std.proofs.Common.{}
use Rattle.mx_unread.proofs.Keeping.{now_stands, same_stands}
use Rattle.mx_unread.proofs.running.Tally.advance_by.Goals as goal

pub returns-in_err-keep_on-clause-stands : goal.returns-in_err-keep_on-clause-stands
returns-in_err-keep_on-clause-stands c = same_stands c.args.self.now c.keep_on.new.kept c.args.snapshot.now c.requires.stands c.in_err-keep_on.ensures.same

pub returns-clause-stands : goal.returns-clause-stands
returns-clause-stands c = now_stands c.args.self.now c.keep_on.new.kept c.args.snapshot.now c.args.to.now c.counts-self.result c.in_ok-keep_on.ensures.ok c.counts-self.ensures
