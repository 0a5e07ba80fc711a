use Rattle.std.proofs.Common.{subst, sym, ◌∙◌}
use Rattle.mx_unread.specs.Standing.{AreRead}
use Rattle.mx_unread.proofs.Rereading.{known_of}
use Rattle.mx_unread.proofs.read_rules.known_or_read.Goals as goal

pub returns-then-is_of : goal.returns-then-is_of
returns-then-is_of c =
    known_of c.in-Some.known c.args.user.now c.args.at c.args.accounts.now (sym c.is_of.ensures ∙ c.if-is_of.true) (subst (AreRead c.args.accounts.now) c.in-Some.is c.requires)
