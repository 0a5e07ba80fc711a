use Rattle.std.proofs.Common.{None, Some, ◌==◌, sym}
use Rattle.std.proofs.lemmas.Str.Pattern.{split_once_first}
use Rattle.mx_users.proofs.Lines.{before_none, after_none}
use Rattle.mx_users.proofs.cuts.cut.Goals as goal

pub returns-in-Some : goal.returns-in-Some
returns-in-Some c =
    let parts = split_once_first c.args.at c.args.text.now (Some (c.in-Some.before, c.in-Some.after)) c.in-Some.ensures.cases c.requires in
    record { before = parts.1; after = parts.2 }

pub returns-in-None : goal.returns-in-None
returns-in-None c =
    let all = split_once_first c.args.at c.args.text.now None c.in-None.ensures.cases c.requires in
    record { before = sym (before_none (λ x. x == c.args.at) c.args.text.now all); after = sym (after_none (λ x. x == c.args.at) c.args.text.now all) }
