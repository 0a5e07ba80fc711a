use Rattle.std.specs.Option.{option_copied}
use Rattle.std.specs.Prelude.{[], unwrap_or}
use Rattle.mx_account.proofs.Members.{set_among}
use Rattle.mx_account.proofs.tags.with_member.Goals as goal

pub returns : goal.returns
returns c =
    set_among c.args.key c.as_str.result.now c.args.value (unwrap_or (option_copied c.args.members) []) c.set.new.self c.in_ok-made.made c.as_str.ensures c.in_ok-made.ensures.made c.in_ok-made.ensures.ordered c.in_ok-set.ensures.ok
