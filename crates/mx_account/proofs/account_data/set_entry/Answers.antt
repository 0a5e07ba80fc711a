use Rattle.mx_account.proofs.Latest.{set_now}
use Rattle.mx_account.proofs.account_data.set_entry.Goals as goal

pub returns-in_ok-insert : goal.returns-in_ok-insert
returns-in_ok-insert c =
    set_now c.args.user.now c.args.room c.args.latest.now.entries c.insert.new.self.entries _ _ c.args.entry.now c.in-Some.ensures c.in_ok-insert.ensures.entries
