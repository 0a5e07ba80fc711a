use Rattle.std.proofs.Common.{◌+◌, ◌∙◌, drop, filter, fold, map, sym, ap}
use Rattle.mx_account.specs.Data.{set_entry}
use Rattle.mx_account.specs.Entries.{is_of, pair_now}
use Rattle.mx_account.proofs.Latest.{one_entry}
use Rattle.mx_lanes.proofs.Walk.{dropped-next}
use Rattle.mx_account.proofs.account_data.data_after.Goals as goal

pub entries-preserved-in-Continue-1 : goal.entries-preserved-in-Continue-1
entries-preserved-in-Continue-1 c =
    let user = c.args.user.now in
    let room = c.copied-wanted.result in
    one_entry user room (map pair_now c.entries.latest.entries) (map pair_now c.set_entry.new.latest.entries) c.in-Some.entry.now (drop (c.entries.at + 1) c.args.list.now.items) c.in_ok-set_entry.ensures
    ∙ ap (λ l. fold set_entry (map pair_now c.entries.latest.entries) (filter (is_of user room) l)) (sym (dropped-next c.args.list.now c.entries.at c.in-Some.entry.now c.in-Some.ensures.item))
    ∙ c.entries.invariant
