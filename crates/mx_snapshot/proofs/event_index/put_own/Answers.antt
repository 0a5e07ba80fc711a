use Rattle.std.proofs.Common.{cond, refl, ap, ◌∙◌}
use Rattle.std.specs.BTreeMap.{insert_entry}
use Rattle.mx_snapshot.specs.Lists.{room_cmp, entries_in}
use Rattle.mx_snapshot.proofs.Texts.{text_written}
use Rattle.mx_snapshot.proofs.event_index.put_own.Goals as goal

pub returns-in_ok-insert : goal.returns-in_ok-insert
returns-in_ok-insert c =
    let w = c.insert.new.self in
    text_written entries_in c.args.own.now (c.get_mut.follows.lender w) (λ b xs. cond b (insert_entry room_cmp xs c.args.room c.args.at) xs) c.args.key.now w ((c.get_mut.follows.holds w).3 c.requires) (λ xs. refl)
    (c.in_ok-insert.ensures.entries ∙ ap (λ o. insert_entry room_cmp (entries_in o) c.args.room c.args.at) c.in-Some.ensures.value)
