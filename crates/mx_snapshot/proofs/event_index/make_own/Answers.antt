use Rattle.mx_snapshot.specs.Lists.{entries_in}
use Rattle.mx_snapshot.proofs.Texts.{text_made}
use Rattle.mx_snapshot.proofs.event_index.make_own.Goals as goal

pub returns-in_ok-insert-clause-same : goal.returns-in_ok-insert-clause-same
returns-in_ok-insert-clause-same c =
    text_made entries_in c.args.own.now c.insert.new.self c.args.key.now c.in_ok-from_str.field-0 _ c.contains_key.result c.in_ok-from_str.ensures.ok c.contains_key.ensures c.if-not-contains_key.true c.in_ok-insert.ensures.updates c.new.ensures.empty
