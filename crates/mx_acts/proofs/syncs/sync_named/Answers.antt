use Rattle.std.proofs.Common.{ap, sym, ◌∙◌}
use Rattle.std.specs.Option.{option_copied}
use Rattle.mx_acts.specs.Reads as told
use Rattle.mx_rest.specs.Servers.{lists_of}
use Rattle.mx_snapshot.specs.declared.snapshot.Snapshot.{Snapshot}
use Rattle.mx_user_reads.specs.Filters.{filter_named}
use Rattle.mx_acts.proofs.ByFilter.{synced}
use Rattle.mx_acts.proofs.syncs.sync_named.Goals as goal

pub returns-in-Some-clause-told : goal.returns-in-Some-clause-told
returns-in-Some-clause-told c =
    synced _ _ c.args.since c.args.full_state c.args.after _ c.in-Some.filter c.in_ok-filter.field-0 c.sync_told.result
    (c.in_ok-filter.ensures ∙ ap (λ (s : Snapshot). filter_named (lists_of s) c.args.user.now (option_copied c.args.id)) c.as_snapshot.ensures) c.in-Some.is c.sync_told.ensures.told

pub returns-in-None-clause-told : goal.returns-in-None-clause-told
returns-in-None-clause-told c =
    ap (told.sync_by (lists_of c.args.known.now) c.args.user.now c.args.since c.args.full_state c.args.after)
    (sym c.in-None.is ∙ c.in_ok-filter.ensures ∙ ap (λ (s : Snapshot). filter_named (lists_of s) c.args.user.now (option_copied c.args.id)) c.as_snapshot.ensures)
