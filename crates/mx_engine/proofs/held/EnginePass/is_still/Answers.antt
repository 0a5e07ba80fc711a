use Rattle.std.proofs.Common.{ap, ◌∙◌}
use Rattle.mx_rest.specs.Servers.{lists_of}
use Rattle.mx_snapshot.specs.declared.snapshot.Snapshot.{Snapshot}
use Rattle.mx_still.specs.Concerns.{is_still}
use Rattle.mx_engine.proofs.held.EnginePass.is_still.Goals as goal

pub returns : goal.returns
returns c = c.is_still.ensures ∙ ap (λ (s : Snapshot). is_still c.args.user.now (lists_of s) c.args.after.now) c.as_snapshot.ensures
