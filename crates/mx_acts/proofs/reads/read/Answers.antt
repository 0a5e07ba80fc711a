use Rattle.std.proofs.Common.{◌≡◌, ℕ, sym, subst}
use Rattle.std.specs.Prelude.{IfOk}
use Rattle.mx_acts.specs.Acts.{Tells, asked}
use Rattle.mx_aims.specs.Aims.{site_of}
use Rattle.mx_rest.specs.Servers.{AreValid, lists_of}
use Rattle.mx_snapshot.specs.declared.snapshot.Snapshot.{Snapshot}
use Rattle.mx_acts.proofs.reads.read.Goals as goal

pub read_other-requires-clause-valid : goal.read_other-requires-clause-valid
read_other-requires-clause-valid c = subst (λ (s : Snapshot). AreValid (lists_of s)) (sym c.as_snapshot.ensures) c.requires.valid

pub read_other-requires-clause-other : goal.read_other-requires-clause-other
read_other-requires-clause-other c = c.in_default.not-Sync

pub returns-in_default-clause-told : goal.returns-in_default-clause-told
returns-in_default-clause-told c = λ now.
    subst (λ (s : Snapshot). IfOk c.read_other.result (λ said. Tells (asked (site_of c.args.site.now) now c.args.who.now c.args.ask.now) (lists_of s) said)) c.as_snapshot.ensures (c.read_other.ensures now)
