use Rattle.std.proofs.Common.{◌≡◌, ◌++◌, map}
use Rattle.mx_create.specs.Admitted.{made}
use Rattle.mx_create.proofs.admission.events_of.Given as goal

abbrev pub invariant-drafts : goal.invariant-drafts
invariant-drafts l = l.events.items ++ map (made l.writer) l.draft-iterator.rest.items ≡ map (made l.writer) l.fn.drafts
