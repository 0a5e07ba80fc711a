use Rattle.mx_parts.proofs.Shown as law
use Rattle.mx_parts.proofs.laws.parts_are.Goals as goal

pub returns : goal.returns
returns c = law.parts_are
