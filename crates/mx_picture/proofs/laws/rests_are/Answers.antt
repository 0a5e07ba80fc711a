use Rattle.mx_picture.proofs.Rests as rests
use Rattle.mx_picture.proofs.laws.rests_are.Goals as goal

-- src/laws.rt:9:1
pub returns : goal.returns
returns c = rests.rests_are
