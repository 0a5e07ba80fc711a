use Rattle.mx_copy.proofs.Once as law
use Rattle.mx_copy.proofs.laws.rooms_are_found.Goals as goal

pub returns-clause-found : goal.returns-clause-found
returns-clause-found c = law.rooms_are_found

pub returns-clause-once : goal.returns-clause-once
returns-clause-once c = law.replies_have_rooms_once

pub returns-clause-others : goal.returns-clause-others
returns-clause-others c = law.others_are_absent
