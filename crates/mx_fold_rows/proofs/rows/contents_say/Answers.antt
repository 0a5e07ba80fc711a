use Rattle.mx_fold_rows.proofs.Saying as law
use Rattle.mx_fold_rows.proofs.rows.contents_say.Goals as goal

pub returns-clause-says_membership : goal.returns-clause-says_membership
returns-clause-says_membership c = law.says_membership

pub returns-clause-says_setting : goal.returns-clause-says_setting
returns-clause-says_setting c = law.says_setting

pub returns-clause-says_names : goal.returns-clause-says_names
returns-clause-says_names c = law.says_names

pub returns-clause-rooms_say : goal.returns-clause-rooms_say
returns-clause-rooms_say c = law.rooms_say
