use Rattle.mx_copy.proofs.FitReplies as law
use Rattle.mx_copy.proofs.laws.may_be_written.Goals as goal

pub returns-clause-replies : goal.returns-clause-replies
returns-clause-replies c = law.replies_may_be_written

pub returns-clause-pages : goal.returns-clause-pages
returns-clause-pages c = law.pages_may_be_written
