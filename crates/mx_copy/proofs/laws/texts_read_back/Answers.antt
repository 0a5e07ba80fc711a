use Rattle.mx_copy.proofs.Written as law
use Rattle.mx_copy.proofs.laws.texts_read_back.Goals as goal

pub returns-clause-replies : goal.returns-clause-replies
returns-clause-replies c = law.reply_texts_read_back

pub returns-clause-pages : goal.returns-clause-pages
returns-clause-pages c = law.page_texts_read_back
