use Rattle.std.proofs.Common.{}
use Rattle.mx_filter.proofs.texts.choice_in.Goals as goal

pub returns : goal.returns
returns c = c.both.ensures _ _ c.texts_at.ensures c.texts_or_none.ensures
