use Rattle.std.proofs.Common.{}
use Rattle.mx_filter.proofs.reading.event_filters.Goals as goal

pub returns : goal.returns
returns c = c.both.ensures _ _ c.event_filter.ensures c.event_filter-2.ensures
