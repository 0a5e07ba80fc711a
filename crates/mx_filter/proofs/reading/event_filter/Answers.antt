use Rattle.std.proofs.Common.{}
use Rattle.mx_filter.proofs.reading.event_filter.Goals as goal

pub returns : goal.returns
returns c =
    let all = c.in_ok-kinds.ensures _ _ c.type_filter-kinds.ensures (c.both.ensures _ _ c.choice_in-senders.ensures c.choice_in-rooms.ensures) in
    λ i. record {
      kinds = (all i).0;
      senders = (all i).1.0.0;
      not_senders = (all i).1.0.1;
      rooms = (all i).1.1.0;
      not_rooms = (all i).1.1.1;
      contains_url = c.choice_at.ensures i;
    }
