use Rattle.std.proofs.Common.{ap, ◌∙◌}
use Rattle.std.specs.Prelude.{codes}
use Rattle.mx_filter.specs.Filters.{event_filter, truth_at}
use Rattle.mx_filter.proofs.reading.selection.Goals as goal

pub returns : goal.returns
returns c =
    let all = c.in_ok-rooms.ensures _ _ c.choice_in-choice.ensures (c.both.ensures _ _ c.event_filters-events.ensures c.data_filters-data.ensures) in
    λ i. record {
      rooms = (all i).0.0;
      not_rooms = (all i).0.1;
      include_leave = c.truth_at.ensures i;
      state = ((λ k. (all k).1.0.0) ∙ ap event_filter c.field_at-of_state.ensures) i;
      timeline = (all i).1.0.1;
      ephemeral = (all i).1.1.0;
      room_account = (all i).1.1.1.0;
      account = (all i).1.1.1.1;
      lazy = c.args.lazy;
      redundant = (c.truth_at-2.ensures ∙ ap (truth_at (codes "include_redundant_members")) c.field_at-of_state.ensures) i;
    }
