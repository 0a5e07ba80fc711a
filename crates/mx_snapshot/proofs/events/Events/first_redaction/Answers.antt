use Rattle.std.proofs.Common.{List, nat_le, slice_index_or, sym, ap, ◌∙◌}
use Rattle.mx_event.specs.declared.event.Event.{Event}
use Rattle.mx_window.specs.Lasts.{keep_if}
use Rattle.mx_snapshot.specs.Events.{first_redaction}
use Rattle.mx_snapshot.proofs.Marks.{first_kept, first_later}
use Rattle.mx_snapshot.proofs.events.Events.first_redaction.Goals as goal

pub returns-then-by-last : goal.returns-then-by-last
returns-then-by-last c =
    c.at.ensures.item
    ∙ first_kept c.self.inside.events.items c.args.position c.number_at-by.result c.args.last c.self.invariant.0
    (c.number_at-by.ensures ∙ ap (λ l. slice_index_or l c.args.position 0) c.as_slice.ensures.value ∙ c.self.invariant.1.firsts c.args.position) c.if-by-last.true
    ∙ ap (λ (l : List Event). keep_if (λ (e : Event). nat_le e.id.at c.args.last) (first_redaction l c.args.position)) c.self.view_is

pub returns-else-by-last : goal.returns-else-by-last
returns-else-by-last c =
    sym (first_later c.self.inside.events.items c.args.position c.number_at-by.result c.args.last
    (c.number_at-by.ensures ∙ ap (λ l. slice_index_or l c.args.position 0) c.as_slice.ensures.value ∙ c.self.invariant.1.firsts c.args.position) c.if-by-last.false)
    ∙ ap (λ (l : List Event). keep_if (λ (e : Event). nat_le e.id.at c.args.last) (first_redaction l c.args.position)) c.self.view_is
