use Rattle.std.proofs.Common.{◌∙◌}
use Rattle.mx_engine.proofs.Done.{shown_covered}
use Rattle.mx_engine.proofs.Known.{all_taken, begins_shown, events_placed, none_taken, shown_taken, taken_grows}
use Rattle.mx_engine.proofs.taking.take_events.Goals as goal

pub returns-then-has_just-clause-all : goal.returns-then-has_just-clause-all
returns-then-has_just-clause-all g c = all_taken _ _ _ c.requires.taken (c.has_just.ensures c.if-has_just.true)

pub returns-in_err-parts-clause-taken : goal.returns-in_err-parts-clause-taken
returns-in_err-parts-clause-taken g c = taken_grows _ _ _ c.requires.taken c.look.ensures.begins

pub advance_events-requires-clause-begins : goal.advance_events-requires-clause-begins
advance_events-requires-clause-begins g c = begins_shown _ _ _ _ _ c.requires.taken c.look.ensures.begins c.in_ok-parts.ensures.parts

pub advance_events-requires-clause-placed : goal.advance_events-requires-clause-placed
advance_events-requires-clause-placed g c = events_placed _ _ c.look.new.self.pass.orderly c.look.new.self.pass.lawful c.in_ok-parts.ensures.parts

pub returns-in_err-advance_events-clause-taken : goal.returns-in_err-advance_events-clause-taken
returns-in_err-advance_events-clause-taken g c = none_taken _ _ c.in_err-advance_events.ensures.err

pub returns-clause-taken : goal.returns-clause-taken
returns-clause-taken g c = shown_taken _ _ _ (c.in_ok-advance_events.ensures.ok ∙ shown_covered _ _ c.in_ok-parts.ensures.parts) c.stores.ensures

pub returns-clause-all : goal.returns-clause-all
returns-clause-all g c = c.in_ok-advance_events.ensures.ok ∙ shown_covered _ _ c.in_ok-parts.ensures.parts
