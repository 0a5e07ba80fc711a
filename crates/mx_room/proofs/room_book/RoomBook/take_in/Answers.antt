use Rattle.std.proofs.Common.{sym, ◌∙◌}
use Rattle.mx_room.proofs.Books.{after_new, after_one}
use Rattle.mx_room.proofs.room_book.RoomBook.take_in.Goals as goal

pub invariant_of-self : goal.invariant_of-self
invariant_of-self c =
    after_new c.self.invariant c.in-Some.state (sym c.in-Some.ensures.value) c.args.self.now c.self.view_is c.args.first c.requires.place c.requires.some
    c.as_slice-events.result.now (c.as_slice-events.ensures ∙ c.requires.pending) _ c.put_room.ensures _ c.take.ensures.after _ c.stored-self-inside.ensures _

pub invariant_of-self-in-Some-index_of : goal.invariant_of-self-in-Some-index_of
invariant_of-self-in-Some-index_of c =
    let index = c.in-Some-index_of.ensures in
    after_one c.self.invariant (sym c.in-None.ensures.value) c.args.self.now c.self.view_is c.args.first c.requires.place c.requires.some
    c.as_slice-events.result.now (c.as_slice-events.ensures ∙ c.requires.pending) c.index-events-0.result c.as_slice.result.now c.as_slice.ensures.value
    c.in-Some-index_of.index index.0 index.1 c.as_mut_slice.result.now c.take_all_in.new.rooms c.as_mut_slice.ensures.value c.take_all_in.ensures
    _ _ _ c.take-in-Some-index_of.ensures.value c.put.ensures _ c.take.ensures.after _ c.stored-self-inside.ensures _ _ c.self.inside.rooms.ok.0
