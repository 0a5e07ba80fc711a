use Rattle.std.proofs.Common.{None, [], ◌∷◌, ◌++◌, refl, sym, ap, ◌∙◌, map, inr}
use Rattle.std.proofs.lemmas.Result.{err_from_is_err_and}
use Rattle.mx_room.specs.Admitting.{unless_refused}
use Rattle.mx_room.specs.Books.{Rooms}
use Rattle.mx_room.specs.Held.{bare}
use Rattle.mx_room.proofs.Books.{after_drop, after_ready, bare_written, ready_written}
use Rattle.mx_room.proofs.Events.{found_outcome, found_sent, is_none}
use Rattle.mx_room.proofs.room_book.RoomBook.ready_one.Goals as goal

pub returns-in-Some-sent-clause-found : goal.returns-in-Some-sent-clause-found
returns-in-Some-sent-clause-found c =
    found_sent c.self.invariant c.args.self.now c.self.view_is c.args.event.now c.as_slice.result.now c.as_slice.ensures.value c.in-Some.index c.in-Some.ensures
    c.args.key c.requires.keyed c.in-Some-sent.id c.in-Some-sent.ensures

pub returns-in_err-judge-clause-refused : goal.returns-in_err-judge-clause-refused
returns-in_err-judge-clause-refused c =
    let p = err_from_is_err_and c.from_residual.result c.from_residual.ensures.1 in
    rw (p.1, p.2)
    (inr
    (found_outcome c.self.invariant c.args.self.now c.self.view_is c.args.event.now c.as_slice.result.now c.as_slice.ensures.value c.in-Some.index c.in-Some.ensures
    c.index.result.now c.index.result.now c.index.ensures c.args.key c.requires.keyed None (sym (is_none c.sent.result c.in_default-sent.not-Some) ∙ c.sent.ensures)
    ∙ ap (unless_refused c.args.event.now) c.in_err-judge.ensures))

pub invariant_of-self : goal.invariant_of-self
invariant_of-self c = after_drop c.self.invariant _ refl _ c.settle.ensures.same _ _ _ c.without_block-self-inside.ensures

pub invariant_of-self-in_err-make_one_ready : goal.invariant_of-self-in_err-make_one_ready
invariant_of-self-in_err-make_one_ready c =
    after_drop c.self.invariant _
    (bare_written _ _ _ c.self.inside.rooms.ok.0 (c.make_one_ready.ensures.same ∙ ap (map bare) c.as_mut_slice.ensures.value))
    _ c.settle.ensures.same _ _ _ c.without_block-self-inside.ensures

pub invariant_of-self-2 : goal.invariant_of-self-2
invariant_of-self-2 c =
    after_ready c.self.invariant _
    (bare_written _ _ _ c.self.inside.rooms.ok.0 (c.make_one_ready.ensures.same ∙ ap (map bare) c.as_mut_slice.ensures.value))
    _ c.settle.ensures.same _ _ _ c.args.event.now c.as_slice.result.now c.as_slice.ensures.value c.in-Some.index c.in-Some.ensures
    (ready_written _ _ _ c.self.inside.rooms.ok.0 (c.make_one_ready.ensures.same ∙ ap (map bare) c.as_mut_slice.ensures.value) c.in-Some.index _ c.in_ok-make_one_ready.ensures.ready)
    c.requires.keyed c.in_ok-settle.ensures.settled (sym c.sent.ensures ∙ is_none c.sent.result c.in_default-sent.not-Some)
    (c.with-self-inside.ensures ∙ ap (λ (b : Rooms). record b { pending = b.pending ++ c.args.event.now ∷ [] }) c.without_block-self-inside.ensures)

pub returns-clause-found : goal.returns-clause-found
returns-clause-found c =
    found_outcome c.self.invariant c.args.self.now c.self.view_is c.args.event.now c.as_slice.result.now c.as_slice.ensures.value c.in-Some.index c.in-Some.ensures
    c.index.result.now c.index.result.now c.index.ensures c.args.key c.requires.keyed None (sym (is_none c.sent.result c.in_default-sent.not-Some) ∙ c.sent.ensures)
    ∙ ap (unless_refused c.args.event.now) c.in_ok-judge.ensures
