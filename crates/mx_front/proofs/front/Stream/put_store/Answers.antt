use Rattle.std.proofs.Common.{rules, length, ap, ◌∙◌}
use Rattle.mx_front.proofs.Seats.{ready_in, puts_from, stored_from, counted_store}
use Rattle.mx_front.proofs.front.Stream.put_store.Goals as goal

pub store-requires-2 : goal.store-requires-2
store-requires-2 g c =
    let r = ready_in _ _ _ _ _ c.requires.ready.1 c.take_book-book.ensures.book in
    let s = c.store.ensures in
    (search rules, search rules, puts_from _ _ _ _ _ _ _ _ _ _ _ r c.take_book-book.ensures.seat c.put_book.ensures.seat s.history s.front s.spare s.others c.stores-stores.ensures)

pub returns-clause-stored : goal.returns-clause-stored
returns-clause-stored g c =
    let r = ready_in _ _ _ _ _ c.requires.ready.1 c.take_book-book.ensures.book in
    let s = c.store.ensures in
    stored_from _ _ _ _ _ _ _ _ _ 0 0 r c.take_book-book.ensures.seat c.put_book.ensures.seat c.store-2.ensures.2 s.history s.front s.spare c.front-front.ensures.front

pub returns-clause-count : goal.returns-clause-count
returns-clause-count g c =
    let r = ready_in _ _ _ _ _ c.requires.ready.1 c.take_book-book.ensures.book in
    let s = c.store.ensures in
    counted_store _ _ _ _
    (stored_from _ _ _ _ _ _ _ _ _ 0 0 r c.take_book-book.ensures.seat c.put_book.ensures.seat c.store-2.ensures.2 s.history s.front s.spare c.front-front.ensures.front)
    _ _ r.stands.history (c.stores-stores.ensures ∙ ap length s.history)
