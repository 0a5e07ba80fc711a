use Rattle.std.proofs.Common.{length, sym, ap, ◌∙◌, arith}
use Rattle.mx_lanes.proofs.Books.{book_same, book_within, kept_stores, is_place, is_put, when_ok}
use Rattle.mx_lanes.proofs.order.put_store.Goals as goal

pub place_for-place-requires-clause-passed : goal.place_for-place-requires-clause-passed
place_for-place-requires-clause-passed g c = omega (arith, book_within _ _ _ _ c.requires.book, ap length c.as_slice-2.ensures.value)

pub advanced-requires-clause-valid : goal.advanced-requires-clause-valid
advanced-requires-clause-valid g c =
    (is_put c.args.history.now.items c.as_slice-3.result.now c.args.order.now.items c.as_slice-4.result.now c.args.reach.passed c.args.reach.front c.place_for-place.result c.len.result c.args.store c.requires.book
    (is_place _ _ _ _ _ _ _ _ c.requires.book.valid c.as_slice.ensures.value c.as_slice-2.ensures.value c.first.ensures c.place_for-place.ensures.bounds c.place_for-place.ensures.above c.place_for-place.ensures.below)
    (c.as_slice-3.ensures.value ∙ when_ok _ _ _ _ _ c.unwrap-2.ensures c.push.ensures.items) (c.as_slice-4.ensures.value ∙ when_ok _ _ _ _ _ c.unwrap.ensures c.insert.ensures.items) (c.len.ensures ∙ c.args.history.now.ok.0)
    c.requires.apart c.requires.first c.requires.items c.requires.last).valid

pub advanced-requires-clause-reach : goal.advanced-requires-clause-reach
advanced-requires-clause-reach g c =
    (is_put c.args.history.now.items c.as_slice-3.result.now c.args.order.now.items c.as_slice-4.result.now c.args.reach.passed c.args.reach.front c.place_for-place.result c.len.result c.args.store c.requires.book
    (is_place _ _ _ _ _ _ _ _ c.requires.book.valid c.as_slice.ensures.value c.as_slice-2.ensures.value c.first.ensures c.place_for-place.ensures.bounds c.place_for-place.ensures.above c.place_for-place.ensures.below)
    (c.as_slice-3.ensures.value ∙ when_ok _ _ _ _ _ c.unwrap-2.ensures c.push.ensures.items) (c.as_slice-4.ensures.value ∙ when_ok _ _ _ _ _ c.unwrap.ensures c.insert.ensures.items) (c.len.ensures ∙ c.args.history.now.ok.0)
    c.requires.apart c.requires.first c.requires.items c.requires.last).reach

pub returns-clause-book : goal.returns-clause-book
returns-clause-book g c =
    book_same _ _ _ _ _ _ ((is_put c.args.history.now.items c.as_slice-3.result.now c.args.order.now.items c.as_slice-4.result.now c.args.reach.passed c.args.reach.front c.place_for-place.result c.len.result c.args.store c.requires.book
    (is_place _ _ _ _ _ _ _ _ c.requires.book.valid c.as_slice.ensures.value c.as_slice-2.ensures.value c.first.ensures c.place_for-place.ensures.bounds c.place_for-place.ensures.above c.place_for-place.ensures.below)
    (c.as_slice-3.ensures.value ∙ when_ok _ _ _ _ _ c.unwrap-2.ensures c.push.ensures.items) (c.as_slice-4.ensures.value ∙ when_ok _ _ _ _ _ c.unwrap.ensures c.insert.ensures.items) (c.len.ensures ∙ c.args.history.now.ok.0)
    c.requires.apart c.requires.first c.requires.items c.requires.last).book _ _ c.advanced.ensures.reach)
    (sym c.as_slice-3.ensures.value) (sym c.as_slice-4.ensures.value)

pub returns-clause-kept : goal.returns-clause-kept
returns-clause-kept g c = λ n within.
    kept_stores c.args.history.now.items _ c.args.order.now.items _ c.place_for-place.result c.len.result c.args.store c.args.reach.passed c.requires.book.valid
    (when_ok _ _ _ _ _ c.unwrap-2.ensures c.push.ensures.items) (when_ok _ _ _ _ _ c.unwrap.ensures c.insert.ensures.items) (c.len.ensures ∙ c.args.history.now.ok.0)
    c.place_for-place.ensures.bounds.0 (omega (arith, c.place_for-place.ensures.bounds.1, ap length c.as_slice-2.ensures.value)) n within
