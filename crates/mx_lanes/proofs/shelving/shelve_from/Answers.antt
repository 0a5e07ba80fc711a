use Rattle.std.proofs.Common.{◌<◌, length, ◌∙◌, arith}
use Rattle.std.proofs.lemmas.List.{get_or_default}
use Rattle.mx_lanes.proofs.Books.{shelved_next, written_same}
use Rattle.mx_lanes.proofs.shelving.shelve_from.Goals as goal

pub stores-preserved : goal.stores-preserved
stores-preserved g c =
    let lt : c.stores.place < length c.args.order.now = omega (arith, c.stores-test.true, c.requires.passed) in (
      written_same c.stores.history.items _ c.index_mut.result.now _ c.index_mut.ensures.value c.shelve.ensures.same ∙ c.stores.invariant.0,
      c.stores.invariant.1,
      c.stores.invariant.2,
      shelved_next c.args.history.now.items c.stores.history.items c.args.order.now c.stores.place _ c.index_mut.result.now _ _ c.stores.invariant.0 c.requires.valid lt
          (get_or_default c.args.order.now c.stores.place 0 _ lt) c.index_mut.ensures.value c.stores.invariant.3 c.in_ok-shelve.ensures.ok,
    )
