use Rattle.std.proofs.Common.{◌≡◌, ◌∷◌, ◌+◌, drop, arith}
use Rattle.std.proofs.lemmas.Grind.{common_steps}
use Rattle.mx_snapshot.specs.Looks.{all_now}
use Rattle.mx_parts.specs.Picks.{is_kept_by}
use Rattle.mx_parts.proofs.Picked.{kept_step}
use Rattle.mx_parts.proofs.state.kept_among.Goals as goal

pub states-preserved : goal.states-preserved
states-preserved c =
    let states = c.args.states.now in
    let i = c.states.state-index in
    let next : drop i states ≡ c.state-item.result ∷ drop (i + 1) states = grind (arith, common_steps, c.state-item.is, c.states-test.true) in
    kept_step (is_kept_by c.args.reading.now c.args.picker.now) states i c.state-item.result (all_now c.states.made.items) (all_now c.keep_picked.new.made.items)
    next c.states.invariant c.in_ok-keep_picked.ensures
