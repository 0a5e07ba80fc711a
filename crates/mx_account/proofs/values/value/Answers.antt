use Rattle.std.proofs.Common.{◌≡◌, ◌∙◌, Some, None, length, min, sym, ap, arith}
use Rattle.mx_account.specs.Values.{value_at}
use Rattle.mx_account.proofs.Walk.{begins, one_back}
use Rattle.mx_account.proofs.values.value.Goals as goal

pub entries-init : goal.entries-init
entries-init c =
    let list = c.args.list.now in
    let least : c.min-position.result ≡ min c.args.a (length list.items) = omega arith in
    (omega arith, begins c.args.user.now c.copied-wanted.result c.args.kind.now c.args.a c.min-position.result list.items c.requires least)

pub returns-in-Some-content_for : goal.returns-in-Some-content_for
returns-in-Some-content_for c =
    let list = c.args.list.now in
    sym (one_back c.args.user.now c.copied-wanted.result c.args.kind.now list c.entries.position c.in-Some.entry.now (Some c.in-Some-content_for.content.now) c.in-Some.ensures.item c.in-Some-content_for.ensures)
    ∙ c.entries.invariant.1
    ∙ ap (λ room. value_at c.args.user.now room c.args.kind.now c.args.a list.items) c.copied-wanted.ensures

pub entries-preserved : goal.entries-preserved
entries-preserved c =
    let list = c.args.list.now in (
      omega arith,
      sym (one_back c.args.user.now c.copied-wanted.result c.args.kind.now list c.entries.position c.in-Some.entry.now None c.in-Some.ensures.item c.in_default-content_for.ensures)
          ∙ c.entries.invariant.1,
    )
