use Rattle.std.proofs.Common.{◌≡◌, [], ap, refl, sym, subst, ◌∙◌}
use Rattle.mx_fold.specs.Lists.{Histories, lists_of}
use Rattle.mx_poll.specs.OfEngine.Answers.{counts, counts_of}
use Rattle.mx_poll.specs.OfEngine.Exchanges.{AtMost, first_of}
use Rattle.mx_poll.specs.OfEngine.Shown.{site_of, stops_of, stores_of}
use Rattle.mx_poll.proofs.OfEngine.Exchanges.{at_exit}
use Rattle.mx_serve.specs.Sessions.{moment}
use Rattle.mx_loop.specs.Stands.{Stands}
use Rattle.mx_loop.proofs.Older.{at_most_self}
use Rattle.mx_loop.proofs.Standing.{fresh, same_stands, starts_by}
use Rattle.mx_loop.proofs.Turning.{first_polled}
use Rattle.mx_loop.proofs.session.Session.new.Goals as goal

pub returns-clause-starts : goal.returns-clause-starts
returns-clause-starts g c =
    let site = site_of c.args.server.now.engine in
    let stops = stops_of c.args.server.now.engine in
    let limit = c.args.server.now.limit in
    let all = stores_of c.args.pass.now in
    let left = g.P.Port.left c.args.port in
    let written = g.P.Port.written c.args.port in
    let is : counts c.mark-seen.result ≡ counts_of all = ap counts c.mark-seen.ensures in (
      is,
      λ reading tally.
          let start = moment [] left written all reading tally in
          let first = rw c.limit.ensures at c.first_state.ensures in
          let same = same_stands site stops limit start all (fresh site stops limit left written) (record { left = left; written = written; held = c.in_ok-new.field-0; out = c.new-2.result; marks = c.new-3.result.items }) c.first_state.result
          c.new-3.ensures.items refl c.in_ok-new.ensures refl c.new-2.ensures (starts_by site stops limit left written all reading tally c.first_state.result first) in
          subst (λ (l : Histories). Stands site stops limit start l (record { left = left; written = written; held = c.in_ok-new.field-0; out = c.new-2.result; marks = c.new-3.result.items }) c.first_state.result)
          (sym (ap (first_of all) is ∙ at_exit site stops all)) same,
    )

pub returns-clause-held : goal.returns-clause-held
returns-clause-held g c =
    let all = stores_of c.args.pass.now in (
      subst (λ k. AtMost k (counts_of all)) (sym (ap counts c.mark-seen.ensures)) (at_most_self (counts_of all)),
      first_polled c.args.server.now.limit (lists_of all) c.new-3.result c.first_state.result (rw c.limit.ensures at c.first_state.ensures),
    )
