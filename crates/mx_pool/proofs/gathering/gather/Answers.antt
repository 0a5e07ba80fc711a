use Rattle.std.proofs.Common.{sym, ap, ◌∙◌, subst, arith}
use Rattle.mx_serve.specs.OfEngine.Shown.{Ties, stores_of}
use Rattle.mx_serve.proofs.OfEngine.Known.{grows_twice}
use Rattle.mx_pool.proofs.Gathered.{served_meet, ties_at}
use Rattle.mx_pool.proofs.gathering.gather.Goals as goal

pub seats-preserved : goal.seats-preserved
seats-preserved g c =
    let i = c.seats.invariant in
    let seat = c.in-Some.seat in
    let now = c.meet.new.pass in (
      subst (λ e. Ties e now) (c.engine.ensures ∙ ap (λ s. s.engine) c.server.ensures) c.meet.ensures.ties,
      grows_twice (stores_of c.args.pass.now) (stores_of c.seats.pass) (stores_of now) i.1 c.meet.ensures.own,
      (let rest = i.2 in let one = seat.one_part in omega (arith, rest, one, c.merge.ensures.parts, c.in-Some.ensures.len)),
      c.merge.ensures.apart,
      served_meet g.N.Seating.service g.N.Seating.is_kind (stores_of c.seats.pass) (stores_of seat.pass) (stores_of now) c.seats.share.amount seat.share.amount c.merge.new.self.amount
          c.merge.ensures.amount c.meet.ensures.own c.meet.ensures.other i.4 seat.served,
    )

pub meet-requires-clause-own : goal.meet-requires-clause-own
meet-requires-clause-own g c = subst (λ e. Ties e c.seats.pass) (sym (c.engine.ensures ∙ ap (λ s. s.engine) c.server.ensures)) c.seats.invariant.0

pub meet-requires-clause-other : goal.meet-requires-clause-other
meet-requires-clause-other g c =
    let seat = c.in-Some.seat in
    let pool = c.args.pool.now in
    subst (λ e. Ties e seat.pass) (sym (c.engine.ensures ∙ ap (λ s. s.engine) c.server.ensures)) (ties_at pool.server g.N.Seating.service g.N.Seating.places seat.pass pool.is seat.ties)
