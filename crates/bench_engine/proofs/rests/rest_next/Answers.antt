use Rattle.std.proofs.Common.{subst, sym}
use Rattle.std.proofs.lemmas.List.Elements.{All-push}
use Rattle.std.specs.List.{All}
use Rattle.bench_engine.specs.Rests.{RestsOn}
use Rattle.bench_engine.proofs.rests.rest_next.Goals as goal

pub returns : goal.returns
returns g c =
    record {
      all = subst (All (RestsOn c.args.engine.now)) (sym c.in_ok-push.ensures.items)
          (All-push (RestsOn c.args.engine.now) c.args.all.now.items c.in_ok-rest_one.field-0 c.requires.all c.in_ok-rest_one.ensures.rests);
    }
