use Rattle.std.proofs.Common.{◌≡◌, ◌==◌, IfOk, map, subst, arith}
use Rattle.std.proofs.lemmas.Iterator.Consumers.{map_from_collect}
use Rattle.std.proofs.lemmas.Iterator.Splits.{YieldsList-from_str_split}
use Rattle.std.specs.List.{slice_split}
use Rattle.mx_api.proofs.parts.pieces.Goals as goal

pub returns : goal.returns
returns c =
    let cut = YieldsList-from_str_split 47 c.args.path.now (omega arith) c.split.ensures.text c.split.ensures.has_more c.split.ensures.pattern in
    subst (λ r. IfOk r (λ v. map (λ x. x.now) v.items ≡ slice_split (λ b. b == 47) c.args.path.now)) c.in_ok-collect.was (map_from_collect _ c.collect.ensures.ran cut)
