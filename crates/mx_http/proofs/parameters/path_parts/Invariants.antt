use Rattle.std.proofs.Common.{◌≡◌, ◌++◌, drop, map, option_map}
use Rattle.mx_http.specs.Paths.{decoded_parts}
use Rattle.mx_http.proofs.parameters.path_parts.Given as goal

abbrev pub invariant-parts : goal.invariant-parts
invariant-parts l =
    option_map (λ rest. l.decoded ++ rest) (decoded_parts (map (λ part. part.now) (drop l.part-index l.parts))) ≡ decoded_parts (map (λ part. part.now) l.fn.parts)
