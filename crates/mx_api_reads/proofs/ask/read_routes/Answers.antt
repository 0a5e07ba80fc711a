use Rattle.std.proofs.Common.{◌≡◌, ◌∙◌, Err, true, false, ap, sym}
use Rattle.mx_api.specs.Routing.{are_apart}
use Rattle.mx_api_reads.specs.Routes.{path_of}
use Rattle.mx_api_reads.proofs.Apart.{routes_apart}
use Rattle.mx_api_reads.proofs.ask.read_routes.Goals as goal

pub unreachable-requires : goal.unreachable-requires
unreachable-requires c = absurd (never (sym routes_apart ∙ sym (ap (are_apart path_of) c.as_slice.ensures) ∙ c.router_of.ensures.conflict (c.in-Err-Conflict.is ∙ ap Err c.in-Err-Conflict.field-0-is)))
  where
    never : true ≡ false → ⊥
    never is = cc
