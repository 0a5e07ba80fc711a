use Rattle.std.proofs.Common.{map, ap, sym, ◌∙◌}
use Rattle.std.specs.Option.{option_copied}
use Rattle.mx_parts.specs.Under.{all_found, found_now, put_found}
use Rattle.mx_parts.proofs.Under.{insert_now}
use Rattle.mx_parts.proofs.under_keys.put_found.Goals as goal

pub returns-in_ok-insert : goal.returns-in_ok-insert
returns-in_ok-insert c =
    ap (map found_now) c.in_ok-insert.ensures.entries ∙ insert_now c.args.found.now.entries _ _
    ∙ ap (put_found (all_found c.args.found.now)) (ap option_copied (sym c.in-Some.is) ∙ c.last_of.ensures)
