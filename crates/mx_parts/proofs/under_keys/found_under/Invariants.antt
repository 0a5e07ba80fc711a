use Rattle.std.proofs.Common.{◌≡◌, [], drop, fold}
use Rattle.mx_event.specs.Lawful.{of_room}
use Rattle.mx_parts.specs.Under.{all_found, put_standing}
use Rattle.mx_parts.proofs.under_keys.found_under.Given as goal

abbrev pub invariant-keys : goal.invariant-keys
invariant-keys l =
    fold (put_standing (of_room l.room l.events) l.position) (all_found l.found) (drop l.key-index l.keys) ≡ fold (put_standing (of_room l.room l.events) l.position) [] l.keys
