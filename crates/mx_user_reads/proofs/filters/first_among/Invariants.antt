use Rattle.std.proofs.Common.{◌≡◌, drop}
use Rattle.mx_snapshot.specs.Looks.{all_now}
use Rattle.mx_user_reads.specs.Filters.{first_filter}
use Rattle.mx_user_reads.proofs.filters.first_among.Given as goal

abbrev pub invariant-filters : goal.invariant-filters
invariant-filters l = first_filter l.user l.number (all_now (drop l.entry-index l.filters)) ≡ first_filter l.user l.number (all_now l.filters)
