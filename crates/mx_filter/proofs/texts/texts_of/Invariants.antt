use Rattle.std.proofs.Common.{◌≡◌, take}
use Rattle.mx_filter.specs.Filters.{texts_of}
use Rattle.mx_filter.proofs.texts.texts_of.Given as goal

abbrev pub invariant-items : goal.invariant-items
invariant-items l = l.texts ≡ texts_of (take l.item-index l.items)
