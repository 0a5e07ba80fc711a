pub use Rattle.mx_visible.specs.Walks.{all_sighted, is_mark, joins, last_join, last_mark, sighted, sights}
