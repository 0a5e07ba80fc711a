-- The table of routes by their paths, as the router keeps it.
use Rattle.std.specs.Prelude.{ℕ, List, [], ◌∷◌, Bool, true, false, ◌&&◌, Result, Ok, Err, fold}
use Rattle.std.specs.Option.{is_none}
use Rattle.matchit.specs.Order.{placed}
use Rattle.matchit.specs.Route.{Scan, parse_route}
use Rattle.matchit.specs.Router.{RouteOf, nearest, route_from}
use Rattle.matchit.specs.Rows.{RowsOf}
use Rattle.matchit.specs.declared.error.InsertError.{InsertError}

module _ {R : Type 0} (path : R → List ℕ) where
  -- the rows with one more; a path that isn't of the router's form has none
  abbrev pub added : Result Scan InsertError → R → RowsOf (RouteOf R) → RowsOf (RouteOf R)
  added (Ok s) route rows = let r = route_from s route in placed (r.pattern, r) rows
  added (Err e) route rows = rows

  abbrev pub add : RowsOf (RouteOf R) → R → RowsOf (RouteOf R)
  add rows route = added (parse_route (path route)) route rows

  -- a route that reads well stands beside these rows
  abbrev pub is_apart : Result Scan InsertError → RowsOf (RouteOf R) → Bool
  is_apart (Ok s) rows = is_none (nearest s.pattern rows)
  is_apart (Err e) rows = false

  -- each of these routes reads well, and conflicts with none of the rows and of the routes before it
  abbrev pub are_apart_from : RowsOf (RouteOf R) → List R → Bool
  are_apart_from rows [] = true
  are_apart_from rows (route ∷ routes) = is_apart (parse_route (path route)) rows && are_apart_from (add rows route) routes

  abbrev pub are_apart : List R → Bool
  are_apart routes = are_apart_from [] routes

  -- the rows of these routes
  abbrev pub rows_of : List R → RowsOf (RouteOf R)
  rows_of routes = fold add [] routes
