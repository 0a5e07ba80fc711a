-- Where the router refuses a path.
use Rattle.std.proofs.Common.{◌≡◌, ℕ, List, ◌∷◌, Bool, false, ◌&&◌, Result, Ok, Err, Option, Some, refl, ap}
use Rattle.std.specs.Option.{is_none}
use Rattle.matchit.specs.Route.{Scan, parse_route}
use Rattle.matchit.specs.Router.{InsertsRead, Refused, RouteOf, nearest}
use Rattle.matchit.specs.Rows.{RowsOf}
use Rattle.matchit.specs.declared.error.InsertError.{InsertError}
use Rattle.matchit.specs.declared.error.InsertError.TheVariants.{Conflict, InvalidParamSegment, InvalidParam, InvalidCatchAll, OutOfMemory}
use Rattle.mx_api.specs.Routing.{add, are_apart_from, is_apart}

nearest_some : {T : Type 0} (pattern : List ℕ) (rows : RowsOf (RouteOf T)) (e : InsertError) → Refused pattern rows e → (e ≡ OutOfMemory → ⊥) → is_none (nearest pattern rows) ≡ false
nearest_some pattern rows (Conflict with) r other = ap is_none r.1
nearest_some pattern rows InvalidParamSegment r other = absurd r
nearest_some pattern rows InvalidParam r other = absurd r
nearest_some pattern rows InvalidCatchAll r other = absurd r
nearest_some pattern rows OutOfMemory r other = absurd (other refl)

module _ {R : Type 0} (path : R → List ℕ) where
  pub refused_apart : (rows new : RowsOf (RouteOf R)) (route : R) (rest : List R) (e : InsertError) → InsertsRead (parse_route (path route)) route rows new (Err e) → (e ≡ OutOfMemory → ⊥)
      → are_apart_from path rows (route ∷ rest) ≡ false
  refused_apart rows new route rest e said other = by (parse_route (path route)) said
    where
      later : Bool
      later = are_apart_from path (add path rows route) rest

      by : (p : Result Scan InsertError) → InsertsRead p route rows new (Err e) → is_apart path p rows && later ≡ false
      by (Ok s) r = ap (λ b. b && later) (nearest_some s.pattern rows e r.1 other)
      by (Err w) r = refl
