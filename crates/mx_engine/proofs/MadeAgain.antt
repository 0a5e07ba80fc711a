-- A store that was made again.
use Rattle.std.proofs.Common.{◌≡◌, ℕ, List, [], ◌∷◌, ◌++◌, sym, ap, ◌∙◌}
use Rattle.mx_core.specs.declared.history.Stored.{Stored}
use Rattle.mx_core.specs.History.{own}
use Rattle.mx_replay.specs.Replays.{HasReplayed}
use Rattle.mx_writers.specs.Decision.{Decision, Placing, store_of}
use Rattle.mx_engine.specs.Again.{items_in, with_again}
use Rattle.mx_engine.specs.declared.record.Again.{Again}

module _ {I D E : Type 0} {place : Placing I} {decides other : ℕ → List (Stored I) → D → Decision I E} {r : Again D} {old new : List (Stored I)} where
  pub made_again : decides ≡ other → HasReplayed place decides r.writer r.first r.draft old new → new ≡ with_again place other r old
  made_again same h =
      let decided : other r.writer (own old r.writer) r.draft ≡ decides r.writer (own old r.writer) r.draft = ap (λ by. by r.writer (own old r.writer) r.draft) (sym same) in
      h.seen ∙ ap (λ xs. old ++ store_of place r.writer r.first xs ∷ []) (sym (ap items_in (decided ∙ h.decided)))
