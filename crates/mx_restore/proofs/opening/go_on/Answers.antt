use Rattle.std.proofs.Common.{ℕ, List, [], sym, subst}
use Rattle.std.proofs.lemmas.List.{append-nil}
use Rattle.mx_journal.specs.Kept.{AreLines, HasKept}
use Rattle.mx_restore.proofs.Cutting.{cut_kept}
use Rattle.mx_restore.proofs.opening.go_on.Goals as goal

pub returns-then-is_empty-clause-kept : goal.returns-then-is_empty-clause-kept
returns-then-is_empty-clause-kept g c = λ log told h. (
  [],
  subst (HasKept (g.L.Log.told c.cut.new.self)) (sym (append-nil h.texts))
      (cut_kept (g.L.Log.told c.args.log.now) (g.L.Log.told c.cut.new.self) c.args.far.now.bytes c.in-Done.ensures.cut log told h),
)

pub returns-then-keep_lines-clause-kept : goal.returns-then-keep_lines-clause-kept
returns-then-keep_lines-clause-kept g c = λ log told h. (
  c.in_ok-lines.ensures.0,
  c.keep_lines.ensures.kept h.texts c.in_ok-lines.ensures.0
      (cut_kept (g.L.Log.told c.args.log.now) (g.L.Log.told c.cut.new.self) c.args.far.now.bytes c.in-Done.ensures.cut log told h)
      (subst (λ (l : List ℕ). AreLines l c.in_ok-lines.ensures.0) (sym c.as_slice.ensures.value) c.in_ok-lines.ensures.1) c.if-keep_lines.true,
)
