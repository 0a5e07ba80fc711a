use Rattle.std.proofs.Common.{codes, refl, sym, ap, ◌∙◌}
use Rattle.mx_event.specs.Redaction.{is_kept}
use Rattle.mx_event.proofs.Texts.{miss, one_key}
use Rattle.mx_event.proofs.redaction.is_kept.Goals as goal

pub returns-in_default : goal.returns-in_default
returns-in_default c =
    rw (miss _ _ c.in_default.not-text, miss _ _ c.in_default.not-text-2, miss _ _ c.in_default.not-text-3, miss _ _ c.in_default.not-text-4, miss _ _ c.in_default.not-text-5) refl

pub returns-in-text-4 : goal.returns-in-text-4
returns-in-text-4 c = c.eq.ensures ∙ one_key c.args.key.now (codes "history_visibility") ∙ ap (λ k. is_kept k c.args.key.now) (sym c.in-text-4.is)

pub returns-in-text-5 : goal.returns-in-text-5
returns-in-text-5 c = c.eq-in-text-5.ensures ∙ one_key c.args.key.now (codes "redacts") ∙ ap (λ k. is_kept k c.args.key.now) (sym c.in-text-5.is)
