-- What a log has once it was cut behind its whole lines.
use Rattle.std.proofs.Common.{◌≡◌, ℕ, Option, Some, None, drop, take, length, refl, sym, ap, subst, ◌∙◌}
use Rattle.std.specs.Prelude.{unwrap_or, ⊤}
use Rattle.std.proofs.lemmas.List.{append-nil, take_at}
use Rattle.mx_journal.specs.Kept.{HasKept, HasWhole}
use Rattle.mx_lines.specs.Lines.{file_of}
use Rattle.mx_log.specs.Logs.{Cuts, Logged}
use Rattle.mx_outside.specs.declared.sink.Put.TheVariants as put

abbrev IsUntold : Option Logged → Type 0
IsUntold None = ⊤
IsUntold (Some log) = ⊥

pub cut_kept : (old new : Option Logged) (count : ℕ) → Cuts old new put.Done count → (log : Logged) → old ≡ Some log → (h : HasWhole log.bytes count) → HasKept new h.texts
cut_kept None None count cut log is h = absurd (subst IsUntold is tt)
cut_kept None (Some new) count cut log is h = absurd cut
cut_kept (Some old) None count cut log is h = absurd cut
cut_kept (Some old) (Some new) count cut log is h = λ it told.
    let same : old ≡ log = ap (λ o. unwrap_or o log) is in
    let now : new ≡ it = ap (λ o. unwrap_or o it) told in
    let front : take count old.bytes ≡ file_of h.texts =
    ap (λ (l : Logged). take count l.bytes) same ∙ (ap (take count) h.is.whole ∙ take_at (file_of h.texts) (drop count log.bytes) count (sym h.lines)) in
    let bytes : it.bytes ≡ file_of h.texts = ap (λ (l : Logged). l.bytes) (sym now) ∙ (cut.0 ∙ front) in (
      record { whole = bytes ∙ sym (append-nil (file_of h.texts)); texts_open = h.is.texts_open; rest_open = refl },
      subst (λ (l : Logged). l.settled ≡ length l.bytes) now cut.1,
    )
