-- A session that reads.
use Rattle.std.proofs.Common.{◌≡◌, ℕ, ◌+◌, ◌<◌, ◌⊎◌, ⊎_elim, inl, inr, List, [], ◌++◌, Bool, true, false, Some, Ok, length, refl, sym, ap, ◌∙◌, subst, append-nil}
use Rattle.std.specs.Io.KnownBytes.{prepend_known, IsAtEnd}
use Rattle.std.proofs.KnownBytes.{Keeps-refl}
use Rattle.mx_ids.specs.declared.memory.Memory.{Memory}
use Rattle.mx_outside.specs.declared.port.TookNow.TheVariants as took
use Rattle.mx_http.specs.Calls.{AreLineEnds, IsBlank, IsOpenHead}
use Rattle.mx_http.specs.Intakes.{FillsNow, TakesBody}
use Rattle.mx_http.specs.Parts.{HasParts, with_body}
use Rattle.mx_http.specs.Reads.{Reads}
use Rattle.mx_http.specs.declared.call.Call.{Call}
use Rattle.mx_http.specs.declared.head.Head.{Head}
use Rattle.mx_http.proofs.Reading.{body_cut, call_given, parts_now}
use Rattle.mx_fold.specs.Lists.{Histories}
use Rattle.mx_poll.specs.Aims.Asked.{Site}
use Rattle.mx_poll.specs.OfEngine.Answers.{Stops}
use Rattle.mx_serve.specs.Sessions.{Moment}
use Rattle.mx_serve.specs.declared.ended.End.{End}
use Rattle.mx_serve.specs.declared.ended.End.TheVariants as end
use Rattle.mx_loop.specs.Stands.{Called, ReadTo, Sight, Stands}
use Rattle.mx_loop.specs.declared.line.Read.{Read}
use Rattle.mx_loop.specs.declared.line.Read.TheVariants as read
use Rattle.mx_loop.specs.declared.line.Stepped.TheVariants as stepped
use Rattle.mx_loop.specs.declared.line.State.TheVariants as state
use Rattle.mx_loop.proofs.Standing.{came, reads_to, same_ahead, served_came}

-- what is open and has line ends alone is blank
pub blank_from : (held : List ℕ) → IsOpenHead held ⊎ IsBlank held → AreLineEnds held → IsBlank held
blank_from held (inl o) l = (o.short, l)
blank_from held (inr b) l = b

pub open_from : (held : List ℕ) → IsOpenHead held ⊎ IsBlank held → (AreLineEnds held → ⊥) → IsOpenHead held × (IsBlank held → ⊥)
open_from held (inl o) never = (o, λ b. never b.1)
open_from held (inr b) never = absurd (never b.1)

pub not_both : (b : Bool) → b ≡ false → b ≡ true → ⊥
not_both b p q = let no : false ≡ true = sym p ∙ q in cc

module _ (site : Site) (stops : Stops) (limit : ℕ) where
  pub ended_as : (start : Moment) (lists : Histories) (t : Sight) (e : End) (r : Read) → r ≡ read.Stays (state.Ended e) stepped.Ended → Stands site stops limit start lists t (state.Ended e) → ReadTo site stops limit start lists t r
  ended_as start lists t e r is h = subst (λ x. ReadTo site stops limit start lists t x) (sym is) h

  -- nothing came
  pub same_head : (start : Moment) (lists : Histories) (s t : Sight) → t.marks ≡ s.marks → t.out ≡ s.out → t.written ≡ s.written → t.held ≡ s.held → t.left ≡ s.left
      → Stands site stops limit start lists s state.Head → Stands site stops limit start lists t state.Head
  same_head start lists s t marks out written held left h =
      (out ∙ h.0, served_came site stops limit start lists s t marks out written (same_ahead s.left t.left s.held t.held held left) h.1)

  pub came_head : (start : Moment) (lists : Histories) (s t : Sight) (n : ℕ) → t.marks ≡ s.marks → t.out ≡ s.out → t.written ≡ s.written → FillsNow s.left t.left s.held t.held (Ok (took.Got n))
      → Stands site stops limit start lists s state.Head → Stands site stops limit start lists t state.Head
  came_head start lists s t n marks out written f h =
      (out ∙ h.0, served_came site stops limit start lists s t marks out written (came s.left t.left s.held t.held f.0 f.2 f.3) h.1)

  pub same_body : (start : Moment) (lists : Histories) (s t : Sight) (d : Head) → t.marks ≡ s.marks → t.out ≡ s.out → t.written ≡ s.written → t.held ≡ s.held → t.left ≡ s.left
      → Stands site stops limit start lists s (state.Body d) → Stands site stops limit start lists t (state.Body d)
  same_body start lists s t d marks out written held left h =
      (out ∙ h.0, served_came site stops limit start lists s t marks out written (same_ahead s.left t.left s.held t.held held left) h.1, subst (λ l. HasParts l d) (sym held) h.2)

  pub came_body : (start : Moment) (lists : Histories) (s t : Sight) (d : Head) (n : ℕ) → t.marks ≡ s.marks → t.out ≡ s.out → t.written ≡ s.written → FillsNow s.left t.left s.held t.held (Ok (took.Got n))
      → Stands site stops limit start lists s (state.Body d) → Stands site stops limit start lists t (state.Body d)
  came_body start lists s t d n marks out written f h =
      (out ∙ h.0, served_came site stops limit start lists s t marks out written (came s.left t.left s.held t.held f.0 f.2 f.3) h.1, parts_now s.held t.held f.0 d h.2 f.2)

  -- the end where no head is whole
  pub ends_head : (start : Moment) (lists : Histories) (s t : Sight) (e : End) → t.marks ≡ s.marks → t.written ≡ s.written → t.held ≡ s.held → t.left ≡ s.left
      → ((m : Memory) × (e ≡ end.Memory m)) ⊎ (((e ≡ end.ReadFault) × (IsOpenHead s.held ⊎ IsBlank s.held)) ⊎ (((e ≡ end.Closed) × IsBlank s.held × IsAtEnd s.left) ⊎ ((e ≡ end.Cut) × IsOpenHead s.held × (IsBlank s.held → ⊥) × IsAtEnd s.left)))
      → Stands site stops limit start lists s state.Head → Stands site stops limit start lists t (state.Ended e)
  ends_head start lists s t e marks written held left why h =
      subst (λ (x : Sight). Stands site stops limit start lists x (state.Ended e)) (λ i. record { left = sym left i; written = sym written i; held = sym held i; out = t.out; marks = sym marks i })
      (by why)
    where
      at : Sight
      at = record s { out = t.out }

      by : ((m : Memory) × (e ≡ end.Memory m)) ⊎ (((e ≡ end.ReadFault) × (IsOpenHead s.held ⊎ IsBlank s.held)) ⊎ (((e ≡ end.Closed) × IsBlank s.held × IsAtEnd s.left) ⊎ ((e ≡ end.Cut) × IsOpenHead s.held × (IsBlank s.held → ⊥) × IsAtEnd s.left)))
          → Stands site stops limit start lists at (state.Ended e)
      by (inl m) = subst (λ k. Stands site stops limit start lists at (state.Ended k)) (sym m.1) (reads_to site stops limit start lists s at (end.Memory m.0) refl refl h.0 (Keeps-refl (prepend_known s.held s.left)) tt h.1)
      by (inr (inl f)) = subst (λ k. Stands site stops limit start lists at (state.Ended k)) (sym f.0)
          (reads_to site stops limit start lists s at end.ReadFault refl refl h.0 (Keeps-refl (prepend_known s.held s.left)) (⊎_elim (λ (o : IsOpenHead s.held). inr (inl o)) (λ (b : IsBlank s.held). inl b) f.1) h.1)
      by (inr (inr (inl c))) = subst (λ k. Stands site stops limit start lists at (state.Ended k)) (sym c.0)
          (reads_to site stops limit start lists s at end.Closed refl refl h.0 (Keeps-refl (prepend_known s.held s.left)) (c.1, c.2) h.1)
      by (inr (inr (inr c))) = subst (λ k. Stands site stops limit start lists at (state.Ended k)) (sym c.0)
          (reads_to site stops limit start lists s at end.Cut refl refl h.0 (Keeps-refl (prepend_known s.held s.left)) (inl c.1, c.2, c.3) h.1)

  -- the end where a body isn't whole
  pub ends_body : (start : Moment) (lists : Histories) (s t : Sight) (d : Head) (e : End) → t.marks ≡ s.marks → t.written ≡ s.written → t.held ≡ s.held → t.left ≡ s.left
      → ((m : Memory) × (e ≡ end.Memory m)) ⊎ (((e ≡ end.ReadFault) × (length s.held < d.len + d.size)) ⊎ ((e ≡ end.Cut) × (length s.held < d.len + d.size) × IsAtEnd s.left))
      → Stands site stops limit start lists s (state.Body d) → Stands site stops limit start lists t (state.Ended e)
  ends_body start lists s t d e marks written held left why h =
      subst (λ (x : Sight). Stands site stops limit start lists x (state.Ended e)) (λ i. record { left = sym left i; written = sym written i; held = sym held i; out = t.out; marks = sym marks i })
      (by why)
    where
      at : Sight
      at = record s { out = t.out }

      by : ((m : Memory) × (e ≡ end.Memory m)) ⊎ (((e ≡ end.ReadFault) × (length s.held < d.len + d.size)) ⊎ ((e ≡ end.Cut) × (length s.held < d.len + d.size) × IsAtEnd s.left))
          → Stands site stops limit start lists at (state.Ended e)
      by (inl m) = subst (λ k. Stands site stops limit start lists at (state.Ended k)) (sym m.1) (reads_to site stops limit start lists s at (end.Memory m.0) refl refl h.0 (Keeps-refl (prepend_known s.held s.left)) tt h.1)
      by (inr (inl f)) = subst (λ k. Stands site stops limit start lists at (state.Ended k)) (sym f.0)
          (reads_to site stops limit start lists s at end.ReadFault refl refl h.0 (Keeps-refl (prepend_known s.held s.left)) (inr (body_cut s.held d h.2 f.1).0) h.1)
      by (inr (inr c)) = let cut = body_cut s.held d h.2 c.1 in
          subst (λ k. Stands site stops limit start lists at (state.Ended k)) (sym c.0)
          (reads_to site stops limit start lists s at end.Cut refl refl h.0 (Keeps-refl (prepend_known s.held s.left)) (cut.0, cut.1, c.2) h.1)

  -- a request is whole
  pub called : (start : Moment) (lists : Histories) (s t : Sight) (d : Head) (body : List ℕ) (c : Call) → t.marks ≡ s.marks → t.out ≡ s.out → t.written ≡ s.written → t.left ≡ s.left
      → TakesBody s.held t.held d (Ok (Some body)) → c ≡ with_body d body → Stands site stops limit start lists s (state.Body d) → Called site stops limit start lists t c
  called start lists s t d body c marks out written left took is h =
      let given : Reads (Some s.held) (prepend_known t.held (Some [])) t.held (Some []) (Ok (Some c)) =
      call_given (Some s.held) (Some []) s.held t.held body d c (d.len + d.size) (append-nil s.held) h.2 refl took.0 took.1 took.2 is in
      let whole : s.held ≡ given.0 ++ t.held = given.2 ∙ ap (λ l. given.0 ++ l) (append-nil t.held) in
      record {
        empty = out ∙ h.0;
        bytes = given.0;
        is_call = given.1;
        before = served_came site stops limit start lists s (record t { held = given.0 ++ t.held }) marks out written (same_ahead s.left t.left s.held (given.0 ++ t.held) (sym whole) left) h.1;
      }
