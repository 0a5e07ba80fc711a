use Rattle.std.proofs.Common.{ℕ, List, [], ◌++◌, refl, sym, subst}
use Rattle.mx_journal.specs.Kept.{AreLines}
use Rattle.mx_restore.proofs.opening.first_lines.Goals.{then-far-eq0+in_ok-put_head, else-far-eq0, then-far-len+in_ok-put_devices, else-far-len}
use Rattle.mx_restore.proofs.opening.first_lines.Goals as goal

pub returns : goal.returns
returns c =
    let none : AreLines c.new-lines.result.items [] = subst (λ (l : List ℕ). AreLines l []) (sym c.new-lines.ensures.items) (record { whole = refl; texts_open = tt; rest_open = refl }) in
    let headed : (x : List (List ℕ)) × AreLines c.if-far-eq0.lines.items x = elim c.if-far-eq0.branch [
      | then-far-eq0+in_ok-put_head w ↦ (let added = w.in_ok-put_head.ensures [] none in (added.0, subst (λ v. AreLines v.items added.0) (sym w.lines-is) added.1))
      | else-far-eq0 w ↦ ([], subst (λ v. AreLines v.items []) (sym w.lines-is) none)
    ] in
    elim c.if-far-len.branch [
      | then-far-len+in_ok-put_devices w ↦ (let added = w.in_ok-put_devices.ensures headed.0 headed.1 in (headed.0 ++ added.0, subst (λ v. AreLines v.items (headed.0 ++ added.0)) (sym w.lines-is) added.1))
      | else-far-len w ↦ (headed.0, subst (λ v. AreLines v.items headed.0) (sym w.lines-is) headed.1)
    ]
