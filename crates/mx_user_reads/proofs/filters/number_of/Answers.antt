use Rattle.std.proofs.Common.{◌≡◌, ◌<◌, ◌^◌, ◌∙◌, true, false, decimal, sym, ap, ap₂, arith}
use Rattle.std.specs.Str.{bytes_eq}
use Rattle.mx_user_reads.specs.Filters.{number_of}
use Rattle.mx_user_reads.proofs.Numbers.{other_text, own_text, unread}
use Rattle.mx_user_reads.proofs.filters.number_of.Goals as goal

pub returns-in_default : goal.returns-in_default
returns-in_default c =
    sym (ap number_of (sym c.as_str.ensures) ∙ unread c.as_str.result.now c.in_default.field-0 c.in_default.ensures.value.0)

pub returns-then-eq : goal.returns-then-eq
returns-then-eq c =
    let small : c.in-Ok.number < 2 ^ 64 = omega (arith, c.in-Ok.ensures.value.0.0.1, c.in-Ok.ensures.value.0.1) in
    let text = c.as_str-2.ensures.value ∙ c.in_ok-text.ensures.ok in
    let same : bytes_eq (decimal c.in-Ok.number) c.args.id.now ≡ true = ap₂ bytes_eq (sym text) (sym c.as_str-3.ensures) ∙ sym c.eq.ensures ∙ c.if-eq.true in
    sym (own_text c.args.id.now c.in-Ok.number small same)

pub returns : goal.returns
returns c =
    let text = c.as_str-2.ensures.value ∙ c.in_ok-text.ensures.ok in
    let apart : bytes_eq (decimal c.in-Ok.number) c.as_str.result.now ≡ false = ap₂ bytes_eq (sym text) (c.as_str.ensures ∙ sym c.as_str-3.ensures) ∙ sym c.eq.ensures ∙ c.if-eq.false in
    sym (ap number_of (sym c.as_str.ensures) ∙ other_text c.as_str.result.now c.in-Ok.number c.in-Ok.ensures.value.0 apart)
