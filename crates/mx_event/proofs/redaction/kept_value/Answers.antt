use Rattle.std.proofs.Common.{◌≡◌, sym, ap, ◌∙◌, true}
use Rattle.mx_event.specs.Redaction.{is_invite_of_third_party}
use Rattle.mx_event.proofs.Kept.{signed_left}
use Rattle.mx_event.proofs.redaction.kept_value.Goals as goal

pub returns-then-is_invite_of_third_party : goal.returns-then-is_invite_of_third_party
returns-then-is_invite_of_third_party c =
    let m = c.args.member.now in
    let is : is_invite_of_third_party c.args.kind.now m.key ≡ true = ap (is_invite_of_third_party c.args.kind.now) (sym c.as_str-key.ensures) ∙ sym c.is_invite_of_third_party.ensures ∙ c.if-is_invite_of_third_party.true in
    signed_left c.args.kind.now m c.only_signed.result c.only_signed.ensures is
