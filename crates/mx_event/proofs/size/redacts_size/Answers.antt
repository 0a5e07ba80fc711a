use Rattle.std.proofs.Common.{◌-◌, ◌^◌, min, codes, ap, ◌∙◌}
use Rattle.mx_json.specs.Texts.{members_len}
use Rattle.mx_event.specs.Forms.{member_if}
use Rattle.mx_event.proofs.size.redacts_size.Goals as goal

pub returns-in-Some : goal.returns-in-Some
returns-in-Some c =
    c.member_size.ensures c.in-Some.named.now c.size.ensures ∙ ap (λ o. min (members_len (member_if (codes "redacts") o)) (2 ^ 64 - 1)) c.in-Some.ensures
