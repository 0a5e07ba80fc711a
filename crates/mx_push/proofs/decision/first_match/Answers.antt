use Rattle.std.proofs.Common.{Some, ap, ◌∙◌}
use Rattle.mx_rules.specs.Rules.{rules_of}
use Rattle.mx_push.specs.Notifies.{by_id, first_match, judged}
use Rattle.mx_push.specs.Settings.{setting_of}
use Rattle.mx_push.proofs.Firsts.{below_contents, below_overrides, below_rooms, contents, here, overrides, past, rooms, senders, underrides}
use Rattle.mx_push.proofs.decision.first_match.Goals as goal

pub returns-in-Some : goal.returns-in-Some
returns-in-Some c =
    let rs = rules_of c.args.rules.now in
    let s = setting_of c.args.context.now in
    let e = c.args.event.now in
    here (overrides rs s e) (below_overrides rs s e) c.in-Some.actions.now c.in-Some.ensures

pub returns-in-Some-by_pattern : goal.returns-in-Some-by_pattern
returns-in-Some-by_pattern c =
    let rs = rules_of c.args.rules.now in
    let s = setting_of c.args.context.now in
    let e = c.args.event.now in
    past c.by_conditions.result (overrides rs s e) (below_overrides rs s e) (Some c.in-Some-by_pattern.actions.now) c.by_conditions.ensures c.in_default.not-Some
    (here (contents rs s e) (below_contents rs s e) c.in-Some-by_pattern.actions.now c.in-Some-by_pattern.ensures)

pub returns-in-Some-by_id : goal.returns-in-Some-by_id
returns-in-Some-by_id c =
    let rs = rules_of c.args.rules.now in
    let s = setting_of c.args.context.now in
    let e = c.args.event.now in
    past c.by_conditions.result (overrides rs s e) (below_overrides rs s e) (Some c.in-Some-by_id.actions.now) c.by_conditions.ensures c.in_default.not-Some
    (past c.by_pattern.result (contents rs s e) (below_contents rs s e) (Some c.in-Some-by_id.actions.now) c.by_pattern.ensures c.in_default-by_pattern.not-Some
    (here (rooms rs s e) (below_rooms rs s e) c.in-Some-by_id.actions.now c.in-Some-by_id.ensures))

pub returns-in-Some-by_id-2 : goal.returns-in-Some-by_id-2
returns-in-Some-by_id-2 c =
    let rs = rules_of c.args.rules.now in
    let s = setting_of c.args.context.now in
    let e = c.args.event.now in
    past c.by_conditions.result (overrides rs s e) (below_overrides rs s e) (Some c.in-Some-by_id-2.actions.now) c.by_conditions.ensures c.in_default.not-Some
    (past c.by_pattern.result (contents rs s e) (below_contents rs s e) (Some c.in-Some-by_id-2.actions.now) c.by_pattern.ensures c.in_default-by_pattern.not-Some
    (past c.by_id.result (rooms rs s e) (below_rooms rs s e) (Some c.in-Some-by_id-2.actions.now) c.by_id.ensures c.in_default-by_id.not-Some
    (here (senders rs s e) (underrides rs s e) c.in-Some-by_id-2.actions.now (c.in-Some-by_id-2.ensures ∙ (ap (λ t. first_match (judged (by_id t e) rs.sender)) c.as_str.ensures.text)))))

pub returns : goal.returns
returns c =
    let rs = rules_of c.args.rules.now in
    let s = setting_of c.args.context.now in
    let e = c.args.event.now in
    past c.by_conditions.result (overrides rs s e) (below_overrides rs s e) _ c.by_conditions.ensures c.in_default.not-Some
    (past c.by_pattern.result (contents rs s e) (below_contents rs s e) _ c.by_pattern.ensures c.in_default-by_pattern.not-Some
    (past c.by_id.result (rooms rs s e) (below_rooms rs s e) _ c.by_id.ensures c.in_default-by_id.not-Some
    (past c.by_id-2.result (senders rs s e) (underrides rs s e) _ (c.by_id-2.ensures ∙ (ap (λ t. first_match (judged (by_id t e) rs.sender)) c.as_str.ensures.text)) c.in_default-by_id-2.not-Some c.by_conditions-2.ensures)))
