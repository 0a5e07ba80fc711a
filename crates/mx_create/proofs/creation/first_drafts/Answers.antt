use Rattle.std.proofs.Common.{[], ◌∷◌, ◌++◌, ap, ◌∙◌}
use Rattle.mx_event.specs.Kinds.{member_type}
use Rattle.mx_create.specs.Blocks.{creating, Creating, draft}
use Rattle.mx_create.proofs.Drafts.{first_put}
use Rattle.mx_create.proofs.creation.first_drafts.Goals as goal

pub returns : goal.returns
returns c =
    let by : Creating = creating c.args.by.now in
    first_put by c.args.preset c.args.ask.now _ _ _ _ _ _ _ _
    c.in_ok-created.ensures c.in_ok-joined.ensures c.in_ok-powers.ensures c.in_ok-all.ensures.items c.in_ok-push.ensures
    (c.in_ok-push-2.ensures ∙ ap (λ key. c.push.new.all.items ++ draft by member_type key c.in_ok-joined.joined ∷ []) c.as_str.ensures.text)
    c.in_ok-push-3.ensures c.in_ok-push_rules.ensures
