use Rattle.std.proofs.Common.{◌≡◌, rules, ap, ◌∙◌}
use Rattle.serde_json.specs.Data.{put}
use Rattle.serde_json.specs.View.{view, members_view}
use Rattle.serde_json.proofs.Views.{members_view-insert_entry}
use Rattle.mx_json.proofs.writer.insert_value.Goals as goal

pub returns : goal.returns
returns c = λ d made.
    let is : view c.in_ok-value.value ≡ d = search rules in
    ap members_view c.in_ok-insert.ensures.entries ∙ members_view-insert_entry c.args.map.now.entries c.in_ok-key.key c.in_ok-value.value
    ∙ rw (c.in_ok-key.ensures.ok, c.as_str.ensures) (ap (λ e. put c.args.key.now e (members_view c.args.map.now.entries)) is)
