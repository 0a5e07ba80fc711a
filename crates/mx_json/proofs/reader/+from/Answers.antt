use Rattle.std.proofs.Common.{◌++◌, string_bytes, sym, ap, ◌∙◌}
use Rattle.serde_json.specs.View.{view, items_view, members_view}
use Rattle.serde_json.proofs.Views.{Entry}
use Rattle.mx_json.specs.Values.{json_of, jsons_of, members_of_data}
use Rattle.mx_json.proofs.Order.{may_push, pushed_on}
use Rattle.mx_json.proofs.reader.+from.Goals as goal

pub members_from-push_member-requires : goal.members_from-push_member-requires
members_from-push_member-requires t c =
    let members = c.loop-key.members in
    let entry : Entry = (c.in-Some.key, c.in-Some.value) in
    let left = c.next.new.self in
    let whole = ap (λ es. members ++ members_of_data (members_view es)) (sym c.in-Some.ensures.steps) ∙ c.loop-key.invariant.2 in
    may_push members entry left c.args.entries.entries whole c.into_iter-key-iterator.ensures.into_iter_gives.5

pub list_from-loop-item-preserved : goal.list_from-loop-item-preserved
list_from-loop-item-preserved t c =
    let list = c.loop-item.list.items in
    let value = json_of (view c.in-Some.item) in
    let left = c.next.new.self.rest.items in
    pushed_on list c.push_made.new.list.items (jsons_of (items_view left)) _ value (c.in_ok-push_made.ensures value c.json_from.ensures)
    (ap (λ es. list ++ jsons_of (items_view es)) (sym c.in-Some.ensures.steps.0) ∙ c.loop-item.invariant)

pub members_from-loop-key-preserved : goal.members_from-loop-key-preserved
members_from-loop-key-preserved t c =
    let members = c.loop-key.members in
    let value = json_of (view c.in-Some.value) in
    let left = c.next.new.self in
    let is = pushed_on members c.push_member.new.members (members_of_data (members_view left)) _ (record { key = string_bytes c.in-Some.key; value = value }) (c.in_ok-push_member.ensures value c.json_from.ensures)
    (ap (λ es. members ++ members_of_data (members_view es)) (sym c.in-Some.ensures.steps) ∙ c.loop-key.invariant.2) in
    (tt, tt, is)
