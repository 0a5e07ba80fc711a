use Rattle.std.proofs.Common.{[], ◌∷◌, List, ℕ, codes, ap, ◌∙◌}
use Rattle.std.specs.Cmp.Lexicographic.{slice_cmp}
use Rattle.std.specs.Ordering.{is_lt, nat_cmp}
use Rattle.mx_event.specs.Forms.{member}
use Rattle.mx_sync_json.specs.Objects.{account_form}
use Rattle.mx_sync_json.specs.Receipts.{ephemeral_form}
use Rattle.mx_sync_json.proofs.Named.{behind_receipts}
use Rattle.mx_sync_json.proofs.Puts.{three}
use Rattle.mx_sync_json.proofs.rooms.put_data_and_state.Goals as goal

pub put-requires-3 : goal.put-requires-3
put-requires-3 c =
    c.in_ok-put-2.ensures.next c.state_name.result.now
    (ap (λ (k : List ℕ). is_lt (slice_cmp nat_cmp (codes "ephemeral") k)) c.state_name.ensures ∙ behind_receipts c.args.room.now.after)

pub returns : goal.returns
returns c =
    let account = c.in_ok-account.ensures ∙ ap account_form c.account_of.ensures in
    let ephemeral = c.in_ok-ephemeral.ensures ∙ ap (ephemeral_form c.args.to.now.server.now) c.receipts_of.ensures in
    three (member (codes "account_data") c.in_ok-account.account) (member (codes "ephemeral") c.in_ok-ephemeral.ephemeral)
    (member c.state_name.result.now c.in_ok-state.state)
    c.args.members.now c.put.new.members c.put-2.new.members c.put-3.new.members c.requires c.in_ok-put.ensures.put c.in_ok-put-2.ensures.put c.in_ok-put-3.ensures.put
    ∙ (λ i. member (codes "account_data") (account i) ∷ member (codes "ephemeral") (ephemeral i) ∷ member (c.state_name.ensures i) (c.in_ok-state.ensures i) ∷ [])
