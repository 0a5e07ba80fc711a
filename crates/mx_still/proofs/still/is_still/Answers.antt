use Rattle.std.proofs.Common.{◌≡◌, ◌≤◌, ◌∙◌, ℕ, List, ap, sym, subst, arith}
use Rattle.std.proofs.lemmas.Bool.{le-leb}
use Rattle.mx_account.specs.Entries as account
use Rattle.mx_event.specs.declared.event.Event.{Event}
use Rattle.mx_receipt.specs.declared.receipt.Receipt.{Receipt}
use Rattle.mx_rest.specs.Servers.{lists_of}
use Rattle.mx_snapshot.specs.Accounts.{is_users}
use Rattle.mx_snapshot.specs.Looks.{last_position}
use Rattle.mx_still.specs.Concerns.{any_behind, has_member}
use Rattle.mx_still.proofs.Late.{first_late, still, then_early}
use Rattle.mx_still.proofs.still.is_still.Goals as goal
use Rattle.mx_still.proofs.still.is_still.Goals.{then-is_concerned, else-is_concerned}

pub returns : goal.returns
returns c =
    let lists = lists_of c.args.snapshot.now in
    let of_event = λ (e : Event). has_member c.args.user.now lists e.room in
    let of_receipt = λ (x : Receipt). has_member c.args.user.now lists x.room in
    let late = c.is_concerned in
    let last_in : List ℕ → ℕ = λ user. last_position account.position_of (is_users user) lists.accounts in
    let found : c.if-is_concerned.result ≡ any_behind c.args.user.now lists c.min.result c.min-2.result =
    elim c.if-is_concerned.branch [
      | then-is_concerned w ↦ w.result-is ∙ w.if-is_concerned.true
          ∙ sym (first_late of_event of_receipt lists.events lists.receipts c.front.result c.front-2.result c.latest.result c.latest-2.result c.min.result c.min-2.result late.result c.latest.ensures.later c.latest-2.ensures.later w.if-is_concerned.true late.ensures)
      | else-is_concerned w ↦ w.result-is
          ∙ then_early of_event of_receipt lists.events lists.receipts c.front.result c.front-2.result c.latest.result c.latest-2.result c.min.result c.min-2.result w.is_concerned-else-is_concerned.result late.result (omega arith) (omega arith) w.if-is_concerned.false late.ensures w.is_concerned-else-is_concerned.ensures
    ] in
    still of_event of_receipt lists.events lists.receipts c.args.after.now.e c.args.after.now.r c.min.result c.min-2.result c.if-is_concerned.result _
    (omega arith) (omega arith) (λ less. omega (arith, less)) (omega arith) (omega arith) (λ less. omega (arith, less)) found
    (le-leb (last_in c.args.user.now) c.args.after.now.a (subst (λ n. n ≤ c.args.after.now.a) (c.last_in.ensures ∙ ap last_in c.as_str.ensures.text) (omega arith)))
