-- The chain over the answers of several runs is one over exchanges of the last.
use Rattle.std.proofs.Common.{ℕ, List, [], ◌∷◌, None, map, sym, ap, ◌∙◌, subst}
use Rattle.std.specs.Prelude.{IfSome}
use Rattle.std.specs.Option.{option_map}
use Rattle.mx_ids.specs.User.{server_of}
use Rattle.mx_filter.specs.declared.parts.Selection.{Selection}
use Rattle.mx_fold.specs.Anywhere.{PagesReach}
use Rattle.mx_fold.specs.Clients.{Agrees, chain}
use Rattle.mx_fold.specs.Lists.{Histories, lists_of}
use Rattle.mx_fold.proofs.Folding as law
use Rattle.mx_refold.specs.Clients.{redacted_client}
use Rattle.mx_refold.proofs.Exchanges as redacting
use Rattle.mx_rest.proofs.Sections.{section_law}
use Rattle.mx_sync.specs.Replies.{server_for}
use Rattle.mx_chains.specs.Chains.{marks_of}
use Rattle.mx_chains.proofs.Chaining.{all_asks, chain_same, reach_same}
use Rattle.mx_restarts.specs.Restarts.{AreEarlier, IsEarlier, IsLast, RestartsAgree, RestartsRedact, Run, exchanges_in, exchanges_over}
use Rattle.mx_restarts.proofs.Joining.{ComesTo, come_to, exchanges_there, mark_there}

module _ (begun : Histories) (last : Run) (end : IsLast begun last) (user : List ℕ) (device : ℕ) (f : Selection) where
  earlier_comes : (run : Run) → IsEarlier begun run → ComesTo (server_for user) last.lists device f (exchanges_in user device run)
  earlier_comes run earlier =
      let asked = all_asks run.site run.lists earlier.is.lawful user device run.requests run.answers in
      let marks = marks_of run.requests run.answers in
      let there = sym (exchanges_there run.lists begun last.lists end.in_place earlier.kept end.grows (server_for user) asked marks) in
      record {
        asked = asked;
        marks = map (mark_there run.lists begun last.lists end.in_place earlier.kept end.grows) marks;
        chains = λ client.
            chain_same run.site run.lists earlier.is.lawful user device f run.requests run.answers earlier.is.answers client
            ∙ ap (chain (server_for user) device f client) there;
        reaches = λ client reach.
            subst (PagesReach (server_for user) device f client) there
            (reach_same run.site run.lists earlier.is.lawful user device f run.requests run.answers earlier.is.answers client reach);
      }

  last_comes : ComesTo (server_for user) last.lists device f (exchanges_in user device last)
  last_comes = record {
    asked = all_asks last.site last.lists end.is.lawful user device last.requests last.answers;
    marks = marks_of last.requests last.answers;
    chains = λ client. chain_same last.site last.lists end.is.lawful user device f last.requests last.answers end.is.answers client;
    reaches = λ client reach. reach_same last.site last.lists end.is.lawful user device f last.requests last.answers end.is.answers client reach;
  }

  all_come : (runs : List Run) → AreEarlier begun runs → ComesTo (server_for user) last.lists device f (exchanges_over user device runs last)
  all_come [] are = last_comes
  all_come (run ∷ runs) are =
      come_to (server_for user) last.lists device f (exchanges_in user device run) (exchanges_over user device runs last)
      (earlier_comes run are.0) (all_come runs are.1)

pub restarts_redact : RestartsRedact
restarts_redact runs begun last are end user device f folds =
    let whole = all_come begun last end user device f runs are in
    subst (λ client. IfSome (option_map (redacted_client (server_for user) user f) client) (Agrees (server_for user) user f (lists_of last.lists)))
    (sym (whole.chains None))
    (redacting.clients_redact (server_for user) last.lists end.is.lawful (section_law (server_of user) (λ d. user) (lists_of last.lists))
    whole.asked whole.marks device f folds)

pub restarts_agree : RestartsAgree
restarts_agree runs begun last are end user device f folds reach =
    let whole = all_come begun last end user device f runs are in
    subst (λ client. IfSome client (Agrees (server_for user) user f (lists_of last.lists))) (sym (whole.chains None))
    (law.clients_agree (server_for user) last.lists end.is.lawful (section_law (server_of user) (λ d. user) (lists_of last.lists))
    whole.asked whole.marks device f folds (whole.reaches None reach))
