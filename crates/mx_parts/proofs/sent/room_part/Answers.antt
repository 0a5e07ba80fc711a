use Rattle.std.proofs.Common.{◌&&◌, ◌||◌, ◌++◌, cond, map, refl, ap, subst, sym, ◌∙◌}
use Rattle.mx_folding.specs.Parts.{is_cons}
use Rattle.mx_lazy.specs.Picks.{pick_of}
use Rattle.mx_lazy.specs.declared.picker.Picker.{Picker}
use Rattle.mx_snapshot.specs.Looks.{all_now}
use Rattle.mx_parts.specs.Picks.{hero_pair, key_pair, sender_pair}
use Rattle.mx_parts.specs.Readings.{room_in}
use Rattle.mx_parts.specs.Sections.{AreListed, cut_of, section_of}
use Rattle.mx_parts.specs.Shows.{all_shown}
use Rattle.mx_parts.proofs.Early.{names_all}
use Rattle.mx_parts.proofs.Picked.{part_state}
use Rattle.mx_parts.proofs.Shown.{section_listed, state_listed}
use Rattle.mx_parts.proofs.sent.room_part.Goals as goal

pub state_part-requires-clause-names : goal.state_part-requires-clause-names
state_part-requires-clause-names c = λ yes.
    let v = c.args.reading.now in
    let p : Picker = record { pick = c.args.pick; lazy = v.filter.now.selection.lazy; user = v.user; heroes = c.args.heroes; senders = c.in_ok-senders.field-0 } in
    names_all p (all_now c.deref.result.now) c.deref-4.result.now c.in_ok-senders.ensures
    (ap (map key_pair) c.deref-4.ensures.value ∙ c.in_ok-keys.ensures yes
    ∙ ap (λ l. map sender_pair (all_now l) ++ map hero_pair c.args.heroes.now) (c.deref-3.ensures.value ∙ sym c.deref.ensures.value))

pub all_shown-requires-clause-listed : goal.all_shown-requires-clause-listed
all_shown-requires-clause-listed c =
    let v = c.args.reading.now in
    let w = c.args.window.now in
    let p : Picker = record { pick = c.args.pick; lazy = v.filter.now.selection.lazy; user = v.user; heroes = c.args.heroes; senders = c.in_ok-senders.field-0 } in
    let same = ap all_now c.deref.ensures.value ∙ c.in_ok-section.ensures.events in
    let state = part_state v w p (all_now c.deref.result.now) (all_now c.in_ok-state.state.items) c.in_ok-section.section.cut c.state_end-end.result refl refl
    c.in_ok-senders.ensures c.requires.stayed same c.in_ok-section.ensures.cut c.state_end-end.ensures
    c.names_some-named.result (c.names_some-named.ensures ∙ ap (λ l. v.filter.now.selection.lazy && (is_cons (all_now l) || is_cons c.args.heroes.now)) (c.deref-2.ensures.value ∙ sym c.deref.ensures.value)) c.in_ok-state.ensures in
    subst (AreListed v) (sym (ap all_now c.deref-5.ensures.value ∙ state))
    (state_listed v c.front-front.ensures.placed (pick_of (room_in v) c.args.heroes.now c.args.pick (section_of v w)) (cond w.after w.high (cut_of v w)))

pub all_shown-requires-2-clause-listed : goal.all_shown-requires-2-clause-listed
all_shown-requires-2-clause-listed c =
    subst (AreListed c.args.reading.now) (sym (ap all_now c.deref-6.ensures.value ∙ c.in_ok-section.ensures.events))
    (section_listed c.args.reading.now c.front-front.ensures.placed c.args.window.now)

pub returns : goal.returns
returns c =
    let v = c.args.reading.now in
    let w = c.args.window.now in
    let p : Picker = record { pick = c.args.pick; lazy = v.filter.now.selection.lazy; user = v.user; heroes = c.args.heroes; senders = c.in_ok-senders.field-0 } in
    let same = ap all_now c.deref.ensures.value ∙ c.in_ok-section.ensures.events in
    let picked = part_state v w p (all_now c.deref.result.now) (all_now c.in_ok-state.state.items) c.in_ok-section.section.cut c.state_end-end.result refl refl
    c.in_ok-senders.ensures c.requires.stayed same c.in_ok-section.ensures.cut c.state_end-end.ensures
    c.names_some-named.result (c.names_some-named.ensures ∙ ap (λ l. v.filter.now.selection.lazy && (is_cons (all_now l) || is_cons c.args.heroes.now)) (c.deref-2.ensures.value ∙ sym c.deref.ensures.value)) c.in_ok-state.ensures in
    let state = c.in_ok-all_shown.ensures ∙ ap (all_shown v) (ap all_now c.deref-5.ensures.value ∙ picked) in
    let timeline = c.in_ok-all_shown-2.ensures ∙ ap (all_shown v) (ap all_now c.deref-6.ensures.value ∙ c.in_ok-section.ensures.events) in
    λ i. record { limited = c.in_ok-section.ensures.limited i; cut = c.in_ok-section.ensures.cut i; state = state i; timeline = timeline i }
