use Rattle.std.proofs.Common.{ap, sym, ◌==◌, ◌&&◌, ◌∙◌, [], filter, get_or}
use Rattle.std.specs.List.{list_any}
use Rattle.std.specs.Str.{bytes_eq}
use Rattle.mx_window.proofs.Each.{list_any-map}
use Rattle.mx_auth.specs.Placing.{Place, PlaceList, any_place, is_sent_at, place_of}
use Rattle.mx_auth.specs.declared.places.SentAt.{SentAt}
use Rattle.mx_auth.proofs.Sorted.{any_of}
use Rattle.mx_auth.proofs.places.Places.has_by.Goals as goal

pub returns : goal.returns
returns c =
    let at = c.args.at in
    let user = c.args.user.now in
    let names = c.self.inside.senders.names in
    let ss = c.self.inside.items.items in
    let by = λ (s : SentAt). bytes_eq (get_or names s.by []) user in
    c.any_by.ensures ∙ ap (list_any by) (c.those_at.ensures ∙ ap (filter (is_sent_at at)) c.as_slice.ensures.value) ∙ any_of by (is_sent_at at) ss
    ∙ sym (list_any-map (λ (p : Place). (at == p.at) && bytes_eq p.sender user) (place_of names) ss)
    ∙ ap (λ (l : PlaceList). any_place (λ p sender. (at == p) && bytes_eq sender user) l.items) c.self.view_is
