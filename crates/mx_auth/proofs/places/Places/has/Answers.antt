use Rattle.std.proofs.Common.{ap, not, sym, ◌==◌, ◌∙◌, length, filter}
use Rattle.mx_window.proofs.Each.{list_any-map}
use Rattle.mx_auth.specs.Placing.{Place, PlaceList, any_place, is_sent_at, place_of}
use Rattle.mx_auth.proofs.Sorted.{any_kept}
use Rattle.mx_auth.proofs.places.Places.has.Goals as goal

pub returns : goal.returns
returns c =
    let at = c.args.at in
    let ss = c.self.inside.items.items in
    ap not c.is_empty.ensures ∙ ap (λ ps. not (length ps == 0)) (c.those_at.ensures ∙ ap (filter (is_sent_at at)) c.as_slice.ensures.value) ∙ any_kept (is_sent_at at) ss
    ∙ sym (list_any-map (λ (p : Place). at == p.at) (place_of c.self.inside.senders.names) ss) ∙ ap (λ (l : PlaceList). any_place (λ p sender. at == p) l.items) c.self.view_is
