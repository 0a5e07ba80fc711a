-- What is read of a page.
use Rattle.std.proofs.Common.{◌≡◌, ℕ, true, List, ◌∷◌, ◌++◌, map, Option, Some, option_map, option_and_then, codes, refl, ap, ◌∙◌}
use Rattle.mx_ids.specs.Page.{page_text}
use Rattle.mx_ids.specs.declared.page_token.PageToken.{PageToken}
use Rattle.mx_json.specs.Fields.{text_of}
use Rattle.mx_json.specs.Keys.{value_at}
use Rattle.mx_json.specs.declared.members.Member.{Member}
use Rattle.mx_json.specs.declared.value.Json.{Json}
use Rattle.mx_json.specs.declared.value.Json.TheVariants as json
use Rattle.mx_event.specs.Forms.{client_form, member, member_if}
use Rattle.mx_pager.specs.Forms.{bound_text, events_form}
use Rattle.mx_pager.specs.declared.asked.Bound.{Bound}
use Rattle.mx_pager.specs.declared.asked.Bound.TheVariants as bound
use Rattle.mx_copy.specs.Events.{ClientEvent, event_of}
use Rattle.mx_copy.specs.Laws.{PagesReadBack}
use Rattle.mx_copy.specs.Looks.{listed, seen_if}
use Rattle.mx_copy.specs.Pages.{page_in}
use Rattle.mx_copy.specs.Sent.{page_sent, place_text}
use Rattle.mx_copy.specs.Shown.{client_event}
use Rattle.mx_copy.proofs.Events.{events_read_back}
use Rattle.mx_copy.proofs.Looks.{held, last_held, last_passed, listed_back, next, object_back, passed, seen_as, text_back}

module _ (chunk : List Json) (start : List ℕ) (end state : Option Json) where
  abbrev pub members : List (Member Json)
  members =
      member (codes "chunk") (json.List chunk)
      ∷ (member_if (codes "end") end ++ (member (codes "start") (json.Text start) ∷ member_if (codes "state") state))

  start_there : value_at (codes "start") members ≡ Some (json.Text start)
  start_there = passed (codes "start") (codes "end") end _ refl

  end_there : value_at (codes "end") members ≡ end
  end_there = held (codes "end") end _ refl (last_passed (codes "end") (codes "state") state refl)

  state_there : value_at (codes "state") members ≡ state
  state_there = passed (codes "state") (codes "end") end _ refl ∙ last_held (codes "state") state refl

  page_there : (events : List ClientEvent) (place : Option (List ℕ)) (sent : Option (List ClientEvent)) → listed event_of (json.List chunk) ≡ Some events → seen_if text_of end ≡ Some place
      → seen_if (listed event_of) state ≡ Some sent → page_in members ≡ Some (record { start = start; end = place; chunk = events; state = sent })
  page_there events place sent chunk_is end_is state_is =
      next _ _ start _ (ap (option_and_then text_of) start_there ∙ text_back start)
      (next _ _ place _ (ap (seen_if text_of) end_there ∙ end_is)
      (next _ _ events _ chunk_is
      (next _ _ sent _ (ap (seen_if (listed event_of)) state_there ∙ state_is) refl)))

start_same : (b : Bound) → bound_text b ≡ place_text b
start_same (bound.Sync t) = refl
start_same (bound.Page t) = refl

pub pages_read_back : PagesReadBack
pages_read_back server device p =
    let events = listed_back event_of (client_form server true device) (client_event server true device) (events_read_back server true device) in
    ap (option_and_then page_in) (object_back _)
    ∙ page_there (map (client_form server true device) p.chunk) (bound_text p.start)
    (option_map (λ (t : PageToken). json.Text (page_text t)) p.end) (option_map (events_form server device) p.members) _ (option_map page_text p.end) _
    (events p.chunk)
    (seen_as text_of (λ (t : PageToken). json.Text (page_text t)) page_text (λ t. text_back (page_text t)) p.end)
    (seen_as (listed event_of) (events_form server device) (map (client_event server true device)) events p.members)
    ∙ ap (λ text. Some (record (page_sent server device p) { start = text })) (start_same p.start)
