-- The reply to GET /rooms/{roomId}/messages (Client-Server API, Getting events for a room).
use Rattle.std.specs.Prelude.{ℕ, true, List, ◌∷◌, ◌++◌, map, option_map, codes}
use Rattle.mx_ids.specs.Sync.{sync_text}
use Rattle.mx_ids.specs.Page.{page_text}
use Rattle.mx_ids.specs.declared.page_token.PageToken.{PageToken}
use Rattle.mx_json.specs.declared.value.Json.{Json}
use Rattle.mx_json.specs.declared.value.Json.TheVariants as json
use Rattle.mx_event.specs.Forms.{client_form, member, member_if}
use Rattle.mx_event.specs.declared.event.Shown.{Shown}
use Rattle.mx_pager.specs.declared.asked.Bound.{Bound}
use Rattle.mx_pager.specs.declared.asked.Bound.TheVariants as bound
use Rattle.mx_pager.specs.declared.sent.Page.{Page}

abbrev pub bound_text : Bound → List ℕ
bound_text (bound.Sync t) = sync_text t
bound_text (bound.Page t) = page_text t

-- events, each with its room's id
abbrev pub events_form : List ℕ → ℕ → List Shown → Json
events_form server device events = json.List (map (client_form server true device) events)

abbrev pub page_form : List ℕ → ℕ → Page → Json
page_form server device p = json.Object (
    member (codes "chunk") (events_form server device p.chunk)
    ∷ (member_if (codes "end") (option_map (λ (t : PageToken). json.Text (page_text t)) p.end)
    ++ (member (codes "start") (json.Text (bound_text p.start))
    ∷ member_if (codes "state") (option_map (events_form server device) p.members))))
