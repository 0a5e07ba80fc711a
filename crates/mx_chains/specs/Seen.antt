-- Each event of a page is visible, whatever the page's bounds and its direction.
use Rattle.std.specs.Prelude.{◌≡◌, ℕ, List, [], ◌∷◌, Option, Some, None, IfSome, ⊤}
use Rattle.std.specs.List.{AllByRecursion}
use Rattle.mx_ids.specs.declared.room_id.RoomId.{RoomId}
use Rattle.mx_fold.specs.Lists.{Histories, Lists, events_in, fronts_of, lists_of}
use Rattle.mx_fold.specs.Sent.{IsSeen}
use Rattle.mx_pager.specs.Laws.{events_shown}
use Rattle.mx_ask.specs.declared.ask.Ask.{Ask}
use Rattle.mx_ask.specs.declared.ask.Ask.TheVariants as ask
use Rattle.mx_ask.specs.declared.ask.Request.{Request}
use Rattle.mx_ask.specs.declared.ask.Who.{Who}
use Rattle.mx_ask.specs.declared.said.Said.{Said}
use Rattle.mx_ask.specs.declared.said.Said.TheVariants as said
use Rattle.mx_engine.specs.Aims.Asked.{Site, room_of}
use Rattle.mx_engine.specs.Answers.{counts}
use Rattle.mx_engine.specs.Exchanges.{first_of}
use Rattle.mx_engine.specs.declared.answered.Answered.{Answered}

-- where a page is asked: the room that its text names
abbrev pub paged_room : Site → Ask → Option (Option RoomId)
paged_room site (ask.Messages room backward from to limit filter) = Some (room_of site room)
paged_room site other = None

-- where a page is told, each of its events is one of the room, as it is shown at the front of these lists, and the user may see it there
abbrev pub SeesIn : Lists → List ℕ → Option RoomId → Said → Type 0
SeesIn l user named (said.Paged p) = (room : RoomId) × (named ≡ Some room) × AllByRecursion (IsSeen user (events_in l room) (fronts_of l).e) (events_shown p.chunk)
SeesIn l user named other = ⊤

abbrev pub SeesPage : Site → Lists → Who → Ask → Said → Type 0
SeesPage site l who asked told = IfSome (paged_room site asked) (λ named. SeesIn l who.user named told)

-- so it is of each answer, over the lists at its mark
abbrev pub PagesSee : Site → Histories → List Request → List Answered → Type 0
PagesSee site all [] answers = ⊤
PagesSee site all (r ∷ rs) [] = ⊤
PagesSee site all (r ∷ rs) (a ∷ answers) = SeesPage site (lists_of (first_of all (counts a.mark))) r.who r.ask a.said × PagesSee site all rs answers
