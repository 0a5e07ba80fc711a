-- Where the stores of a connection stand, by its marks.
use Rattle.std.specs.Prelude.{◌≡◌, ℕ, List, [], ◌∷◌}
use Rattle.mx_http.specs.declared.call.Call.{Call}
use Rattle.mx_fold.specs.Lists.{Histories}
use Rattle.mx_poll.specs.Acts.Acts.{asked}
use Rattle.mx_poll.specs.Aims.Asked.{Site}
use Rattle.mx_poll.specs.OfEngine.Answers.{Stops}
use Rattle.mx_poll.specs.OfEngine.Mark.{Mark}
use Rattle.mx_poll.specs.OfEngine.Places.{HasAll, IsAlone, Places, firsts_of, followed_by, nowhere, places_for}
use Rattle.mx_serve.specs.Asked.{call_asked}
use Rattle.mx_serve.specs.Sessions.{IsServed, Moment}
use Rattle.mx_serve.specs.declared.call_asked.CallAsked.{CallAsked}
use Rattle.mx_serve.specs.declared.call_asked.CallAsked.TheVariants as call
use Rattle.mx_serve.specs.declared.ended.End.{End}

-- where an answer of this mark stored, where the engine is asked
abbrev pub places_by : Site → CallAsked → Mark → Places
places_by site call.Options m = nowhere
places_by site call.Versions m = nowhere
places_by site (call.Refused r) m = nowhere
places_by site (call.Request r) m = places_for (asked site m.now r.who r.ask) m

-- all these calls with their marks, in order
abbrev pub places_over : Site → List Call → List Mark → Places
places_over site [] marks = nowhere
places_over site (c ∷ calls) [] = nowhere
places_over site (c ∷ calls) (m ∷ marks) = followed_by (places_by site (call_asked site.users c) m) (places_over site calls marks)

-- Nobody else stored: in each stream the stores that came are those that the marks tell as their own write or as `marker`, in order, and no
-- others. A store is told by its first position, which no other store of its stream has
abbrev pub AreOwn : Site → Histories → Histories → List Call → List Mark → Type 0
AreOwn site old new calls marks = firsts_of new ≡ followed_by (firsts_of old) (places_over site calls marks)

-- This holds of a connection by a pass from which none was split off on the way to it
abbrev pub StoresAreOwn : Type 0
StoresAreOwn = (site : Site) (stops : Stops) (limit : ℕ) (old new : Moment) (calls : List Call) (marks : List Mark) (ended : End) → IsServed site stops limit old new calls marks ended
    → HasAll old.tally.made old.lists → HasAll new.tally.made new.lists → IsAlone old.tally.made → AreOwn site old.lists new.lists calls marks
