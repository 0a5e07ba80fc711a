-- The connections that a server served.
use Rattle.std.specs.Prelude.{◌≡◌, ℕ, ◌+◌, List, [], Option, length}
use Rattle.std.specs.List.{AllByRecursion}
use Rattle.atomic_table.specs.Seated.{TableId}
use Rattle.mx_serve.specs.Aims.Asked.{Site}
use Rattle.mx_serve.specs.OfEngine.Answers.{Stops, counts_of, stops_at}
use Rattle.mx_serve.specs.OfEngine.Shown.{IsKnown, known_of, site_of, stops_of, stores_of}
use Rattle.mx_serve.specs.OfEngine.Mark.{Mark}
use Rattle.mx_serve.specs.OfEngine.Engine.{Engine}
use Rattle.mx_serve.specs.OfEngine.EnginePass.{EnginePass}
use Rattle.mx_fold.specs.Lists.{Grows, Histories}
use Rattle.mx_front.specs.Shown.{place_of, place_of_pass}
use Rattle.mx_http.specs.declared.call.Call.{Call}
use Rattle.mx_serve.specs.Rooms.{AreValid}
use Rattle.mx_serve.specs.Sessions.{InputFaults, IsServed, OutputFaults, moment}
use Rattle.mx_serve.specs.Tallies.{Tally}
use Rattle.mx_serve.specs.Together.{Session}
use Rattle.mx_serve.specs.declared.ended.End.{End}
use Rattle.mx_serve.specs.declared.server.Server.{Server}
use Rattle.mx_writers.specs.declared.gate.Gate.{Ghosts}
use Rattle.mx_serve.specs.OfEngine.Outer.{EntryFolds, EntryPlacing, EventFolds, EventPlacing, ReceiptFolds, ReceiptPlacing}

-- a value before and after
pub record Change (A : Type 0) : Type 0 where
  pub before : A
  pub after : A

abbrev pub change : {A : Type 0} → A → A → Change A
change before after = record { before = before; after = after }

-- what the ends of a connection tell: the bytes left of its source and those written to its sink, and the counts of faults of both
pub record Ends : Type 0 where
  pub left : Option (List ℕ)
  pub written : Option (List ℕ)
  pub read_faults : ℕ
  pub write_faults : ℕ

abbrev pub ends : Option (List ℕ) → Option (List ℕ) → ℕ → ℕ → Ends
ends left written reads writes = record { left = left; written = written; read_faults = reads; write_faults = writes }

abbrev pub ends_by : {A B : Type 0} → (A → Option (List ℕ)) → (B → Option (List ℕ)) → (A → ℕ) → (B → ℕ) → A × B → Ends
ends_by left written reads writes p = ends (left p.0) (written p.1) (reads p.0) (writes p.1)

-- what a clock tells: its last reading, and its readings so far
pub record Clocked : Type 0 where
  pub last : ℕ
  pub readings : List ℕ

abbrev pub clocked : ℕ → List ℕ → Clocked
clocked last readings = record { last = last; readings = readings }

-- a connection that has ended: its calls with their marks and how it ended, and what its ends told, what its pass had seen, what its
-- clock had read last, and what was made, looked at and read at its beginning and at its end
pub record Connected : Type 0 where
  pub calls : List Call
  pub marks : List Mark
  pub ended : End
  pub told : Change Ends
  pub seen : Change Histories
  pub reading : Change ℕ
  pub tally : Change Tally

-- where the streams of an engine lie
pub record Places : Type 0 where
  pub events : TableId
  pub receipts : TableId
  pub accounts : TableId

-- what a server is: for whom it serves, the stops of its streams, and how many requests a connection has
pub record Service : Type 0 where
  pub site : Site
  pub stops : Stops
  pub limit : ℕ

-- the connection was served so, from ends of this kind, and what its pass has seen begins these lists
pub record IsConnected (service : Service) (IsKind : Ends → Type 0) (all : Histories) (c : Connected) : Type 0 where
  pub kind : IsKind c.told.before
  pub served : IsServed service.site service.stops service.limit
      (moment [] c.told.before.left c.told.before.written c.seen.before c.reading.before c.tally.before)
      (moment [] c.told.after.left c.told.after.written c.seen.after c.reading.after c.tally.after) c.calls c.marks c.ended
  pub read_faults : InputFaults c.ended c.told.before.read_faults c.told.after.read_faults
  pub write_faults : OutputFaults c.ended c.told.before.write_faults c.told.after.write_faults
  pub valid : AreValid c.seen.after c.marks
  pub begins : Grows c.seen.after all

-- so many were
abbrev pub HaveServed : Service → (Ends → Type 0) → Histories → ℕ → Type 0
HaveServed service IsKind all n = (cs : List Connected) × (length cs ≡ n) × AllByRecursion (IsConnected service IsKind all) cs

-- one fewer was than are counted
abbrev pub IsOwed : Service → (Ends → Type 0) → Histories → ℕ → Type 0
IsOwed service IsKind all counted = (n : ℕ) × (counted ≡ n + 1) × HaveServed service IsKind all n

-- its calls with their marks
abbrev pub session_of : Connected → Session
session_of c = record { before = counts_of c.seen.before; calls = c.calls; marks = c.marks; seen = c.seen.after }

-- the pass is one of the streams that lie there, and what it keeps begins what it has seen
pub record IsPassAt (places : Places) (p : EnginePass) : Type 0 where
  pub events : place_of_pass p.events.pass ≡ places.events
  pub receipts : place_of_pass p.receipts.pass ≡ places.receipts
  pub accounts : place_of_pass p.accounts.pass ≡ places.accounts
  pub known : IsKnown p.known (known_of p) (stores_of p)

module _ {G Ev Re Ac : Type 0} {g : Ghosts G} {fe : EventFolds Ev} {pe : EventPlacing} {fr : ReceiptFolds Re} {pr : ReceiptPlacing} {fa : EntryFolds Ac} {pa : EntryPlacing} where
  abbrev pub places_of : Engine G Ev Re Ac g fe pe fr pr fa pa → Places
  places_of e = record { events = place_of e.events.stream; receipts = place_of e.receipts.stream; accounts = place_of e.accounts.stream }

module _ {G Ev Re Ac : Type 0} {g : Ghosts G} {fe : EventFolds Ev} {fr : ReceiptFolds Re} {fa : EntryFolds Ac} where
  abbrev pub service_of : Server G Ev Re Ac g fe fr fa → Service
  service_of s = record { site = site_of s.engine; stops = stops_of s.engine; limit = s.limit }

  -- the server is one of these, and its streams lie there
  pub record IsServerAt (service : Service) (places : Places) (s : Server G Ev Re Ac g fe fr fa) : Type 0 where
    pub service_is : service_of s ≡ service
    pub places_are : places_of s.engine ≡ places

-- those of a type that names none
abbrev pub no_table : TableId
no_table = record { words = 0; slots = 0; views_name = 0; atom = 0; block = 0; offset = 0; slot_names = [] }

abbrev pub no_places : Places
no_places = record { events = no_table; receipts = no_table; accounts = no_table }

abbrev pub no_service : Service
no_service = record {
  site = record { users = record { server = []; users = []; devices = [] }; writers = 0 };
  stops = stops_at 0;
  limit = 0;
}
