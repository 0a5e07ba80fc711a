-- *Client*, *Chain* and *Agrees*.
use Rattle.std.specs.Prelude.{◌≡◌, ℕ, ◌&&◌, Bool, cond, max, nat_eq, List, [], ◌∷◌, Option, Some, None}
use Rattle.std.specs.Option.{option_map, option_or, option_and_then}
use Rattle.mx_ids.specs.declared.room_id.RoomId.{RoomId}
use Rattle.mx_ids.specs.declared.sync_token.SyncToken.{SyncToken}
use Rattle.mx_json.specs.declared.value.Json.{Json}
use Rattle.mx_event.specs.Lawful.{same_room}
use Rattle.mx_event.specs.declared.event.Event.{Event}
use Rattle.mx_folding.specs.Parts.{Page, Gap}
use Rattle.mx_folding.specs.Clients.{Entry, Held, Open, ClientRoom, with_page}
use Rattle.mx_folding.specs.Stories.{position, Holding, with_told}
use Rattle.mx_folding.specs.Chains.{Opening}
use Rattle.mx_view.specs.Rooms.{Key}
use Rattle.mx_view.specs.Tokens.{tokens, same_token}
use Rattle.mx_filter.specs.Sieves as sieves
use Rattle.mx_filter.specs.declared.parts.Selection.{Selection}
use Rattle.mx_fold.specs.Lists.{Lists, no_lists, fronts_of}
use Rattle.mx_fold.specs.Servers.{Server, story}
use Rattle.mx_fold.specs.Accounts.{content_at, account_at}
use Rattle.mx_fold.specs.Pictures.{HoldsPicture}
use Rattle.mx_fold.specs.Replies.{PageAsk, Reply, Said, Replied, Showed, PassedOver, asked_gap}

-- *Client*. `front` is the greatest event front of its token and of the pages so far, which a client needn't keep.
pub record Client (V : Type 0) : Type 0 where
  pub token : SyncToken
  pub front : ℕ
  pub rooms : RoomId → Holding Event Key V
  pub account : List ℕ → Option Json

abbrev pub nothing_held : (V : Type 0) → RoomId → Holding Event Key V
nothing_held V room = record { joined = None; invited = None }

abbrev pub same_gap : Gap → Gap → Bool
same_gap g h = nat_eq g.lower h.lower && (nat_eq g.upper h.upper && nat_eq g.front h.front)

-- where a gap stands in a timeline
abbrev pub find_gap : {E : Type 0} → Gap → List (Entry E) → Option (Opening E)
find_gap gap [] = None
find_gap gap (Held c ∷ es) = option_map (λ (o : Opening _). record o { before = Held c ∷ o.before }) (find_gap gap es)
find_gap gap (Open found ∷ es) =
    cond (same_gap found gap) (Some (record { before = []; gap = found; behind = es }))
    (option_map (λ (o : Opening _). record o { before = Open found ∷ o.before }) (find_gap gap es))

module _ {V D : Type 0} (w : Server V D) (user : List ℕ) (f : Selection) where
  -- apply_reply; no list is read for what a client does
  abbrev pub after_reply : Option SyncToken → ℕ → (RoomId → Holding Event Key V) → (List ℕ → Option Json) → Bool → Reply V D → Client V
  after_reply since front rooms account after reply = record {
    token = reply.next;
    front = max front reply.next.e;
    rooms = λ room. with_told (story w no_lists user f room) after (position tokens since) reply.next.e (reply.rooms room) (rooms room);
    account = λ kind. option_or (content_at kind reply.account) (account kind);
  }

  -- a reply without `since` begins anew; one to the client's token is applied; another is passed over
  abbrev pub with_reply : Option (Client V) → Option SyncToken → Bool → Reply V D → Option (Client V)
  with_reply client None after reply = Some (after_reply None 0 (nothing_held V) (λ kind. None) after reply)
  with_reply None (Some since) after reply = None
  with_reply (Some c) (Some since) after reply =
      cond (same_token c.token since) (Some (after_reply (Some since) c.front c.rooms c.account after reply)) (Some c)

  abbrev pub page_into : RoomId → Opening Event → Page Event → Holding Event Key V → Holding Event Key V
  page_into room o page had = record {
    joined = option_map (λ (p : ClientRoom Event Key × V).
        (with_page (story w no_lists user f room).room o.gap o.before o.behind page p.0.state, p.1)) had.joined;
    invited = had.invited;
  }

  -- apply_page, judged at a front
  abbrev pub after_page : ℕ → RoomId → Client V → Opening Event → Page Event → Client V
  after_page front room c o page = record {
    token = c.token;
    front = max c.front front;
    rooms = λ other. cond (same_room other room) (page_into other o page (c.rooms other)) (c.rooms other);
    account = c.account;
  }

  -- where the gap that a page was asked for stands open
  abbrev pub opening_of : PageAsk → Holding Event Key V → Option (Opening Event)
  opening_of ask had = option_and_then (λ (p : ClientRoom Event Key × V). find_gap (asked_gap ask) p.0.timeline) had.joined

  -- a page of an open gap is applied; another is passed over
  abbrev pub with_gap : ℕ → RoomId → Client V → Page Event → Option (Opening Event) → Client V
  with_gap front room c page None = c
  with_gap front room c page (Some o) = after_page front room c o page

  abbrev pub with_shown : ℕ → PageAsk → Page Event → Option (Client V) → Option (Client V)
  with_shown front ask page client = option_map (λ (c : Client V). with_gap front ask.room c page (opening_of ask (c.rooms ask.room))) client

  -- the client after an answer to its device
  abbrev pub with_said : ℕ → Said V D → Option (Client V) → Option (Client V)
  with_said front (Replied ask reply) client = cond (sieves.same_filter ask.filter f) (with_reply client ask.since ask.extent.after reply) client
  with_said front (Showed ask page) client = cond (sieves.fits f ask.filter) (with_shown front ask page client) client
  with_said front PassedOver client = client

-- the device that asked, the lists at the mark, and what was answered
pub record Exchange (V D : Type 0) : Type 0 where
  pub device : ℕ
  pub lists : Lists
  pub said : Said V D

-- *Chain*: the client of a device and a filter after these exchanges, from what it was before them
abbrev pub chain : {V D : Type 0} → Server V D → ℕ → Selection → Option (Client V) → List (Exchange V D) → Option (Client V)
chain w device f client [] = client
chain w device f client (x ∷ xs) =
    chain w device f (cond (nat_eq x.device device) (with_said w (w.user_of device) f (fronts_of x.lists).e x.said client) client) xs

-- *Agrees*: the client holds what the picture at its token has
pub record Agrees {V D : Type 0} (w : Server V D) (user : List ℕ) (f : Selection) (lists : Lists) (c : Client V) : Type 0 where
  pub rooms : (room : RoomId) → HoldsPicture w lists user f c.token c.front room (c.rooms room)
  pub account : (kind : List ℕ) → c.account kind ≡ account_at w lists.accounts user f c.token.a kind
