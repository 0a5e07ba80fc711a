-- Plain rooms, which meet the premises, and what the law says of them.
use Rattle.std.proofs.Common.{◌≡◌, ℕ, ◌==◌, Bool, true, false, nat_le, List, [], ◌∷◌, Option, Some, None, refl, ap, sym, subst, arith, leb-true, cond, not, ◌↔◌}
use Rattle.std.proofs.lemmas.Bool.{false≢true}
use Rattle.mx_window.proofs.Each.{AllByRecursion-every}
use Rattle.mx_folding.specs.Sections.{window}
use Rattle.mx_folding.specs.Rooms.{Room, state_at}
use Rattle.mx_folding.specs.Visible.{Join}
use Rattle.mx_folding.specs.Parts.{part_of, picks_new}
use Rattle.mx_folding.specs.Clients.{ClientRoom, empty_room, with_part}
use Rattle.mx_folding.specs.Agreement.{RoomAgrees, is_owed}
use Rattle.mx_folding.specs.Stories.{Tokens, IsTokens, Rest, Story, In, StandingAgrees}
use Rattle.mx_folding.specs.Chains.{Turn, Synced}
use Rattle.mx_folding_needs.specs.Premises.{Asked, Item, If, OrderIf, KeysIf, RedactionIf, JoinedIf, RestIf, ChainsFoldIf}

abbrev pub at : ℕ → Item
at p = record { place = p; names = None; bare = false }

-- 3 redacts 2
abbrev pub naming : Item
naming = record { place = 3; names = Some 2; bare = false }

abbrev pub events : List Item
events = at 1 ∷ at 2 ∷ naming ∷ []

abbrev pub equal : Bool → Bool → Bool
equal true b = b
equal false b = not b

pub equal_is : (k l : Bool) → (equal k l ≡ true) ↔ (k ≡ l)
equal_is true true = (λ h. refl, λ h. refl)
equal_is true false = (λ h. sym h, λ h. sym h)
equal_is false true = (λ h. absurd (false≢true h), λ h. absurd (false≢true h))
equal_is false false = (λ h. refl, λ h. refl)

-- the first key, of events by their place
abbrev pub key_by : (ℕ → Bool) → ℕ → Option Bool
key_by has p = cond (has p) (Some true) None

-- an event is sent by its place, and has the first key by its place; nobody's member event has that key
abbrev pub room_of : (ℕ → Bool) → (ℕ → Bool) → Room Item Bool
room_of sent has = record {
  at = λ e. e.place;
  key = λ e. key_by has e.place;
  sender = λ e. false;
  own = false;
  member = λ k. true;
  same = equal;
  keeps = λ e. true;
  passes = λ k. true;
  sends = λ front e. sent e.place;
  red = λ e. record e { bare = true };
  names = λ e. e.names;
  lazy = false;
  stayed = λ b t. false;
}

abbrev pub rest_of : Rest ℕ ℕ ℕ
rest_of = record { view = λ t. 0; delta = λ i j. 0; changed = λ v d. v; differs = λ i j. false }

-- the user joins by the event at p
abbrev pub story : ℕ → Room Item Bool → Rest ℕ ℕ ℕ → Story Item Bool ℕ ℕ ℕ
story p room rest =
    record { room = room; events = events; is_own = λ e. e.place == p; membership = λ e. Some Join; stripped = λ e. []; picked = true; rest = rest }

abbrev pub tokens : Tokens ℕ
tokens = record { event = λ t. t; before = nat_le }

pub tokens_rise : IsTokens tokens
tokens_rise = record { rises = λ i j h. leb-true i j h }

abbrev pub synced : ℕ → ℕ → Turn (Unit {0}) Item Bool ℕ
synced limit j = Synced (record { after = false; limit = limit; full = false; redundant = false; leave = false }) (λ x k. false) j

asked : (b : Bool) {A : Type 0} → A → If b A
asked true x = x
asked false x = tt

pub in_order : (a : Asked) (r : Room Item Bool) → OrderIf a (record r { at = λ e. e.place; names = λ e. e.names }) events
in_order a r =
    record {
      ascends = asked a.ascends (omega arith, (omega arith, (omega arith, tt)));
      earlier = asked a.earlier
          (λ p h. absurd cc, (λ p h. absurd cc, (λ p h. let e : 2 ≡ p = cc in omega (arith, e), tt)));
    }

pub by_key : (a : Asked) (r : Room Item Bool) (key : Item → Option Bool)
    → KeysIf a (record r { key = key; same = equal; keeps = λ e. true; passes = λ k. true })
by_key a r key = record { keys = asked a.keys equal_is; kept = asked a.kept (λ k e h. refl) }

pub reds : (a : Asked) (r : Room Item Bool) (key : ℕ → Option Bool) (sender : ℕ → Bool)
    → RedactionIf a (record r {
      at = λ e. e.place;
      key = λ e. key e.place;
      sender = λ e. sender e.place;
      red = λ e. record e { bare = true };
      names = λ e. e.names;
    })
reds a r key sender =
    record {
      red_at = asked a.red_at (λ e. refl);
      red_key = asked a.red_key (λ e. refl);
      red_sender = asked a.red_sender
          (λ e. refl);
      red_names = asked a.red_names (λ e. refl);
      red_red = asked a.red_red (λ e. refl);
    }

pub joins : (a : Asked) (p : ℕ) (r : Room Item Bool) (rest : Rest ℕ ℕ ℕ) (sent : Item → Bool)
    → JoinedIf a (story p (record r { sends = λ front. sent; stayed = λ b t. false }) rest)
joins a p r rest sent =
    record {
      stayed_less = asked a.stayed_less (λ b s t h i e. e);
      stays = asked a.stays
          (λ s h t i. AllByRecursion-every _ (λ e. refl) _);
      kinds = asked a.kinds (λ h. refl, (λ h. refl, (λ h. refl, tt)));
      stayed = asked a.stayed
          (λ b s h e. absurd (false≢true e));
    }

pub rests : (a : Asked) (k : Tokens ℕ) (joined : ℕ → Bool) → RestIf a k joined rest_of
rests a k joined = record { folds = asked a.folds (λ i j h p q. refl); still = asked a.still (λ i j h p q e. refl) }

abbrev room_or : {E K V : Type 0} → ClientRoom E K → Option (ClientRoom E K × V) → ClientRoom E K
room_or room None = room
room_or room (Some p) = p.0

abbrev pub view_or : {E K V : Type 0} → V → Option (ClientRoom E K × V) → V
view_or view None = view
view_or view (Some p) = p.1

pub held_room : {E K V D T : Type 0} (k : Tokens T) (g : Story E K V D T) (b : ℕ) (i : T) (front : ℕ)
    (room : ClientRoom E K) (view : V) (invited : Option (List ℕ))
    → StandingAgrees k g b i front In (record { joined = Some (room, view); invited = invited }) → RoomAgrees g.room g.events b (k.event i) front room
held_room k g b i front room view invited h = subst (λ r. RoomAgrees g.room g.events b (k.event i) front r) (sym (ap (room_or room) h.2)) h.3

-- what the client holds at 3 that synced at 1, before the user joined, and then at 3
abbrev pub at_3 : Room Item Bool → ClientRoom Item Bool
at_3 r = with_part r false 0 3 (part_of r events 3 (window false 10 0 3) (picks_new r (λ k. false))) (empty_room Item Bool)

abbrev Law : Asked → Type 0
Law a = ChainsFoldIf a (Unit {0}) Item Bool ℕ ℕ ℕ

abbrev placed : Room Item Bool → Room Item Bool
placed r = record r { at = λ e. e.place }

pub agrees : (a : Asked) → Law a → (r : Room Item Bool) → OrderIf a (placed r) events → KeysIf a (placed r)
    → RedactionIf a (placed r) → JoinedIf a (story 3 (placed r) rest_of)
    → RoomAgrees (placed r) events 1 3 3 (at_3 (placed r))
agrees a law r order keys redaction joined =
    held_room tokens (story 3 (placed r) rest_of) 1 3 3 (at_3 (placed r)) 0 None
    (law tokens (asked a.rises tokens_rise) (λ x. story 3 (placed r) rest_of)
    (λ x. record { order = order; keys = keys; redaction = redaction; joined = joined; rest = rests a tokens _ })
    (synced 10 1 ∷ synced 10 3 ∷ []) (asked a.next tt, (asked a.next refl, tt)) tt)

-- it can't be that what the client is owed isn't held
pub unheld : (r : Room Item Bool) (k : Bool) (v : Item) → (at_3 r).state k ≡ None → state_at r events 3 k ≡ Some v
    → is_owed r 1 3 (at_3 r).timeline k v ≡ true → RoomAgrees r events 1 3 3 (at_3 r) → ⊥
unheld r k v none is owed agrees = let held = (agrees.state.enough k v is owed).1 in absurd cc
