-- A valid list of a room's events is a story.
use Rattle.std.proofs.Common.{◌≡◌, ◌↔◌, ℕ, Bool, true, false, ◌&&◌, List, [], Option, Some, None, option_map, refl, ap, sym, ◌∙◌}
use Rattle.std.proofs.lemmas.Option.{same_Some, none-some}
use Rattle.std.specs.Str.{bytes_eq}
use Rattle.std.proofs.lemmas.Bool.{and_parts, and_from}
use Rattle.std.proofs.lemmas.Slice.Eq.{bytes_eq-Decides}
use Rattle.mx_window.specs.Windows.{between}
use Rattle.mx_window.proofs.Each.{AllByRecursion-weaker}
use Rattle.mx_event.specs.Kinds.{has_key, is_text}
use Rattle.mx_event.specs.Shown.{position_of}
use Rattle.mx_event.specs.declared.event.Event.{Event}
use Rattle.mx_event.proofs.Stays.{redacts_once}
use Rattle.mx_event.specs.Valid.{IsValid}
use Rattle.mx_folding.specs.Rooms.{IsRoom, key_is}
use Rattle.mx_folding.specs.Visible.{is_visible}
use Rattle.mx_folding.proofs.Chains.{chains_fold}
use Rattle.mx_folding.proofs.Sees.{stays_visible, stayed_joined_less, stayed_joined_at}
use Rattle.mx_view.specs.Readings.{viewer_of}
use Rattle.mx_view.specs.Rooms.{Key, key_of, same_key, Sieve, PicksByType, room_of}
use Rattle.mx_view.specs.Valid.{stories, ValidIsStory, ValidFolds}
use Rattle.mx_view.proofs.Names.{red_named}
use Rattle.mx_view.proofs.Listed.{all_earlier, all_kinds}

-- the event under a key is the state event of that type and state key
pub under_key : (k : Key) (e : Event) → key_is (same_key k) (key_of e) ≡ has_key k.0 k.1 e
under_key k e = by e.state_key where
  by : (o : Option (List ℕ)) → key_is (same_key k) (option_map (λ key. (e.kind, key)) o) ≡ (bytes_eq e.kind k.0 && is_text k.1 o)
  by None = sym (and_false (bytes_eq e.kind k.0)) where
    and_false : (a : Bool) → (a && false) ≡ false
    and_false true = refl
    and_false false = refl
  by (Some key) = refl

-- its type is that of the key
pub kind_of : (k : Key) (e : Event) → has_key k.0 k.1 e ≡ true → e.kind ≡ k.0
kind_of k e h = (bytes_eq-Decides e.kind k.0).0 (and_parts (bytes_eq e.kind k.0) (is_text k.1 e.state_key) h).0

-- the type of an event that has a key
keyed : (kind : List ℕ) (o : Option (List ℕ)) (k : Key) → ◌≡◌ {A = Option Key} (option_map (λ key. (kind, key)) o) (Some k) → kind ≡ k.0
keyed kind None k is = absurd (none-some k is)
keyed kind (Some key) k is = ap (λ (p : Key). p.0) (same_Some (kind, key) k is)

one_equality : (k l : Key) → (same_key k l ≡ true) ↔ (k ≡ l)
one_equality k l = (
  λ h.
      let parts = and_parts (bytes_eq l.0 k.0) (bytes_eq l.1 k.1) h in
      let kind : l.0 ≡ k.0 = (bytes_eq-Decides l.0 k.0).0 parts.0 in
      let key : l.1 ≡ k.1 = (bytes_eq-Decides l.1 k.1).0 parts.1 in
      λ i. (sym kind i, sym key i),
  λ is.
      and_from (bytes_eq l.0 k.0) (bytes_eq l.1 k.1)
      ((bytes_eq-Decides l.0 k.0).1 (ap (λ (p : Key). p.0) (sym is))) ((bytes_eq-Decides l.1 k.1).1 (ap (λ (p : Key). p.1) (sym is))),
)

room_is : (f : Sieve) → PicksByType f → (user : List ℕ) (es : List Event) → IsValid es → IsRoom (room_of f user es) es
room_is f by_type user es valid = record {
  ascends = valid.ascends;
  keys = one_equality;
  kept = λ k e is. by_type e ∙ ap f.keeps_type (keyed e.kind e.state_key k is);
  red_at = λ e. refl;
  red_key = λ e. refl;
  red_sender = λ e. refl;
  red_names = red_named;
  red_red = redacts_once;
  earlier = all_earlier 0 [] es tt valid.ascends valid.valid;
  stayed_less = λ b s t low high h. stayed_joined_less (viewer_of user) es b s t low high h;
}

pub valid_is_story : {V D T : Type 0} → ValidIsStory V D T
valid_is_story k f by_type picked user es valid rest folds = record {
  room = room_is f by_type user es valid;
  stays = λ s joined t up.
      AllByRecursion-weaker (λ e. is_visible (viewer_of user) es t e ≡ is_visible (viewer_of user) es s e)
      (λ e. (is_visible (viewer_of user) es t e && f.passes e) ≡ (is_visible (viewer_of user) es s e && f.passes e))
      (λ e h. ap (λ b. b && f.passes e) h) (between position_of 0 s es) (stays_visible (viewer_of user) es valid.ascends s t up joined);
  kinds = all_kinds user [] es valid.valid;
  stayed = λ b s low h. stayed_joined_at (viewer_of user) es b s valid.ascends low h;
  rest = folds;
}

pub valid_folds : {X V D T : Type 0} → ValidFolds X V D T
valid_folds k rises user rooms are turns taken =
    chains_fold k rises (stories user rooms)
    (λ x. valid_is_story k (rooms.sieve x) (are.by_type x) (rooms.picked x) user (rooms.events x) (are.valid x) (rooms.rest x) (are.rest x)) turns taken
