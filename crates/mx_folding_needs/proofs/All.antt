-- With all premises asked the law is the folding law.
use Rattle.std.proofs.Common.{◌≡◌, List, [], ◌∷◌, refl, ap, sym, subst}
use Rattle.mx_folding.specs.Rooms.{IsRoom}
use Rattle.mx_folding.specs.Stories.{Tokens, Story, IsStory}
use Rattle.mx_folding.specs.Chains.{Client, new_client, Turn, Synced, Paged, IsTurn, after_turn, AreTurns}
use Rattle.mx_folding_needs.specs.Premises.{all_asked, StoryIf, TurnsIf, AllAsked}

asked : {E K V D T : Type 0} (k : Tokens T) (g : Story E K V D T) → IsStory k g → StoryIf all_asked k g
asked k g h = record {
  order = record { ascends = h.room.ascends; earlier = h.room.earlier };
  keys = record { keys = h.room.keys; kept = h.room.kept };
  redaction =
      record { red_at = h.room.red_at; red_key = h.room.red_key; red_sender = h.room.red_sender; red_names = h.room.red_names; red_red = h.room.red_red };
  joined = record { stayed_less = h.room.stayed_less; stays = h.stays; kinds = h.kinds; stayed = h.stayed };
  rest = record { folds = h.rest.folds; still = h.rest.still };
}

stated : {E K V D T : Type 0} (k : Tokens T) (g : Story E K V D T) → StoryIf all_asked k g → IsStory k g
stated k g h =
    let o = h.order in
    let y = h.keys in
    let d = h.redaction in
    let j = h.joined in
    let room : IsRoom g.room g.events =
    record {
      ascends = o.ascends;
      keys = y.keys;
      kept = y.kept;
      red_at = d.red_at;
      red_key = d.red_key;
      red_sender = d.red_sender;
      red_names = d.red_names;
      red_red = d.red_red;
      earlier = o.earlier;
      stayed_less = j.stayed_less;
    } in
    record { room = room; stays = j.stays; kinds = j.kinds; stayed = j.stayed; rest = record { folds = h.rest.folds; still = h.rest.still } }

turns_alike : {X E K V D T : Type 0} (k : Tokens T) (w : X → Story E K V D T) (c : Client X E K V T) (turns : List (Turn X E K T))
    → AreTurns k w c turns ≡ TurnsIf all_asked k w c turns
turns_alike k w c [] = refl
turns_alike k w c (Synced ask heroes j ∷ turns) =
    ap (λ A. IsTurn k c (Synced ask heroes j) × A) (turns_alike k w (after_turn k w c (Synced ask heroes j)) turns)
turns_alike k w c (Paged limit e gaps ∷ turns) = ap (λ A. IsTurn k c (Paged limit e gaps) × A) (turns_alike k w (after_turn k w c (Paged limit e gaps)) turns)

pub all_are_asked : {X E K V D T : Type 0} → AllAsked X E K V D T
all_are_asked {X} {E} {K} {V} {D} {T} = (
  λ law k up w story turns are. law k up w (λ x. asked k (w x) (story x)) turns (subst (λ A. A) (turns_alike k w (new_client X E K V T) turns) are),
  λ law k up w story turns are. law k up w (λ x. stated k (w x) (story x)) turns (subst (λ A. A) (sym (turns_alike k w (new_client X E K V T) turns)) are),
)
