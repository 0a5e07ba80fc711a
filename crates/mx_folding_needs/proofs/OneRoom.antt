-- With a definition changed, with a weaker agreement or at any b, the law of one room fails.
use Rattle.std.proofs.Common.{◌≡◌, ℕ, ◌≤◌, ◌==◌, Bool, true, false, not, nat_le, nat_lt, [], ◌∷◌, None, refl, arith}
use Rattle.std.proofs.lemmas.Bool.{false≢true}
use Rattle.mx_window.proofs.Each.{AllByRecursion-every}
use Rattle.mx_folding.specs.Sections.{window}
use Rattle.mx_folding.specs.Rooms.{Room, IsRoom, StaysSent}
use Rattle.mx_folding.specs.Parts.{part_of, picks, picks_new, is_omitted, gap_at}
use Rattle.mx_folding.specs.Clients.{Held, Open, ClientRoom, empty_room, with_part, with_page}
use Rattle.mx_folding.specs.Agreement.{RoomAgrees}
use Rattle.mx_folding.proofs.Replies.{folds_new, folds_reply}
use Rattle.mx_folding_needs.specs.Changes.{FoldsReplyBy, FoldsPageBy, FoldsNewAnywhere, FoldsNewUncut, at_cut, at_upper, put_over, omits_unjoined, omits_before, InPast, CutInPast}
use Rattle.mx_folding_needs.specs.Premises.{Item, all_asked}
use Rattle.mx_folding_needs.proofs.Plain.{at, naming, events, equal, equal_is, key_by, room_of, in_order}

is_room : (r : Room Item Bool) (has wrote : ℕ → Bool) → ((b s t : ℕ) → b ≤ s → s ≤ t → r.stayed b t ≡ true → r.stayed b s ≡ true)
    → IsRoom (record r {
      at = λ e. e.place;
      key = λ e. key_by has e.place;
      sender = λ e. wrote e.place;
      same = equal;
      keeps = λ e. true;
      passes = λ k. true;
      red = λ e. record e { bare = true };
      names = λ e. e.names;
    }) events
is_room r has wrote stayed =
    let o = in_order all_asked r in
    record {
      ascends = o.ascends;
      keys = equal_is;
      kept = λ k e h. refl;
      red_at = λ e. refl;
      red_key = λ e. refl;
      red_sender = λ e. refl;
      red_names = λ e. refl;
      red_red = λ e. refl;
      earlier = o.earlier;
      stayed_less = stayed;
    }

stays : (r : Room Item Bool) (sent : Item → Bool) (s : ℕ) → StaysSent (record r { sends = λ front. sent }) events s
stays r sent s t up = AllByRecursion-every _ (λ e. refl) _

-- what a client holds after the first reply
abbrev first : Room Item Bool → Bool → ℕ → ℕ → ClientRoom Item Bool
first r after limit t = with_part r after 0 t (part_of r events t (window after limit 0 t) (picks_new r (λ k. false))) (empty_room Item Bool)

first_agrees : (r : Room Item Bool) → IsRoom r events → (after : Bool) (limit t b : ℕ) → (r.stayed b t ≡ true → t ≤ b)
    → RoomAgrees r events b t t (first r after limit t)
first_agrees r is after limit t b base = folds_new r events is after limit t t b (λ k. false) (omega arith) base

-- a lazy member event after b, where the user stayed joined to t, isn't sent
pub needs_base : FoldsNewAnywhere Item Bool → ⊥
needs_base law =
    let r : Room Item Bool = record (room_of (λ p. false) (λ p. p == 1)) { lazy = true; stayed = λ b t. true } in
    let unheld =
    (law r events (is_room r (λ p. p == 1) (λ p. false) (λ b s t h i e. e)) false 10 1 1 0 (λ k. false) (omega arith)).state.enough true
    (at 1) refl refl in
    absurd cc

-- 1 is seen, 2 hidden and 3 seen: the key holds 1, the picture 2
pub needs_break : FoldsNewUncut Item Bool → ⊥
needs_break law =
    let r : Room Item Bool = room_of (λ p. not (p == 2)) (λ p. nat_le p 2) in
    let old =
    (law r events (is_room r (λ p. nat_le p 2) (λ p. false) (λ b s t h i e. e)) 10 3 3 3 (λ k. false) (omega arith)
    (λ h. absurd (false≢true h))).state.right true (at 1) refl in
    absurd cc

-- members 1 and 3 of the sender of 2, which stands in the gap: 1 is put
pub needs_front : FoldsPageBy Item Bool RoomAgrees with_page at_upper → ⊥
needs_front law =
    let r : Room Item Bool = record (room_of (λ p. true) (λ p. not (p == 2))) { lazy = true; sender = λ e. e.place == 2 } in
    let is = is_room r (λ p. not (p == 2)) (λ p. p == 2) (λ b s t h i e. e) in
    let agrees = first_agrees r is true 1 3 3 (λ h. absurd (false≢true h)) in
    let old =
    (law r events is 10 3 3 3 3 3 (gap_at 0 2 3) [] (Held naming ∷ []) (first r true 1 3).state (stays r (λ e. true) 3) (omega arith)
    (omega arith) (omega arith) agrees).state.right true (at 1) refl in
    absurd cc

-- the same with 3 held
pub needs_held : FoldsPageBy Item Bool RoomAgrees put_over at_cut → ⊥
needs_held law =
    let r : Room Item Bool = record (room_of (λ p. true) (λ p. not (p == 2))) { lazy = true; sender = λ e. e.place == 2 } in
    let is = is_room r (λ p. not (p == 2)) (λ p. p == 2) (λ b s t h i e. e) in
    let agrees =
    folds_reply r events is false 10 2 2 3 2 3 2 false (λ k. false) (first r false 0 2) (stays r (λ e. true) 2)
    (omega arith) (omega arith) (omega arith) (omega arith)
    (first_agrees r is false 0 2 2 (λ h. absurd (false≢true h))) in
    let old = (law r events is 10 2 3 3 3 3 (gap_at 0 2 2) [] (Held naming ∷ [])
    (with_part r false 2 3 (part_of r events 3 (window false 10 2 3) (picks r false 2 2 2 (λ k. false))) (first r false 0 2)).state (stays r (λ e. true) 3)
    (omega arith) (omega arith) (omega arith) agrees).state.right true (at 1) refl in
    absurd cc

-- member 1 isn't held, since the user wasn't joined, and its user sends 2
pub needs_joined_throughout : FoldsReplyBy Item Bool RoomAgrees omits_unjoined → ⊥
needs_joined_throughout law =
    let r : Room Item Bool = record (room_of (λ p. nat_lt 1 p) (λ p. p == 1)) { lazy = true; sender = λ e. e.place == 2 } in
    let is = is_room r (λ p. p == 1) (λ p. p == 2) (λ b s t h i e. e) in
    let agrees = first_agrees r is false 10 1 0 (λ h. absurd (false≢true h)) in
    let unheld =
    (law r events is false 10 1 1 2 1 2 0 false (λ k. false) (first r false 10 1) (stays r (λ e. nat_lt 1 e.place) 1) (omega arith)
    (omega arith) (omega arith) (omega arith) agrees).state.enough true (at 1) refl refl in
    absurd cc

-- the same, since it came at b
pub needs_after_b : FoldsReplyBy Item Bool RoomAgrees omits_before → ⊥
needs_after_b law =
    let r : Room Item Bool = record (room_of (λ p. nat_lt 1 p) (λ p. p == 1)) { lazy = true; sender = λ e. e.place == 2; stayed = λ b t. true } in
    let is = is_room r (λ p. p == 1) (λ p. p == 2) (λ b s t h i e. e) in
    let agrees = first_agrees r is false 10 1 1 (λ h. omega arith) in
    let unheld =
    (law r events is false 10 1 1 2 1 2 1 false (λ k. false) (first r false 10 1) (stays r (λ e. nat_lt 1 e.place) 1) (omega arith)
    (omega arith) (omega arith) (omega arith) agrees).state.enough true (at 1) refl refl in
    absurd cc

-- the gap was cut at 2, after the token 1: member 2 is put
pub needs_cut_in_past : FoldsPageBy Item Bool InPast with_page at_cut → ⊥
needs_cut_in_past law =
    let r : Room Item Bool = record (room_of (λ p. p == 1) (λ p. p == 2)) { lazy = true; sender = λ e. e.place == 1 } in
    let is = is_room r (λ p. p == 2) (λ p. p == 1) (λ b s t h i e. e) in
    let agrees : InPast r events 1 1 1 (record { state = λ k. None; timeline = Open (gap_at 0 1 2) ∷ [] }) =
    record {
      whole = refl;
      gaps =
          (omega arith, tt);
      state = record { right = λ k c h. absurd cc; enough = λ k v h o. absurd cc };
      held_copies = tt;
      state_copies = λ k c h. absurd cc;
    } in
    let new =
    (law r events is 10 1 1 1 1 1 (gap_at 0 1 2) [] [] (λ k. None) (stays r (λ e. e.place == 1) 1) (omega arith)
    (omega arith) (omega arith) agrees).state.right true (at 2) refl in
    absurd cc

-- the gap goes on after the token: what comes then is in it and behind it
pub needs_in_past : FoldsReplyBy Item Bool CutInPast is_omitted → ⊥
needs_in_past law =
    let r : Room Item Bool = record (room_of (λ p. true) (λ p. false)) { sends = λ front e. nat_le e.place front } in
    let is = is_room r (λ p. false) (λ p. false) (λ b s t h i e. e) in
    let agrees : CutInPast r events 0 0 0 (record { state = λ k. None; timeline = Open (gap_at 0 2 0) ∷ [] }) =
    record {
      whole = refl;
      gaps =
          (omega arith, tt);
      state = record { right = λ k c h. absurd cc; enough = λ k v h o. absurd cc };
      held_copies = tt;
      state_copies = λ k c h. absurd cc;
    } in
    let twice =
    (law r events is false 10 0 0 2 0 2 0 false (λ k. false) (record { state = λ k. None; timeline = Open (gap_at 0 2 0) ∷ [] })
    (λ t h. tt) (omega arith) (omega arith) (omega arith) (omega arith) agrees).whole in
    absurd cc
