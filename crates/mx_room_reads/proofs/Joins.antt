-- One room more among those in which a user is joined.
use Rattle.std.proofs.Common.{◌≡◌, ℕ, ◌+◌, ◌++◌, Bool, true, false, cond, drop, filter, map, append_assoc, List, [], ◌∷◌, refl, ap, sym, ◌∙◌}
use Rattle.std.specs.Borrow.{Bor}
use Rattle.mx_ids.specs.declared.room_id.RoomId.{RoomId}
use Rattle.mx_event.specs.declared.event.Event.{Event}
use Rattle.mx_folding.specs.Visible.{is_join}
use Rattle.mx_snapshot.specs.Looks.{own_now}
use Rattle.mx_view.specs.Readings.{membership_of}
use Rattle.mx_room_reads.specs.Reads.{joined_of}

one : (p : RoomId × Event) (ps : List (RoomId × Event)) → joined_of (p ∷ ps) ≡ joined_of (p ∷ []) ++ joined_of ps
one p ps = by (is_join (membership_of p.1)) where
  by : (b : Bool)
      → map (λ (q : RoomId × Event). q.0) (cond b (p ∷ filter (λ (q : RoomId × Event). is_join (membership_of q.1)) ps) (filter (λ (q : RoomId × Event). is_join (membership_of q.1)) ps))
      ≡ map (λ (q : RoomId × Event). q.0) (cond b (p ∷ []) []) ++ joined_of ps
  by true = refl
  by false = refl

pub joined_more : (own : List (RoomId × Bor Event)) (i : ℕ) (e : RoomId × Bor Event) (made new all : List RoomId) → drop i own ≡ e ∷ drop (i + 1) own
    → made ++ joined_of (map own_now (drop i own)) ≡ all → new ≡ made ++ joined_of (own_now e ∷ [])
    → new ++ joined_of (map own_now (drop (i + 1) own)) ≡ all
joined_more own i e made new all next before more =
    ap (λ l. l ++ joined_of (map own_now (drop (i + 1) own))) more
    ∙ append_assoc made (joined_of (own_now e ∷ [])) (joined_of (map own_now (drop (i + 1) own)))
    ∙ ap (λ l. made ++ l) (sym (one (own_now e) (map own_now (drop (i + 1) own))) ∙ ap (λ l. joined_of (map own_now l)) (sym next)) ∙ before
