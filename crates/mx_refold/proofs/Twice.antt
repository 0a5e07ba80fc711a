-- Redactions that are applied before what is told of a room, and again after it.
use Rattle.std.proofs.Common.{◌≡◌, ℕ, Bool, Option, Some, None, option_map, refl}
use Rattle.mx_folding.specs.Rooms.{IsRoom}
use Rattle.mx_folding.specs.Parts.{Part}
use Rattle.mx_folding.specs.Clients.{ClientRoom, held}
use Rattle.mx_folding.specs.Stories.{Story, Told, Nothing, Anew, More, Invited, Left, Holding, more_joined, with_told}
use Rattle.mx_refold.specs.Redacted.{joined_redacted, holding_redacted}
use Rattle.mx_refold.proofs.Redacted.{absorbs, redacts_part}

module _ {E K V D T : Type 0} (g : Story E K V D T) (is : IsRoom g.room g.events) where
  joined_twice : (o : Option (ClientRoom E K × V))
      → option_map (joined_redacted g.room) (option_map (joined_redacted g.room) o) ≡ option_map (joined_redacted g.room) o
  joined_twice None = refl
  joined_twice (Some p) = λ i. Some (absorbs g.room g.events is (held p.0.timeline) p.0 (λ n h. h) i, p.1)

  pub holding_twice : (had : Holding E K V) → holding_redacted g.room (holding_redacted g.room had) ≡ holding_redacted g.room had
  holding_twice had = λ i. record { joined = joined_twice had.joined i; invited = had.invited }

  more_twice : (after : Bool) (s t : ℕ) (part : Part E) (delta : D) (o : Option (ClientRoom E K × V))
      → option_map (joined_redacted g.room) (more_joined g after s t part delta (option_map (joined_redacted g.room) o))
      ≡ option_map (joined_redacted g.room) (more_joined g after s t part delta o)
  more_twice after s t part delta None = refl
  more_twice after s t part delta (Some p) = λ i. Some (redacts_part g.room g.events is after s t part p.0 i, g.rest.changed p.1 delta)

  pub told_twice : (after : Bool) (s t : ℕ) (says : Told E V D) (had : Holding E K V)
      → holding_redacted g.room (with_told g after s t says (holding_redacted g.room had)) ≡ holding_redacted g.room (with_told g after s t says had)
  told_twice after s t Nothing had = holding_twice had
  told_twice after s t (Anew part view) had = refl
  told_twice after s t (More part delta) had = λ i. record { joined = more_twice after s t part delta had.joined i; invited = None }
  told_twice after s t (Invited ids) had = refl
  told_twice after s t Left had = refl
