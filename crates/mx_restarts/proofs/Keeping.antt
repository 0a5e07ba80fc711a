-- What is kept at a later start is kept at the starts after it, and what first stores covered is what some first stores cover.
use Rattle.std.proofs.Common.{◌≡◌, ℕ, List, take, drop, sym, ap, ◌∙◌}
use Rattle.std.proofs.lemmas.List.{take-append-drop, take-append-le}
use Rattle.mx_core.specs.declared.history.Stored.{Stored}
use Rattle.mx_core.specs.Covered.{covered}
use Rattle.mx_core.specs.History.{Begins, own}
use Rattle.mx_core.proofs.Histories.{begins_trans}
use Rattle.mx_core.proofs.Owns.{begins_own}
use Rattle.mx_fold.specs.Lists.{Counts, Grows, Histories, lists_at}
use Rattle.mx_replay.specs.Tokens.{HasOwn}
use Rattle.mx_restarts.specs.InPlace.{AreInPlace}
use Rattle.mx_restarts.specs.Kept.{IsInPlace, IsKeptIn, KeptGoesOn}
use Rattle.mx_restarts.proofs.Counting.{IsCounted, counted}

has_on : {I : Type 0} (seen begun later start : List (Stored I)) → HasOwn seen begun → Begins begun later → HasOwn later start → HasOwn seen start
has_on seen begun later start has grows kept k =
    begins_trans (own seen k) (own begun k) (own start k) (has k) (begins_trans (own begun k) (own later k) (own start k) (begins_own begun later k grows) (kept k))

pub kept_goes_on : KeptGoesOn
kept_goes_on seen begun later start has grows kept = record {
  events = has_on seen.events begun.events later.events start.events has.events grows.events kept.events;
  receipts = has_on seen.receipts begun.receipts later.receipts start.receipts has.receipts grows.receipts kept.receipts;
  accounts = has_on seen.accounts begun.accounts later.accounts start.accounts has.accounts grows.accounts kept.accounts;
}

-- ---- the first stores of a run, at a later one

-- as many of the first stores of the later run as cover the same
stores_there : {I : Type 0} (seen begun all : List (Stored I)) → AreInPlace 1 begun → HasOwn seen begun → Begins begun all
    → (n : ℕ) → (m : ℕ) × (covered (take m all) ≡ covered (take n seen))
stores_there seen begun all are has grows n =
    let first : HasOwn (take n seen) begun = λ k.
    begins_trans (own (take n seen) k) (own seen k) (own begun k) (begins_own (take n seen) seen k (drop n seen, sym (take-append-drop n seen))) (has k) in
    let there : IsCounted (take n seen) begun = counted (take n seen) begun are first in (
      there.count,
      ap (λ h. covered (take there.count h)) grows.1 ∙ (ap covered (take-append-le there.count begun grows.0 there.within) ∙ there.covers),
    )

pub lists_there : (seen begun all : Histories) → IsInPlace begun → IsKeptIn seen begun → Grows begun all
    → (n : Counts) → (m : Counts) × (lists_at m all ≡ lists_at n seen)
lists_there seen begun all are kept grows n =
    let events = stores_there seen.events begun.events all.events are.events kept.events grows.events n.events in
    let receipts = stores_there seen.receipts begun.receipts all.receipts are.receipts kept.receipts grows.receipts n.receipts in
    let accounts = stores_there seen.accounts begun.accounts all.accounts are.accounts kept.accounts grows.accounts n.accounts in (
      record { events = events.0; receipts = receipts.0; accounts = accounts.0 },
      λ i. record { events = events.1 i; receipts = receipts.1 i; accounts = accounts.1 i },
    )
