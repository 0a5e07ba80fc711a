-- What a pass has seen of each stream covers items that stand at their own positions.
use Rattle.std.proofs.Common.{◌≡◌, true}
use Rattle.mx_account.specs.Entries as account
use Rattle.mx_core.proofs.InPlace.{covered_in_place}
use Rattle.mx_event.specs.Shown.{position_of}
use Rattle.mx_event.proofs.Lawfully.{rooms_are_valid}
use Rattle.mx_fold.specs.Lists.{lists_of}
use Rattle.mx_receipt.specs.Receipts as receipt
use Rattle.mx_window.specs.Windows.{stand_from}
use Rattle.mx_engine.specs.Shown.{stores_of}
use Rattle.mx_engine.specs.declared.held.EnginePass.{EnginePass}

pub events_stand : (p : EnginePass) → stand_from position_of 1 (lists_of (stores_of p)).events ≡ true
events_stand p = (rooms_are_valid (stores_of p).events p.events.pass.orderly p.events.pass.lawful).0

pub receipts_stand : (p : EnginePass) → receipt.AreInPlace (lists_of (stores_of p)).receipts
receipts_stand p =
    covered_in_place receipt.position_of (λ writer before first items. receipt.are_placed first items) (stores_of p).receipts
    (λ writer before first items placed. placed) p.receipts.pass.lawful

pub accounts_stand : (p : EnginePass) → stand_from account.position_of 1 (lists_of (stores_of p)).accounts ≡ true
accounts_stand p =
    covered_in_place account.position_of (λ writer before first items. account.are_placed first items) (stores_of p).accounts
    (λ writer before first items placed. placed) p.accounts.pass.lawful
