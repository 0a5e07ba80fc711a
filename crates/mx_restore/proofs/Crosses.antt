-- What the writers of an engine hold may go to another thread, without a journal and with one.
use denote.RattleType.{RattleType}
use denote.Param.Send.{IsSend}
use denote.Param.SendFields.{declared_send}
use Rattle.mx_account.specs.contracts.entry.Entry as Entry
use Rattle.mx_account.specs.contracts.entry.EntryPlaced.TheImpl as entry_placed
use Rattle.mx_aims.specs.contracts.events.EventDraft as EventDraft
use Rattle.mx_aims.specs.contracts.events.EventFault as EventFault
use Rattle.mx_aims.specs.contracts.events.Rooms as Rooms
use Rattle.mx_aims.specs.contracts.events.RoomsFolds.TheImpl as rooms_folds
use Rattle.mx_desk.specs.contracts.keeping.DeskKeeper as DeskKeeper
use Rattle.mx_desk.specs.contracts.texts.StreamTexts as StreamTexts
use Rattle.mx_desk.proofs.keeping.DeskKeeper.TheSendSync as keeper
use Rattle.mx_desk.proofs.texts.StreamTexts.TheSendSync as texts
use Rattle.mx_entries.specs.contracts.account_writer.Accounts as Accounts
use Rattle.mx_entries.specs.contracts.account_writer.AccountsFolds.TheImpl as accounts_folds
use Rattle.mx_entries.specs.contracts.drafts.EntryDraft as EntryDraft
use Rattle.mx_entries.specs.contracts.drafts.EntryFault as EntryFault
use Rattle.mx_event.specs.contracts.event.Event as Event
use Rattle.mx_event.specs.contracts.placed.EventPlaced.TheImpl as event_placed
use Rattle.mx_keep.specs.contracts.journaled.Journaled as Journaled
use Rattle.mx_keep.specs.declared.keeper.Keeper.{Ghosts}
use Rattle.mx_keep.proofs.journaled.Journaled.TheSendSync as journaled
use Rattle.mx_room.proofs.Crosses as book
pub use Rattle.mx_entries.proofs.Crosses.{accounts_send}

pub rooms_send : IsSend Rooms.the_row
rooms_send = declared_send Rooms.the_type (book.send, tt)

module _ (L : RattleType) where
  abbrev pub keeper_row : RattleType
  keeper_row = DeskKeeper.the_row L StreamTexts.the_row

  keeper_send : IsSend L → IsSend keeper_row
  keeper_send send = keeper.the_send L StreamTexts.the_row send texts.the_send

  abbrev pub kept_rooms : Ghosts keeper_row.Denot Event.the_row.Denot → RattleType
  kept_rooms keeps = Journaled.the_row Rooms.the_row keeper_row Event.the_row EventDraft.the_row EventFault.the_row rooms_folds.ghosts event_placed.ghosts keeps

  pub kept_rooms_send : (keeps : Ghosts keeper_row.Denot Event.the_row.Denot) → IsSend L → IsSend (kept_rooms keeps)
  kept_rooms_send keeps send =
      journaled.the_send Rooms.the_row keeper_row Event.the_row EventDraft.the_row EventFault.the_row rooms_folds.ghosts event_placed.ghosts keeps rooms_send (keeper_send send)

  abbrev pub kept_accounts : Ghosts keeper_row.Denot Entry.the_row.Denot → RattleType
  kept_accounts keeps = Journaled.the_row Accounts.the_row keeper_row Entry.the_row EntryDraft.the_row EntryFault.the_row accounts_folds.ghosts entry_placed.ghosts keeps

  pub kept_accounts_send : (keeps : Ghosts keeper_row.Denot Entry.the_row.Denot) → IsSend L → IsSend (kept_accounts keeps)
  kept_accounts_send keeps send =
      journaled.the_send Accounts.the_row keeper_row Entry.the_row EntryDraft.the_row EntryFault.the_row accounts_folds.ghosts entry_placed.ghosts keeps accounts_send (keeper_send send)
