use Rattle.std.proofs.Common.{◌∙◌}
use Rattle.mx_core.proofs.Histories.{begins_self}
use Rattle.mx_engine.proofs.Known.{known_is, taken_same, valid_is}
use Rattle.mx_engine.specs.declared.held.EnginePass.{EnginePass}
use Rattle.mx_engine.proofs.held.Engine.take_in.Goals as goal

pub take_events-requires-clause-taken : goal.take_events-requires-clause-taken
take_events-requires-clause-taken g c = c.requires.ties.known.events

pub take_receipts-requires-clause-taken : goal.take_receipts-requires-clause-taken
take_receipts-requires-clause-taken g c = taken_same _ _ _ _ c.take_events.ensures.receipts c.requires.ties.known.receipts

pub take_accounts-requires-clause-taken : goal.take_accounts-requires-clause-taken
take_accounts-requires-clause-taken g c = taken_same _ _ _ _ (c.take_receipts.ensures.accounts ∙ c.take_events.ensures.accounts) c.requires.ties.known.accounts

pub returns-in_err-take_events-clause-ties : goal.returns-in_err-take_events-clause-ties
returns-in_err-take_events-clause-ties g c = record {
  events = c.take_events.ensures.stream ∙ c.requires.ties.events;
  receipts = c.requires.ties.receipts;
  accounts = c.requires.ties.accounts;
  known = record {
    events = c.take_events.ensures.taken;
    receipts = taken_same _ _ _ _ c.take_events.ensures.receipts c.requires.ties.known.receipts;
    accounts = taken_same _ _ _ _ c.take_events.ensures.accounts c.requires.ties.known.accounts;
  };
}

pub returns-in_err-take_receipts-clause-ties : goal.returns-in_err-take_receipts-clause-ties
returns-in_err-take_receipts-clause-ties g c = record {
  events = c.take_events.ensures.stream ∙ c.requires.ties.events;
  receipts = c.take_receipts.ensures.stream ∙ c.requires.ties.receipts;
  accounts = c.requires.ties.accounts;
  known = record {
    events = taken_same _ _ _ _ c.take_receipts.ensures.events c.take_events.ensures.taken;
    receipts = c.take_receipts.ensures.taken;
    accounts = taken_same _ _ _ _ (c.take_receipts.ensures.accounts ∙ c.take_events.ensures.accounts) c.requires.ties.known.accounts;
  };
}

pub returns-clause-ties : goal.returns-clause-ties
returns-clause-ties g c = record {
  events = c.take_events.ensures.stream ∙ c.requires.ties.events;
  receipts = c.take_receipts.ensures.stream ∙ c.requires.ties.receipts;
  accounts = c.take_accounts.ensures.stream ∙ c.requires.ties.accounts;
  known = record {
    events = taken_same _ _ _ _ (c.take_accounts.ensures.events ∙ c.take_receipts.ensures.events) c.take_events.ensures.taken;
    receipts = taken_same _ _ _ _ c.take_accounts.ensures.receipts c.take_receipts.ensures.taken;
    accounts = c.take_accounts.ensures.taken;
  };
}

pub returns-in_err-take_events-clause-begins : goal.returns-in_err-take_events-clause-begins
returns-in_err-take_events-clause-begins g c = record { events = c.take_events.ensures.begins; receipts = begins_self _; accounts = begins_self _ }

pub returns-in_err-take_receipts-clause-begins : goal.returns-in_err-take_receipts-clause-begins
returns-in_err-take_receipts-clause-begins g c = record { events = c.take_events.ensures.begins; receipts = c.take_receipts.ensures.begins; accounts = begins_self _ }

pub returns-clause-begins : goal.returns-clause-begins
returns-clause-begins g c = record { events = c.take_events.ensures.begins; receipts = c.take_receipts.ensures.begins; accounts = c.take_accounts.ensures.begins }

pub returns-clause-known : goal.returns-clause-known
returns-clause-known g c =
    let p : EnginePass = record {
      events = c.take_events.new.seat;
      receipts = c.take_receipts.new.seat;
      accounts = c.take_accounts.new.seat;
      snapshot = c.take_accounts.new.snapshot;
      known = record { events = c.take_events.new.stores; receipts = c.take_receipts.new.stores; accounts = c.take_accounts.new.stores };
      flag = c.args.pass.now.flag;
      tickets = c.args.pass.now.tickets;
    } in
    known_is p c.take_accounts.result (c.take_accounts.ensures.events ∙ c.take_receipts.ensures.events ∙ c.in_ok-take_events.ensures.all) (c.take_accounts.ensures.receipts ∙ c.in_ok-take_receipts.ensures.all) c.take_accounts.ensures.all

pub returns-clause-valid : goal.returns-clause-valid
returns-clause-valid g c =
    let p : EnginePass = record {
      events = c.take_events.new.seat;
      receipts = c.take_receipts.new.seat;
      accounts = c.take_accounts.new.seat;
      snapshot = c.take_accounts.new.snapshot;
      known = record { events = c.take_events.new.stores; receipts = c.take_receipts.new.stores; accounts = c.take_accounts.new.stores };
      flag = c.args.pass.now.flag;
      tickets = c.args.pass.now.tickets;
    } in
    valid_is p c.take_accounts.result (c.take_accounts.ensures.events ∙ c.take_receipts.ensures.events ∙ c.in_ok-take_events.ensures.all) (c.take_accounts.ensures.receipts ∙ c.in_ok-take_receipts.ensures.all) c.take_accounts.ensures.all
