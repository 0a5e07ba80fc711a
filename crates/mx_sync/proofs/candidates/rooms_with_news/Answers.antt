use Rattle.std.proofs.lemmas.Result.{IfOk-weaker}
use Rattle.mx_rest.specs.Servers.{lists_of}
use Rattle.mx_sync.specs.Asks.{asked}
use Rattle.mx_sync.proofs.Unsaid.{news_are_all}
use Rattle.mx_sync.proofs.candidates.rooms_with_news.Goals as goal

pub returns : goal.returns
returns c =
    IfOk-weaker c.new_rooms.result _ _
    (λ rooms same. news_are_all (lists_of c.args.snapshot.now) c.args.ask.now.user.now (asked c.args.ask.now) c.args.since.now
    (record { events = c.front-events.ensures.placed; receipts = c.front-receipts.ensures.placed; accounts = c.front-accounts.ensures.placed })
    c.requires.behind c.requires.is_since c.requires.goes_on rooms same) c.new_rooms.ensures
