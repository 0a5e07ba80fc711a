use Rattle.std.proofs.Common.{ap}
use Rattle.mx_auth.specs.Standing.{Standing}
use Rattle.tests_sync.proofs.ValidRooms.{built_more}
use Rattle.tests_sync.proofs.built.push_valid.Goals as goal

pub returns : goal.returns
returns c =
    built_more c.args.state.now.events c.args.events.now.items c.take.new.self.events c.push.new.self.items c.args.event c.requires.built c.requires.at c.requires.here c.requires.valid
    (ap (λ (s : Standing). s.events) c.in_ok-take.ensures.ok) c.in_ok-push.ensures.items
