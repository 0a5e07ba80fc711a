use Rattle.mx_aims.specs.Aims.{site_of}
use Rattle.mx_acts.proofs.Arms.{reads_are}
use Rattle.mx_acts.proofs.reads.read_other.Goals as goal

pub unreachable-requires : goal.unreachable-requires
unreachable-requires c =
    let no = c.in_default in
    reads_are (site_of c.args.site.now) 0 c.args.who.now c.args.ask.now (c.requires.kind 0) no.not-WhoAmI no.not-JoinedRooms no.not-GetState no.not-AllState no.not-Members no.not-OneEvent no.not-Messages c.requires.other no.not-GetFilter no.not-GetAccount no.not-Tags no.not-PushRules no.not-GetRule no.not-GetEnabled no.not-GetActions
