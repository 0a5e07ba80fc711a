use Rattle.mx_parts.proofs.Early.{covers_named}
use Rattle.mx_parts.proofs.state.named_state.Goals as goal

pub named_part-requires-clause-covers : goal.named_part-requires-clause-covers
named_part-requires-clause-covers c =
    covers_named c.args.reading.now c.args.picker.now c.in-Later.from _ _ _ _ c.args.keys.now c.in-Later.is c.requires.names
