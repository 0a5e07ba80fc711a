use Rattle.std.proofs.Common.{arith}
use Rattle.mx_http.proofs.Queries.{query_behind, no_query}
use Rattle.mx_http.proofs.parameters.query_bytes.Goals as goal

pub returns-then-byte-eq63 : goal.returns-then-byte-eq63
returns-then-byte-eq63 c = query_behind c.args.target.now c.loop-at.at (omega arith) c.loop-at.invariant c.if-byte-eq63.true

pub returns : goal.returns
returns c = no_query c.args.target.now c.loop-at.at (omega arith) c.loop-at.invariant
