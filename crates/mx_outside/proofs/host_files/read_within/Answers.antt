use Rattle.mx_outside.proofs.Known.{consumes_more, all_consumed}
use Rattle.mx_outside.proofs.host_files.read_within.Goals as goal

pub returns-then-branch-eq0-clause-found : goal.returns-then-branch-eq0-clause-found
returns-then-branch-eq0-clause-found g c =
    let m = c.in_ok-read_piece.ensures.moved in
    all_consumed _ _ _ (consumes_more (g.R.Read.remaining c.args.reader.now) (g.R.Read.remaining c.pieces.reader) (g.R.Read.remaining c.read_piece.new.reader)
    c.pieces.bytes.items m.0 c.read_piece.new.bytes.items c.pieces.invariant m.3 m.1)
    (c.in_ok-read_piece.ensures.end c.if-branch-eq0.true)

pub pieces-preserved : goal.pieces-preserved
pieces-preserved g c =
    let m = c.in_ok-read_piece.ensures.moved in
    consumes_more (g.R.Read.remaining c.args.reader.now) (g.R.Read.remaining c.pieces.reader) (g.R.Read.remaining c.read_piece.new.reader)
    c.pieces.bytes.items m.0 c.read_piece.new.bytes.items c.pieces.invariant m.3 m.1
