use Rattle.std.proofs.Common.{◌≡◌, ◌≤◌, length, take, sym, arith}
use Rattle.std.proofs.lemmas.List.{take_all, length-take-le}
use Rattle.mx_http.proofs.apart.first_bytes.Goals as goal

pub slice_bounds-result-end : goal.slice_bounds-result-end
slice_bounds-result-end c = sym (length-take-le 16384 c.args.bytes.now (omega arith))

pub returns-then-bytes-le-HEAD_LIMIT-clause-front : goal.returns-then-bytes-le-HEAD_LIMIT-clause-front
returns-then-bytes-le-HEAD_LIMIT-clause-front c = sym (take_all 16384 c.args.bytes.now (omega arith))

pub returns-else-bytes-le-HEAD_LIMIT-clause-short : goal.returns-else-bytes-le-HEAD_LIMIT-clause-short
returns-else-bytes-le-HEAD_LIMIT-clause-short c =
    let all : length (take 16384 c.args.bytes.now) ≡ 16384 = length-take-le 16384 c.args.bytes.now (omega arith) in
    let e : length (take 16384 c.args.bytes.now) ≤ 16384 = omega arith in e
