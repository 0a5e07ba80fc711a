use Rattle.mx_http.proofs.Heads.{apart_finds, open_finds, long_finds, bad_finds}
use Rattle.mx_http.proofs.apart.read_head.Goals as goal

pub returns-in-Whole : goal.returns-in-Whole
returns-in-Whole c = apart_finds c.args.bytes.now c.first_bytes-front.result.now c.take_apart.result c.first_bytes-front.ensures.front c.take_apart.ensures

pub returns-then-bytes-lt-HEAD_LIMIT : goal.returns-then-bytes-lt-HEAD_LIMIT
returns-then-bytes-lt-HEAD_LIMIT c = open_finds c.args.bytes.now c.first_bytes-front.result.now c.judge.new.fields c.first_bytes-front.ensures.front c.if-bytes-lt-HEAD_LIMIT.true c.in-Open.ensures

pub returns-else-bytes-lt-HEAD_LIMIT : goal.returns-else-bytes-lt-HEAD_LIMIT
returns-else-bytes-lt-HEAD_LIMIT c = long_finds c.args.bytes.now c.first_bytes-front.result.now c.judge.new.fields c.first_bytes-front.ensures.front c.if-bytes-lt-HEAD_LIMIT.false c.in-Open.ensures

pub returns-in-Bad : goal.returns-in-Bad
returns-in-Bad c = bad_finds c.args.bytes.now c.first_bytes-front.result.now c.judge.new.fields c.first_bytes-front.ensures.front c.in-Bad.ensures
