use Rattle.std.proofs.Common.{◌<◌, arith}
use Rattle.mx_http.proofs.Compact.{escape_short, escape_control, escape_none}
use Rattle.mx_http.proofs.print.put_escaped.Goals as goal

pub returns-in-0 : goal.returns-in-0
returns-in-0 g c =
    let text = escape_control c.args.byte c.escape_letter.result c.hex_digit.result c.hex_digit-in-0.result c.escape_letter.ensures c.in-0.is c.if-byte-lt32.true
    c.hex_digit.ensures c.hex_digit-in-0.ensures in
    rw text c.put.ensures

pub returns-in-0-2 : goal.returns-in-0-2
returns-in-0-2 g c =
    let text = escape_none c.args.byte c.escape_letter.result c.escape_letter.ensures c.in-0.is c.if-byte-lt32.false in
    rw text c.put-in-0-2.ensures

pub returns-in_default : goal.returns-in_default
returns-in_default g c =
    let some : 0 < c.escape_letter.result = omega arith in
    let text = escape_short c.args.byte c.escape_letter.result c.escape_letter.ensures some in
    rw text c.put-in_default.ensures
