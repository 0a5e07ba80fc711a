use Rattle.std.proofs.Common.{◌∙◌, codes, arith}
use Rattle.clap.specs.Words.{found_of}
use Rattle.mx_words.specs.Matches.{way_at}
use Rattle.mx_words.proofs.Bounds.{given_number, has_number}
use Rattle.mx_words.proofs.Given.{refused, taken}
use Rattle.mx_words.proofs.matches.connections.Goals as goal

pub number-given-requires : goal.number-given-requires
number-given-requires c =
    has_number 50000 (found_of c.args.matches.now) (codes "connections") c.in-Some.word.now (omega arith) c.requires c.in-Some.ensures

pub returns-then-most_connections-given : goal.returns-then-most_connections-given
returns-then-most_connections-given c =
    let word = given_number 50000 (found_of c.args.matches.now) (codes "connections") c.in-Some.word.now c.requires c.in-Some.ensures in
    refused (way_at c.args.mode) c.in-Some.word.now _ _ _ c.in-Some.ensures c.most_connections.ensures (c.number-given.ensures ∙ word)
    _ c.too_many.ensures c.if-most_connections-given.true

pub returns-else-most_connections-given : goal.returns-else-most_connections-given
returns-else-most_connections-given c =
    let word = given_number 50000 (found_of c.args.matches.now) (codes "connections") c.in-Some.word.now c.requires c.in-Some.ensures in
    taken (way_at c.args.mode) c.in-Some.word.now _ _ _ c.in-Some.ensures c.most_connections.ensures (c.number-given.ensures ∙ word)
    c.if-most_connections-given.false
