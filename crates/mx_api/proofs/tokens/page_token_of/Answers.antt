use Rattle.std.proofs.Common.{ap, ◌∙◌, sym}
use Rattle.std.specs.Result.{result_ok}
use Rattle.mx_api.proofs.Readers.{page_read}
use Rattle.mx_api.proofs.tokens.page_token_of.Goals as goal

pub returns-in-Ok : goal.returns-in-Ok
returns-in-Ok c =
    ap result_ok (sym c.in-Ok.is) ∙ page_read c.args.text.now c.read_page_token.result c.read_page_token.ensures.found c.read_page_token.ensures.back

pub returns-in-Err : goal.returns-in-Err
returns-in-Err c =
    ap result_ok (sym c.in-Err.is) ∙ page_read c.args.text.now c.read_page_token.result c.read_page_token.ensures.found c.read_page_token.ensures.back
