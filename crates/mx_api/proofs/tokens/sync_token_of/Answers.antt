use Rattle.std.proofs.Common.{ap, ◌∙◌, sym}
use Rattle.std.specs.Result.{result_ok}
use Rattle.mx_api.proofs.Readers.{sync_read}
use Rattle.mx_api.proofs.tokens.sync_token_of.Goals as goal

pub returns-in-Ok : goal.returns-in-Ok
returns-in-Ok c =
    ap result_ok (sym c.in-Ok.is) ∙ sync_read c.args.text.now c.read_sync_token.result c.read_sync_token.ensures.found c.read_sync_token.ensures.back

pub returns-in-Err : goal.returns-in-Err
returns-in-Err c =
    ap result_ok (sym c.in-Err.is) ∙ sync_read c.args.text.now c.read_sync_token.result c.read_sync_token.ensures.found c.read_sync_token.ensures.back
