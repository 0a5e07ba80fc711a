-- The token that a text is, if it is one.
use Rattle.std.specs.Prelude.{ℕ, ◌-◌, ◌^◌, List, Option}
use Rattle.std.specs.Result.{result_ok}
use Rattle.mx_ids.specs.Page as page
use Rattle.mx_ids.specs.Sync as sync
use Rattle.mx_ids.specs.declared.page_token.PageToken.{PageToken}
use Rattle.mx_ids.specs.declared.sync_token.SyncToken.{SyncToken}

unfoldable pub sync_token_of : List ℕ → Option SyncToken
sync_token_of text = result_ok (sync.judged (sync.sync_token_at (2 ^ 64 - 1) text))

unfoldable pub page_token_of : List ℕ → Option PageToken
page_token_of text = result_ok (page.judged (page.page_token_at (2 ^ 64 - 1) text))
