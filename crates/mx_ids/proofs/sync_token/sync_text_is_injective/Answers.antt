use Rattle.mx_ids.proofs.Sync.{same_token}
use Rattle.mx_ids.proofs.sync_token.sync_text_is_injective.Goals as goal

pub returns : goal.returns
returns c = same_token
