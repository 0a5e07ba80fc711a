use Rattle.mx_ids.proofs.Page.{same_token}
use Rattle.mx_ids.proofs.page_token.page_text_is_injective.Goals as goal

pub returns : goal.returns
returns c = same_token
