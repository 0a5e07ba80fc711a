-- What is read of the texts.
use Rattle.std.proofs.Common.{◌≡◌, Option, Some, option_and_then, ap, ◌∙◌}
use Rattle.std.specs.Result.{result_ok}
use Rattle.mx_json.specs.Texts.{json_text}
use Rattle.mx_json.specs.declared.value.Json.{Json}
use Rattle.mx_json.proofs.ReadBack.{reads_back}
use Rattle.mx_pager.specs.Forms.{page_form}
use Rattle.mx_sync_json.specs.Replies.{reply_form}
use Rattle.mx_copy.specs.Laws.{PageTextsReadBack, ReplyTextsReadBack, read_text}
use Rattle.mx_copy.specs.Pages.{page_of}
use Rattle.mx_copy.specs.Replies.{reply_of}
use Rattle.mx_copy.specs.Writable.{IsWritable}
use Rattle.mx_copy.proofs.Pages.{pages_read_back}
use Rattle.mx_copy.proofs.Replies.{replies_read_back}

text_read : {A : Type 0} (see : Json → Option A) (j : Json) (a : A) → IsWritable j → see j ≡ Some a → read_text see (json_text j) ≡ Some a
text_read see j a may is = ap (λ r. option_and_then see (result_ok r)) (reads_back j may.in_range may.formed may.shallow) ∙ is

pub reply_texts_read_back : ReplyTextsReadBack
reply_texts_read_back server device r may = text_read reply_of (reply_form server device r) _ may (replies_read_back server device r)

pub page_texts_read_back : PageTextsReadBack
page_texts_read_back server device p may = text_read page_of (page_form server device p) _ may (pages_read_back server device p)
