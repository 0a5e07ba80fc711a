-- The token that a text is read as, from what its reader ensures.
use Rattle.std.proofs.Common.{◌≡◌, ◌-◌, ◌^◌, List, ℕ, Result, Ok, Err, IfOk, refl, sym, ap}
use Rattle.std.specs.Result.{result_ok}
use Rattle.mx_ids.specs.Page as page
use Rattle.mx_ids.specs.Sync as sync
use Rattle.mx_ids.specs.declared.page_token.PageToken.{PageToken}
use Rattle.mx_ids.specs.declared.sync_token.SyncToken.{SyncToken}
use Rattle.mx_ids.specs.declared.sync_token.TokenFault.{TokenFault}
use Rattle.mx_ids.proofs.Page.{page_form}
use Rattle.mx_ids.proofs.Sync.{sync_form}
use Rattle.mx_ids.proofs.Tokens.{back_by, found_by, outcome}
use Rattle.mx_api.specs.Tokens.{page_token_of, sync_token_of}

module _ {T : Type 0} (spell : T → List ℕ) (Is : T → Type 0) where
  -- what a reader found is a token of the text
  abbrev Finds : List ℕ → Result T TokenFault → Type 0
  Finds text r = IfOk r (λ t. (text ≡ spell t) × Is t)

  -- a token of the text is found
  abbrev GivesBack : List ℕ → Result T TokenFault → Type 0
  GivesBack text r = (t : T) → text ≡ spell t → Is t → r ≡ Ok t

  -- two readers of which this holds find the same
  same_found : (text : List ℕ) (r q : Result T TokenFault) → Finds text r → GivesBack text r → Finds text q → GivesBack text q → result_ok r ≡ result_ok q
  same_found text (Ok t) q found back also_found also_back = sym (ap result_ok (also_back t found.0 found.1))
  same_found text (Err e) (Ok u) found back also_found also_back = ap result_ok (back u also_found.0 also_found.1)
  same_found text (Err e) (Err f) found back also_found also_back = refl

pub sync_read : (text : List ℕ) (r : Result SyncToken TokenFault) → Finds sync.sync_text sync.IsSyncToken text r → GivesBack sync.sync_text sync.IsSyncToken text r
    → result_ok r ≡ sync_token_of text
unfolding sync_token_of
sync_read text r found back =
    let read : Result SyncToken TokenFault = sync.judged (sync.sync_token_at (2 ^ 64 - 1) text) in
    let is = outcome sync_form text read refl in
    same_found sync.sync_text sync.IsSyncToken text r read found back (found_by sync_form text read is) (back_by sync_form text read is)

pub page_read : (text : List ℕ) (r : Result PageToken TokenFault) → Finds page.page_text page.IsPageToken text r → GivesBack page.page_text page.IsPageToken text r
    → result_ok r ≡ page_token_of text
unfolding page_token_of
page_read text r found back =
    let read : Result PageToken TokenFault = page.judged (page.page_token_at (2 ^ 64 - 1) text) in
    let is = outcome page_form text read refl in
    same_found page.page_text page.IsPageToken text r read found back (found_by page_form text read is) (back_by page_form text read is)
