-- What a sync is told, by the filter that it asks by.
use Rattle.std.proofs.Common.{◌≡◌, ℕ, Bool, List, Option, Some, Result, sym, ◌∙◌, subst}
use Rattle.std.specs.Prelude.{IfOk}
use Rattle.mx_ask.specs.declared.said.Said.{Said}
use Rattle.mx_filter.specs.declared.parts.Filter.{Filter}
use Rattle.mx_fold.specs.Lists.{Lists}
use Rattle.mx_ids.specs.declared.sync_token.SyncToken.{SyncToken}
use Rattle.mx_acts.specs.Reads.{sync_ask, sync_by, sync_told}

pub synced : {E : Type 0} (l : Lists) (user : List ℕ) (since : Option SyncToken) (full after : Bool) (wanted : Option Filter) (f : Filter) (o : Option Filter) (r : Result Said E) → o ≡ wanted → o ≡ Some f
    → IfOk r (λ s. s ≡ sync_told l user (sync_ask since full after f)) → IfOk r (λ s. s ≡ sync_by l user since full after wanted)
synced l user since full after wanted f o r is some told = subst (λ x. IfOk r (λ s. s ≡ sync_by l user since full after x)) (sym some ∙ is) told
