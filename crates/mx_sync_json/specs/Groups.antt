-- Receipts by event, as the code keeps them.
use Rattle.std.specs.Prelude.{ℕ, List, [], ◌∷◌, Option, Some, None}
use Rattle.std.specs.BTreeMap as tree
use Rattle.std.specs.BTreeMap.{BTreeMap}
use Rattle.std.specs.Borrow.{Bor}
use Rattle.std.specs.Global.{Vec}
use Rattle.std.specs.Ordering.{nat_cmp}
use Rattle.mx_json.specs.declared.members.Member.{Member}
use Rattle.mx_json.specs.declared.value.Json.{Json}
use Rattle.mx_event.specs.Forms.{member}
use Rattle.mx_receipt.specs.declared.receipt.Receipt.{Receipt}
use Rattle.mx_snapshot.specs.Looks.{all_now}
use Rattle.mx_sync_json.specs.Receipts.{users_form}

-- a position and a receipt behind a reference
abbrev pub event_now : ℕ × Bor Receipt → ℕ × Receipt
event_now p = (p.0, p.1.now)

abbrev pub listed : Option (Vec (Bor Receipt)) → List Receipt
listed None = []
listed (Some v) = all_now v.items

abbrev pub list_at : BTreeMap ℕ (Vec (Bor Receipt)) → ℕ → List Receipt
list_at m p = listed (tree.get nat_cmp m p)

-- the receipts of a kind under its key, where there are some
abbrev pub member_of : List ℕ → List Receipt → List (Member Json)
member_of key [] = []
member_of key (x ∷ xs) = member key (users_form (x ∷ xs)) ∷ []
