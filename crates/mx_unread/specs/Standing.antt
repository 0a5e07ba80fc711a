-- The push rules that were read last, and when tallies and these stand for a snapshot.
use Rattle.std.specs.Prelude.{◌≡◌, ℕ, ◌≤◌, ◌==◌, Bool, ◌&&◌, ⊤, List, length, Option, Some, None}
use Rattle.std.specs.Str.{bytes_eq}
use Rattle.mx_account.specs.Values.{AreInPlace}
use Rattle.mx_account.specs.declared.entry.Entry.{Entry}
use Rattle.mx_event.specs.Core.History.{Begins}
use Rattle.mx_rules.specs.Rules.{rules_of}
use Rattle.mx_snapshot.specs.declared.snapshot.Snapshot.{Snapshot}
use Rattle.mx_unread.specs.Kept.{StandAll}
use Rattle.mx_unread.specs.Unread.{rules_at}
use Rattle.mx_unread.specs.declared.read_rules.ReadRules.{ReadRules}
use Rattle.mx_unread.specs.declared.tallies.Tallies.{Tallies}

-- the push rules of a user at a position of account data
pub record AreOf (r : ReadRules) (user : List ℕ) (at : ℕ) (entries : List Entry) : Type 0 where
  pub user_is : r.user ≡ user
  pub at_is : r.at ≡ at
  pub rules_are : rules_of r.rules ≡ rules_at user at entries

-- rules that were read are those of their user at their position
abbrev pub AreRead : List Entry → Option ReadRules → Type 0
AreRead entries None = ⊤
AreRead entries (Some r) = (r.at ≤ length entries) × (rules_of r.rules ≡ rules_at r.user r.at entries)

abbrev pub is_of : List ℕ → ℕ → ReadRules → Bool
is_of user at r = r.at == at && bytes_eq r.user user

-- each tally stands for a snapshot, and the rules were read of its account data
pub record Stand (s : Snapshot) (t : Tallies) : Type 0 where
  pub all_stand : StandAll s t.list
  pub are_read : AreRead s.accounts t.rules

-- Rules that were read of account data are those of each list that begins with them.
abbrev pub RulesLast : Type 0
RulesLast = (r : Option ReadRules) (a b : List Entry) → AreInPlace a → AreInPlace b → Begins a b → AreRead a r → AreRead b r
