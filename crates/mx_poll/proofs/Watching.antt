-- A sink that is asked whether who takes its bytes has gone away.
use Rattle.std.proofs.Common.{◌≡◌, ℕ, ◌≤◌, Bool, List, Option, false, true, refl, sym, subst, ◌∙◌, arith}
use Rattle.mx_outside.specs.Causes.{Rose}
use Rattle.mx_poll.specs.Waits.{IsWatched}

-- it wasn't asked
pub watched_none : (gone : Bool) (written : Option (List ℕ)) (faults : ℕ) → gone ≡ false → IsWatched gone written written faults faults
watched_none gone written faults stays =
    subst (λ left. IsWatched left written written faults faults) (sym stays) (record { bytes = refl; count = omega arith; cause = λ left. absurd cc })

-- a count that rose behind an earlier one rose from that on
pub rose_from : (before mid now : ℕ) → before ≤ mid → Rose mid now → Rose before now
rose_from before mid now up rose = omega (arith, up, rose)

-- it is asked once more
pub watched_more : (gone : Bool) (first mid last : Option (List ℕ)) (faults faults_mid faults_last : ℕ) → IsWatched false first mid faults faults_mid → last ≡ mid → faults_mid ≤ faults_last
    → (gone ≡ true → Rose faults_mid faults_last) → IsWatched gone first last faults faults_last
watched_more gone first mid last faults faults_mid faults_last h same up cause = record {
  bytes = same ∙ h.bytes;
  count = omega (arith, h.count, up);
  cause = λ left. rose_from faults faults_mid faults_last h.count (cause left);
}
