-- What the map of memberships holds once one entry is set.
use Rattle.std.proofs.Common.{◌≡◌, ℕ, Bool, true, false, cond, List, Option, Some, None, is_some, IsSome, String, refl, sym, ap, subst, ◌∙◌, nat_cmp}
use Rattle.std.proofs.lemmas.Map.Text.{btree_map_updates_text}
use Rattle.std.proofs.lemmas.Slice.Eq.{bytes_eq-Decides}
use Rattle.std.specs.BTreeMap as tree
use Rattle.std.specs.Cmp.Lexicographic.{slice_cmp}
use Rattle.std.specs.declared.alloc.Global.{Global}
use Rattle.std.specs.Option.{option_flatten}
use Rattle.std.specs.Str.{bytes_eq}
use Rattle.std.specs.String.{string_bytes, string_cmp}
use Rattle.mx_auth.specs.Kept.{Memberships, membership_at, KeysStay}

-- ---- memberships

flatten-cond : (b : Bool) (w o : Option (List ℕ)) (m : Option (Option (List ℕ))) → option_flatten m ≡ o → option_flatten (cond b (Some w) m) ≡ cond b w o
flatten-cond true w o m e = refl
flatten-cond false w o m e = e

pub membership_set : (m n : Memberships) (key : List ℕ) (w : Option (List ℕ)) → tree.UpdatesBy string_cmp (λ k. slice_cmp nat_cmp key (string_bytes k)) m n (Some w)
    → (user : List ℕ) → membership_at n user ≡ cond (bytes_eq key user) w (membership_at m user)
membership_set m n key w h user =
    ap option_flatten (btree_map_updates_text key m n (Some w) h user) ∙ flatten-cond (bytes_eq key user) w (membership_at m user) (tree.get_by_text m user) refl

none_of : {A : Type 0} (o : Option A) → is_some o ≡ false → o ≡ None
none_of None e = refl
none_of (Some x) e = absurd cc

same-cond : (b : Bool) (o : Option (List ℕ)) → (b ≡ true → o ≡ None) → cond b None o ≡ o
same-cond true o h = sym (h refl)
same-cond false o h = refl

-- an entry without a membership is put where there was none
pub membership_place : (m n : Memberships) (key : List ℕ) (k : String Global) (there : Bool) → string_bytes k ≡ key → there ≡ is_some (tree.get_by_text m key) → there ≡ false → tree.Updates string_cmp m n k (Some None)
    → (user : List ℕ) → membership_at n user ≡ membership_at m user
membership_place m n key k there is found absent h user =
    membership_set m n (string_bytes k) None h user ∙ ap (λ b. cond (bytes_eq b user) None (membership_at m user)) is ∙ same-cond (bytes_eq key user) (membership_at m user)
    (λ hit. ap (λ q. membership_at m q) (sym ((bytes_eq-Decides key user).0 hit)) ∙ ap option_flatten (none_of (tree.get_by_text m key) (sym found ∙ absent)))

-- ---- keys

pub still-some : {X : Type 0} (b : Bool) (w : X) (o : Option X) → IsSome o → IsSome (cond b (Some w) o)
still-some true w o h = refl
still-some false w o h = h

-- no key is lost where an entry is put
pub keys_set : (m n : Memberships) (key : List ℕ) (w : Option (List ℕ)) → tree.UpdatesBy string_cmp (λ k. slice_cmp nat_cmp key (string_bytes k)) m n (Some w) → KeysStay m n
keys_set m n key w h user is =
    subst (λ o. IsSome o) (sym (btree_map_updates_text key m n (Some w) h user)) (still-some (bytes_eq key user) w (tree.get_by_text m user) is)
