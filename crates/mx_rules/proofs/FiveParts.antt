-- What is made of five parts, all of which must be there.
use Rattle.std.proofs.Common.{◌≡◌, Option, Some, None, option_map, option_and_then, refl}
use Rattle.std.proofs.lemmas.Option.{same_Some}

module _ {A B C D E M : Type 0} (make : A → B → C → D → E → M) where
  abbrev pub of_five : Option A → Option B → Option C → Option D → Option E → Option M
  of_five o p q r s = option_and_then (λ a. option_and_then (λ b. option_and_then (λ c. option_and_then (λ d. option_map (make a b c d) s) r) q) p) o

  pub all_there : (a : A) (b : B) (c : C) (d : D) (e : E) (o : Option A) (p : Option B) (q : Option C) (r : Option D) (s : Option E)
      → o ≡ Some a → p ≡ Some b → q ≡ Some c → r ≡ Some d → s ≡ Some e → of_five o p q r s ≡ Some (make a b c d e)
  all_there a b c d e o p q r s first second third fourth fifth = rw (first, second, third, fourth, fifth) refl

  -- the parts of which something was made
  pub record Parts (o : Option A) (p : Option B) (q : Option C) (r : Option D) (s : Option E) (m : M) : Type 0 where
    pub a : A
    pub b : B
    pub c : C
    pub d : D
    pub e : E
    pub first : o ≡ Some a
    pub second : p ≡ Some b
    pub third : q ≡ Some c
    pub fourth : r ≡ Some d
    pub fifth : s ≡ Some e
    pub made : make a b c d e ≡ m

  pub parts_of : (o : Option A) (p : Option B) (q : Option C) (r : Option D) (s : Option E) (m : M) → of_five o p q r s ≡ Some m → Parts o p q r s m
  parts_of None p q r s m is = absurd cc
  parts_of (Some a) None q r s m is = absurd cc
  parts_of (Some a) (Some b) None r s m is = absurd cc
  parts_of (Some a) (Some b) (Some c) None s m is = absurd cc
  parts_of (Some a) (Some b) (Some c) (Some d) None m is = absurd cc
  parts_of (Some a) (Some b) (Some c) (Some d) (Some e) m is = record {
    a = a;
    b = b;
    c = c;
    d = d;
    e = e;
    first = refl;
    second = refl;
    third = refl;
    fourth = refl;
    fifth = refl;
    made = same_Some (make a b c d e) m is;
  }
