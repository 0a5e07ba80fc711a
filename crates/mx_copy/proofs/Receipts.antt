-- Receipts that are read are those that were sent.
use Rattle.std.proofs.Common.{◌≡◌, ℕ, pos, Bool, true, false, cond, ◌&&◌, List, [], ◌∷◌, ◌++◌, filter, nat_eq, Option, Some, None, option_map, option_and_then, Equal, is_eq, nat_cmp, codes, refl, sym, ap, ap₂, subst, ◌∙◌}
use Rattle.std.proofs.lemmas.Bool.{and_parts, eq-eqb, eqb-true}
use Rattle.std.specs.Cmp.{unsigned_ties}
use Rattle.std.proofs.lemmas.Cmp.{nat_cmp_total, nat_list_eq_equiv}
use Rattle.std.proofs.lemmas.Slice.Eq.{bytes_eq-Decides}
use Rattle.std.specs.List.{AllByRecursion}
use Rattle.std.specs.Map.{values_of}
use Rattle.std.specs.Option.{option_or}
use Rattle.std.specs.Ordering.{eq_by_cmp}
use Rattle.std.specs.Str.{bytes_eq}
use Rattle.mx_ids.specs.Ids.{event_id_text}
use Rattle.mx_ids.specs.declared.event_id.EventId.{EventId}
use Rattle.mx_ids.proofs.Ids.{same_event}
use Rattle.mx_window.proofs.Each.{AllByRecursion-append, AllByRecursion-map}
use Rattle.mx_window.specs.Lasts.{last_of}
use Rattle.mx_window.proofs.Lasts.{last_of-same, last_of-some, option_or-none}
use Rattle.mx_json.specs.declared.value.Json.{Json}
use Rattle.mx_json.specs.declared.value.Json.TheVariants as json
use Rattle.mx_event.specs.Forms.{member}
use Rattle.mx_receipt.specs.Receipts.{same_kind}
use Rattle.mx_receipt.specs.declared.receipt.Receipt.{Receipt}
use Rattle.mx_receipt.specs.declared.receipt.ReceiptKind.{ReceiptKind}
use Rattle.mx_receipt.specs.declared.receipt.ReceiptKind.TheVariants.{Read, Private}
use Rattle.mx_fold.specs.Latest.{latest}
use Rattle.mx_fold.proofs.Latest.{all_sorted, last_is_first, latest_are_last, latest_keyed}
use Rattle.mx_sync_json.specs.Receipts.{content_form, event_at, is_kind, itself, kind_member, kinds_form, mark_form, of_event, users_form}
use Rattle.mx_copy.specs.Looks.{keyed, natural_of, read_at}
use Rattle.mx_copy.specs.Receipts.{Nested, flat, is_of, kind_name, mark_of, marks_sent, nested_of}
use Rattle.mx_copy.specs.Shown.{cut}
use Rattle.mx_copy.proofs.Folded.{IsSeen, keyed_back, keyed_from}
use Rattle.mx_copy.proofs.Looks.{natural_back, object_back}
use Rattle.mx_copy.proofs.Tests.{agree, all_from, everywhere, last_of_both, map_none, none_passes, none_stronger}

mark_back : (x : Receipt) → mark_of (mark_form x) ≡ Some (cut x.ts)
mark_back x = ap (option_and_then (read_at natural_of (codes "ts"))) (object_back (member (codes "ts") (json.Int (pos (cut x.ts))) ∷ [])) ∙ natural_back (cut x.ts)

-- ---- by user

abbrev of_user : List ℕ → Receipt → Bool
of_user user x = bytes_eq x.user user

abbrev users_sent : List Receipt → List ℕ → Option ℕ
users_sent xs user = option_map (λ (x : Receipt). cut x.ts) (last_of (of_user user) xs)

users_back : (xs : List Receipt) → keyed mark_of (users_form xs) ≡ Some (users_sent xs)
users_back xs = keyed_back mark_of (λ (x : Receipt). x.user) mark_form (λ (x : Receipt). cut x.ts) mark_back xs

-- ---- by kind

-- what stands at a kind: nothing where there is no receipt of it
abbrev kind_sent : List Receipt → Option (List ℕ → Option ℕ)
kind_sent [] = None
kind_sent (x ∷ xs) = Some (users_sent (x ∷ xs))

abbrev if_is : {A : Type 0} → Bool → Option A → Option A
if_is b o = cond b o None

abbrev kinds_sent : List Receipt → List ℕ → Option (List ℕ → Option ℕ)
kinds_sent xs kind = option_or (if_is (bytes_eq (codes "m.read") kind) (kind_sent (filter (is_kind Read) xs)))
    (if_is (bytes_eq (codes "m.read.private") kind) (kind_sent (filter (is_kind Private) xs)))

-- one of two members, by tests of their keys
two_there : {A : Type 0} (see : Json → Option A) (a b : Bool) (j k : Json) (f g : A) → see j ≡ Some f → see k ≡ Some g
    → option_and_then see (cond a (Some j) (cond b (Some k) None)) ≡ option_or (if_is a (Some f)) (if_is b (Some g))
two_there see true b j k f g first second = first
two_there see false true j k f g first second = second
two_there see false false j k f g first second = refl

one_there : {A : Type 0} (see : Json → Option A) (b : Bool) (j : Json) (f : A) → see j ≡ Some f → option_and_then see (cond b (Some j) None) ≡ if_is b (Some f)
one_there see true j f is = is
one_there see false j f is = refl

no_member : {A : Type 0} (b : Bool) → if_is {A = A} b None ≡ None
no_member true = refl
no_member false = refl

kinds_at : (kind : List ℕ) (xs ys : List Receipt) → read_at (keyed mark_of) kind (kind_member Read xs ++ kind_member Private ys)
    ≡ option_or (if_is (bytes_eq (codes "m.read") kind) (kind_sent xs)) (if_is (bytes_eq (codes "m.read.private") kind) (kind_sent ys))
kinds_at kind [] [] = sym (ap₂ option_or (no_member (bytes_eq (codes "m.read") kind)) (no_member (bytes_eq (codes "m.read.private") kind)))
kinds_at kind [] (y ∷ ys) = one_there (keyed mark_of) (bytes_eq (codes "m.read.private") kind) (users_form (y ∷ ys)) (users_sent (y ∷ ys)) (users_back (y ∷ ys))
    ∙ sym (ap (λ o. option_or o (if_is (bytes_eq (codes "m.read.private") kind) (kind_sent (y ∷ ys)))) (no_member (bytes_eq (codes "m.read") kind)))
kinds_at kind (x ∷ xs) [] = one_there (keyed mark_of) (bytes_eq (codes "m.read") kind) (users_form (x ∷ xs)) (users_sent (x ∷ xs)) (users_back (x ∷ xs))
    ∙ sym (ap (option_or (if_is (bytes_eq (codes "m.read") kind) (kind_sent (x ∷ xs)))) (no_member (bytes_eq (codes "m.read.private") kind)) ∙ option_or-none _)
kinds_at kind (x ∷ xs) (y ∷ ys) = two_there (keyed mark_of) (bytes_eq (codes "m.read") kind) (bytes_eq (codes "m.read.private") kind)
    (users_form (x ∷ xs)) (users_form (y ∷ ys)) (users_sent (x ∷ xs)) (users_sent (y ∷ ys)) (users_back (x ∷ xs)) (users_back (y ∷ ys))

kind_seen : (kind : ReceiptKind) (xs : List Receipt) → AllByRecursion (λ m. IsSeen (keyed mark_of) m.value) (kind_member kind xs)
kind_seen kind [] = tt
kind_seen kind (x ∷ xs) = ((users_sent (x ∷ xs), users_back (x ∷ xs)), tt)

kinds_back : (xs : List Receipt) → keyed (keyed mark_of) (kinds_form xs) ≡ Some (kinds_sent xs)
kinds_back xs =
    let public = filter (is_kind Read) xs in
    let private = filter (is_kind Private) xs in
    keyed_from (keyed mark_of) (kind_member Read public ++ kind_member Private private) (AllByRecursion-append _ (kind_member Read public) (kind_member Private private) (kind_seen Read public) (kind_seen Private private))
    ∙ (λ i. Some (λ kind. kinds_at kind public private i))

-- a receipt is of a kind and a user
abbrev of_kind : List ℕ → List ℕ → Receipt → Bool
of_kind kind user x = bytes_eq (kind_name x.kind) kind && bytes_eq x.user user

kind_users : (user : List ℕ) (xs : List Receipt) → option_and_then (λ (by_user : List ℕ → Option ℕ). by_user user) (kind_sent xs) ≡ users_sent xs user
kind_users user [] = refl
kind_users user (x ∷ xs) = refl

public_test : (k : ReceiptKind) → same_kind k Read ≡ bytes_eq (kind_name k) (codes "m.read")
public_test Read = refl
public_test Private = refl

private_test : (k : ReceiptKind) → same_kind k Private ≡ bytes_eq (kind_name k) (codes "m.read.private")
private_test Read = refl
private_test Private = refl

-- what is found of a kind and a user
module _ (kind user : List ℕ) (xs : List Receipt) where
  of_one : (k : ReceiptKind) → ((l : ReceiptKind) → same_kind l k ≡ bytes_eq (kind_name l) kind) → users_sent (filter (is_kind k) xs) user ≡ option_map (λ (x : Receipt). cut x.ts) (last_of (of_kind kind user) xs)
  of_one k same = ap (option_map (λ (x : Receipt). cut x.ts)) (last_of_both (is_kind k) (of_user user) xs ∙ (λ i. last_of (λ (x : Receipt). same x.kind i && bytes_eq x.user user) xs))

  kinds_found : option_and_then (λ (by_user : List ℕ → Option ℕ). by_user user) (kinds_sent xs kind) ≡ option_map (λ (x : Receipt). cut x.ts) (last_of (of_kind kind user) xs)
  kinds_found = by_tests (bytes_eq (codes "m.read") kind) (bytes_eq (codes "m.read.private") kind) refl refl
    where
      by_tests : (a b : Bool) → bytes_eq (codes "m.read") kind ≡ a → bytes_eq (codes "m.read.private") kind ≡ b
          → option_and_then (λ (by_user : List ℕ → Option ℕ). by_user user) (option_or (if_is a (kind_sent (filter (is_kind Read) xs))) (if_is b (kind_sent (filter (is_kind Private) xs))))
          ≡ option_map (λ (x : Receipt). cut x.ts) (last_of (of_kind kind user) xs)
      by_tests true true public private =
          let same : codes "m.read" ≡ codes "m.read.private" = (bytes_eq-Decides (codes "m.read") kind).0 public ∙ sym ((bytes_eq-Decides (codes "m.read.private") kind).0 private) in
          let clash : true ≡ false = ap (bytes_eq (codes "m.read")) same in
          absurd cc
      by_tests true false public private =
          ap (option_and_then (λ (by_user : List ℕ → Option ℕ). by_user user)) (option_or-none (kind_sent (filter (is_kind Read) xs)))
          ∙ kind_users user (filter (is_kind Read) xs)
          ∙ of_one Read (λ l. public_test l ∙ ap (bytes_eq (kind_name l)) ((bytes_eq-Decides (codes "m.read") kind).0 public))
      by_tests false true public private =
          kind_users user (filter (is_kind Private) xs) ∙ of_one Private (λ l. private_test l ∙ ap (bytes_eq (kind_name l)) ((bytes_eq-Decides (codes "m.read.private") kind).0 private))
      by_tests false false public private =
          sym (ap (option_map (λ (x : Receipt). cut x.ts)) ((λ i. last_of (λ (x : Receipt). missed x.kind i && bytes_eq x.user user) xs) ∙ none_passes xs))
        where
          missed : (k : ReceiptKind) → bytes_eq (kind_name k) kind ≡ false
          missed Read = public
          missed Private = private

-- ---- by event

event_test : (server : List ℕ) (x y : EventId) → bytes_eq (event_id_text server x) (event_id_text server y) ≡ nat_eq x.at y.at
event_test server x y = agree (bytes_eq (event_id_text server x) (event_id_text server y)) (nat_eq x.at y.at)
    (λ same. eq-eqb x.at y.at (ap (λ (e : EventId). e.at) (same_event server x y ((bytes_eq-Decides (event_id_text server x) (event_id_text server y)).0 same))))
    (λ same. (bytes_eq-Decides (event_id_text server x) (event_id_text server y)).1 (ap (event_id_text server) (λ i. record { at = eqb-true x.at y.at same i })))

exact : (k l : ℕ) → nat_cmp k l ≡ Equal → k ≡ l
exact k l is = eqb-true k l (unsigned_ties k l ∙ ap is_eq is)

module _ (server : List ℕ) (xs : List Receipt) where
  -- the events that receipts name, each with its last receipt
  abbrev named : List (ℕ × Receipt)
  named = latest nat_cmp event_at itself xs

  abbrev has_text : List ℕ → ℕ × Receipt → Bool
  has_text event p = bytes_eq (event_id_text server p.1.event) event

  abbrev nested_sent : Nested
  nested_sent event = option_map (λ (p : ℕ × Receipt). kinds_sent (of_event p.0 xs)) (last_of (has_text event) named)

  nested_back : nested_of (content_form server xs) ≡ Some nested_sent
  nested_back = keyed_back (keyed (keyed mark_of)) (λ (p : ℕ × Receipt). event_id_text server p.1.event) (λ (p : ℕ × Receipt). kinds_form (of_event p.0 xs))
      (λ (p : ℕ × Receipt). kinds_sent (of_event p.0 xs)) (λ p. kinds_back (of_event p.0 xs)) named

  -- each stands under its own position
  own_place : AllByRecursion (λ (p : ℕ × Receipt). p.0 ≡ p.1.event.at) named
  own_place = subst (AllByRecursion (λ (p : ℕ × Receipt). p.0 ≡ p.1.event.at)) (latest_keyed nat_cmp exact event_at xs)
      (AllByRecursion-map (λ (p : ℕ × Receipt). p.0 ≡ p.1.event.at) (λ (x : Receipt). (x.event.at, x)) (values_of named) (everywhere (λ x. refl) (values_of named)))

  module _ (event kind user : List ℕ) where
    -- where one of them has the text
    at_named : (p : ℕ × Receipt) → p.0 ≡ p.1.event.at → has_text event p ≡ true
        → option_and_then (λ (by_user : List ℕ → Option ℕ). by_user user) (kinds_sent (of_event p.0 xs) kind) ≡ marks_sent server xs event kind user
    at_named p own has =
        kinds_found kind user (of_event p.0 xs)
        ∙ ap (option_map (λ (x : Receipt). cut x.ts)) (last_of_both (λ (x : Receipt). nat_eq x.event.at p.0) (of_kind kind user) xs
        ∙ (λ i. last_of (λ (x : Receipt). same x i && of_kind kind user x) xs))
      where
        same : (x : Receipt) → nat_eq x.event.at p.0 ≡ bytes_eq (event_id_text server x.event) event
        same x = ap (nat_eq x.event.at) own ∙ sym (event_test server x.event p.1.event) ∙ ap (bytes_eq (event_id_text server x.event)) ((bytes_eq-Decides (event_id_text server p.1.event) event).0 has)

    -- where none of them has it no receipt has
    none_named : (x : Receipt) → last_of (has_text event) named ≡ None → bytes_eq (event_id_text server x.event) event ≡ true → last_of (is_of server event kind user) xs ≡ None
    none_named x none has =
        let text : event_id_text server x.event ≡ event = (bytes_eq-Decides (event_id_text server x.event) event).0 has in
        let by_place : last_of (λ (p : ℕ × Receipt). eq_by_cmp nat_cmp x.event.at p.0) named ≡ None = sym (last_of-same (has_text event) (λ (p : ℕ × Receipt). eq_by_cmp nat_cmp x.event.at p.0) named (all_from (same text) named own_place)) ∙ none in
        let by_key : option_map itself (last_of (λ (y : Receipt). eq_by_cmp nat_cmp x.event.at y.event.at) xs) ≡ None =
        sym (latest_are_last nat_cmp nat_cmp_total event_at itself x.event.at xs)
        ∙ sym (last_is_first nat_cmp nat_cmp_total x.event.at named (all_sorted nat_cmp nat_cmp_total event_at itself [] xs tt))
        ∙ ap (option_map (λ (p : ℕ × Receipt). p.1)) by_place in
        none_stronger (is_of server event kind user) (λ (y : Receipt). eq_by_cmp nat_cmp x.event.at y.event.at) (weaker text) xs (map_none itself _ by_key)
      where
        same : event_id_text server x.event ≡ event → (p : ℕ × Receipt) → p.0 ≡ p.1.event.at → has_text event p ≡ eq_by_cmp nat_cmp x.event.at p.0
        same text p own =
            ap (bytes_eq (event_id_text server p.1.event)) (sym text)
            ∙ nat_list_eq_equiv.symm (event_id_text server p.1.event) (event_id_text server x.event)
            ∙ event_test server x.event p.1.event ∙ ap (nat_eq x.event.at) (sym own) ∙ unsigned_ties x.event.at p.0

        weaker : event_id_text server x.event ≡ event → (y : Receipt) → is_of server event kind user y ≡ true → eq_by_cmp nat_cmp x.event.at y.event.at ≡ true
        weaker text y is =
            let other : event_id_text server y.event ≡ event = (bytes_eq-Decides (event_id_text server y.event) event).0 (and_parts (bytes_eq (event_id_text server y.event) event) (of_kind kind user y) is).0 in
            sym (unsigned_ties x.event.at y.event.at) ∙ sym (event_test server x.event y.event) ∙ (bytes_eq-Decides (event_id_text server x.event) (event_id_text server y.event)).1 (text ∙ sym other)

    marks_are : flat nested_sent event kind user ≡ marks_sent server xs event kind user
    marks_are = by_named (last_of (has_text event) named) refl
      where
        by_sent : last_of (has_text event) named ≡ None → (o : Option Receipt) → last_of (is_of server event kind user) xs ≡ o → ◌≡◌ {A = Option ℕ} None (option_map (λ (x : Receipt). cut x.ts) o)
        by_sent none None is = refl
        by_sent none (Some x) is =
            let passed = last_of-some (λ (y : Receipt). Unit {0}) (is_of server event kind user) xs x (everywhere (λ y. tt) xs) is in
            let gone = sym is ∙ none_named x none (and_parts (bytes_eq (event_id_text server x.event) event) (of_kind kind user x) passed.0).0 in
            absurd cc

        by_named : (o : Option (ℕ × Receipt)) → last_of (has_text event) named ≡ o
            → option_and_then (λ (by_kind : List ℕ → Option (List ℕ → Option ℕ)). option_and_then (λ (by_user : List ℕ → Option ℕ). by_user user) (by_kind kind)) (option_map (λ (p : ℕ × Receipt). kinds_sent (of_event p.0 xs)) o)
            ≡ marks_sent server xs event kind user
        by_named None is = by_sent is (last_of (is_of server event kind user) xs) refl
        by_named (Some p) is =
            let found = last_of-some (λ (q : ℕ × Receipt). q.0 ≡ q.1.event.at) (has_text event) named p own_place is in
            at_named p found.1 found.0

-- what is read of the content of receipts
pub content_back : (server : List ℕ) (xs : List Receipt) → option_map flat (nested_of (content_form server xs)) ≡ Some (marks_sent server xs)
content_back server xs = ap (option_map flat) (nested_back server xs) ∙ (λ i. Some (λ event kind user. marks_are server xs event kind user i))
