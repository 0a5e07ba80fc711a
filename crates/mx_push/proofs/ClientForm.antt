-- What a dotted path leads to in the client form of an event.
use Rattle.std.proofs.Common.{ℕ, ℤ, ◌≡◌, Bool, true, false, ◌&&◌, List, [], ◌∷◌, ◌++◌, map, min, pos, Option, Some, None, option_and_then, option_map, codes, if◌then◌else◌, refl, sym, ap, ap₂, ◌∙◌}
use mathlib.Core.Logic.{◌⊎◌, inl, inr}
use Rattle.std.proofs.lemmas.Bool.{and_parts}
use Rattle.std.proofs.lemmas.Cmp.{nat_list_eq_equiv}
use Rattle.std.proofs.lemmas.Slice.Eq.{bytes_eq-Decides}
use Rattle.std.specs.Str.{IsUtf8, bytes_eq, chars, encode_utf8_all}
use Rattle.mx_ids.specs.Ids.{event_id_text, room_id_text}
use Rattle.mx_json.specs.Fields.{field, members_in}
use Rattle.mx_json.specs.Keys.{value_at}
use Rattle.mx_json.specs.Lookups.{later_parts, lookup, marks, parts_of, path_parts}
use Rattle.mx_json.specs.Numbers.{largest}
use Rattle.mx_json.specs.declared.members.Member.{Member}
use Rattle.mx_json.specs.declared.value.Json.{Json}
use Rattle.mx_json.specs.declared.value.Json.TheVariants as json
use Rattle.mx_json.specs.declared.value.Json.TheViews.{outs-Int, outs-Text}
use Rattle.mx_event.specs.Forms.{bare_form, event_members, member_if, redacts_of}
use Rattle.mx_event.specs.declared.event.Event.{Event}
use Rattle.mx_event.proofs.Texts.{members_of-Object}
use Rattle.mx_push.specs.Laws.{HasIds, PathsLeadIntoForm}
use Rattle.mx_push.specs.Properties.{at_path, behind, leaf_at, path_at}
use Rattle.mx_push.specs.Settings.{Setting}
use Rattle.mx_json.proofs.PlainKeys.{are_plain}
use Rattle.mx_push.proofs.PlainKeys.{first_key, goes_on, not_first, not_path, same_test}

-- keys with their values, where they have one
abbrev Entries : Type 0
Entries = List (List ℕ × Option Json)

abbrev members_by : Entries → List (Member Json)
members_by [] = []
members_by (x ∷ xs) = member_if x.0 x.1 ++ members_by xs

abbrev first_at : List ℕ → Entries → Option Json
first_at k [] = None
first_at k (x ∷ xs) = if bytes_eq k x.0 then x.1 else first_at k xs

-- each key stands once, and is plain
abbrev AreApart : Entries → Type 0
AreApart [] = Unit {0}
AreApart (x ∷ xs) = (first_at x.0 xs ≡ None) × AreApart xs

abbrev have_plain : Entries → Bool
have_plain [] = true
have_plain (x ∷ xs) = are_plain x.0 && have_plain xs

module _ (k : List ℕ) where
  at_front : (key : List ℕ) (o : Option Json) (xs : Entries) → value_at k (members_by xs) ≡ first_at k xs → first_at key xs ≡ None
      → value_at k (member_if key o ++ members_by xs) ≡ (if bytes_eq k key then o else first_at k xs)
  at_front key (Some v) xs rest alone = λ i. if nat_list_eq_equiv.symm key k i then Some v else rest i
  at_front key None xs rest alone = rest ∙ by_test (bytes_eq k key) refl
    where
      by_test : (b : Bool) → bytes_eq k key ≡ b → first_at k xs ≡ (if b then None else first_at k xs)
      by_test true is = ap (λ l. first_at l xs) ((bytes_eq-Decides k key).0 is) ∙ alone
      by_test false is = refl

  members_at : (xs : Entries) → AreApart xs → value_at k (members_by xs) ≡ first_at k xs
  members_at [] apart = refl
  members_at (x ∷ xs) apart = at_front x.0 x.1 xs (members_at xs apart.1) apart.0

-- what lies below a text or a number
module _ (part : List ℕ) (parts : List (List ℕ)) where
  below_text : (t : List ℕ) → lookup (part ∷ parts) (json.Text t) ≡ None
  below_text t = ap (λ y. option_and_then (lookup parts) (value_at part (members_in y))) (outs-Text t)

  below_int : (z : ℤ) → lookup (part ∷ parts) (json.Int z) ≡ None
  below_int z = ap (λ y. option_and_then (lookup parts) (value_at part (members_in y))) (outs-Int z)

  below_texts : (o : Option (List ℕ)) → option_and_then (lookup (part ∷ parts)) (option_map json.Text o) ≡ None
  below_texts None = refl
  below_texts (Some t) = below_text t

  -- nothing lies below what has another key, or is such a value
  abbrev HaveNone : List ℕ → Entries → Type 0
  HaveNone k [] = Unit {0}
  HaveNone k (x ∷ xs) = ((bytes_eq k x.0 ≡ false) ⊎ (option_and_then (lookup (part ∷ parts)) x.1 ≡ None)) × HaveNone k xs

  below_first : (k : List ℕ) (xs : Entries) → HaveNone k xs → option_and_then (lookup (part ∷ parts)) (first_at k xs) ≡ None
  below_first k [] all = refl
  below_first k (x ∷ xs) all = by_case all.0 (below_first k xs all.1)
    where
      by_test : (b : Bool) → option_and_then (lookup (part ∷ parts)) x.1 ≡ None → option_and_then (lookup (part ∷ parts)) (first_at k xs) ≡ None
          → option_and_then (lookup (part ∷ parts)) (if b then x.1 else first_at k xs) ≡ None
      by_test true here rest = here
      by_test false here rest = rest

      by_case : (bytes_eq k x.0 ≡ false) ⊎ (option_and_then (lookup (part ∷ parts)) x.1 ≡ None) → option_and_then (lookup (part ∷ parts)) (first_at k xs) ≡ None
          → option_and_then (lookup (part ∷ parts)) (if bytes_eq k x.0 then x.1 else first_at k xs) ≡ None
      by_case (inl other) rest = rw other rest
      by_case (inr here) rest = by_test (bytes_eq k x.0) here rest

at_itself : (o : Option Json) → option_and_then (lookup []) o ≡ o
at_itself None = refl
at_itself (Some j) = refl

module _ (path : List ℕ) (text : IsUtf8 path) where
  -- a path of one part is looked up as its part
  one_part : later_parts (marks (chars path)) ≡ [] → (xs : Entries) → have_plain xs ≡ true → first_at (first_key path) xs ≡ first_at path xs
  one_part alone [] plain = refl
  one_part alone (x ∷ xs) plain =
      let p = and_parts (are_plain x.0) (have_plain xs) plain in
      let rest = one_part alone xs p.1 in
      let same = same_test path text x.0 p.0 alone in
      λ i. if same i then x.1 else rest i

  -- one of more parts is no key
  no_entry : (p : List ℕ) (ps : List (List ℕ)) → later_parts (marks (chars path)) ≡ p ∷ ps → (xs : Entries) → have_plain xs ≡ true → first_at path xs ≡ None
  no_entry p ps more [] plain = refl
  no_entry p ps more (x ∷ xs) plain =
      let q = and_parts (are_plain x.0) (have_plain xs) plain in
      rw (not_path path text x.0 q.0 p ps more) (no_entry p ps more xs q.1)

-- the entries of an event's client form
abbrev entries : List ℕ → List ℕ → Event → Entries
entries room id e =
    (codes "content", Some e.content)
    ∷ (codes "event_id", Some (json.Text id))
    ∷ (codes "origin_server_ts", Some (json.Int (pos (min e.ts largest))))
    ∷ (codes "redacts", redacts_of e)
    ∷ (codes "room_id", Some (json.Text room))
    ∷ (codes "sender", Some (json.Text e.sender))
    ∷ (codes "state_key", option_map json.Text e.state_key)
    ∷ (codes "type", Some (json.Text e.kind))
    ∷ []

form_at : (server k : List ℕ) (s : Setting) (e : Event) → HasIds server s e → field k (bare_form server true e) ≡ leaf_at k s e
form_at server k s e ids =
    ap (value_at k) (members_of-Object (event_members server true [] e))
    ∙ members_at k (entries (room_id_text server e.room) (event_id_text server e.id) e) (refl, (refl, (refl, (refl, (refl, (refl, (refl, (refl, tt))))))))
    ∙ ap₂ (λ room id. first_at k (entries room id e)) (sym ids.room) (sym ids.event)

content_front : chars (codes "content.") ≡ codes "content" ++ 46 ∷ []
unfolding chars
content_front = refl

redacts_front : chars (codes "redacts.") ≡ codes "redacts" ++ 46 ∷ []
unfolding chars
redacts_front = refl

module _ (path : List ℕ) (text : IsUtf8 path) (s : Setting) (e : Event) where
  abbrev below : List (List ℕ) → Option Json → Option Json
  below later o = option_and_then (lookup (map encode_utf8_all later)) o

  in_leaf : behind (codes "content" ++ 46 ∷ []) (chars path) ≡ None → behind (codes "redacts" ++ 46 ∷ []) (chars path) ≡ None
      → (later : List (List ℕ)) → later_parts (marks (chars path)) ≡ later → leaf_at path s e ≡ below later (leaf_at (first_key path) s e)
  in_leaf content redacts [] alone = sym (at_itself (leaf_at (first_key path) s e) ∙ one_part path text alone (entries s.room s.event_id e) refl)
  in_leaf content redacts (p ∷ ps) more =
      let q = encode_utf8_all p in
      let qs = map encode_utf8_all ps in
      no_entry path text p ps more (entries s.room s.event_id e) refl
      ∙ sym (below_first q qs (first_key path) (entries s.room s.event_id e) (
        inl (not_first path text (codes "content") refl p ps more content),
        (
          inr (below_text q qs s.event_id),
          (
            inr (below_int q qs (pos (min e.ts largest))),
            (
              inl (not_first path text (codes "redacts") refl p ps more redacts),
              (
                inr (below_text q qs s.room),
                (
                  inr (below_text q qs e.sender),
                  (
                    inr (below_texts q qs e.state_key),
                    (inr (below_text q qs e.kind), tt),
                  ),
                ),
              ),
            ),
          ),
        ),
      ))

  by_front : (a b : Option (List ℕ)) → behind (codes "content" ++ 46 ∷ []) (chars path) ≡ a → behind (codes "redacts" ++ 46 ∷ []) (chars path) ≡ b
      → path_at a b path s e ≡ below (later_parts (marks (chars path))) (leaf_at (first_key path) s e)
  by_front (Some rest) b is other =
      let on = goes_on path text (codes "content") refl rest is in
      sym (ap₂ (λ later k. below later (leaf_at k s e)) on.1 on.0)
  by_front None (Some rest) none is =
      let on = goes_on path text (codes "redacts") refl rest is in
      sym (ap₂ (λ later k. below later (leaf_at k s e)) on.1 on.0)
  by_front None None none also = in_leaf none also (later_parts (marks (chars path))) refl

pub paths_lead_into_form : PathsLeadIntoForm
unfolding at_path path_parts
paths_lead_into_form server path s e ids text =
    by_front path text s e _ _ (ap (λ f. behind f (chars path)) (sym content_front)) (ap (λ f. behind f (chars path)) (sym redacts_front))
    ∙ ap (below path text s e (later_parts (marks (chars path)))) (sym (form_at server (first_key path) s e ids))
