-- What is kept of a room with one event more.
use Rattle.std.proofs.Common.{◌≡◌, ℕ, ◌+◌, ◌≤◌, ◌<◌, Bool, true, false, cond, ◌&&◌, ◌||◌, List, [], ◌∷◌, ◌++◌, length, drop, map, Option, Some, None, is_some, option_map, option_and_then, unwrap_or, refl, sym, ap, ap₂, subst, ◌∙◌, codes, arith, length-append}
use Rattle.std.proofs.lemmas.Bool.{and_parts}
use Rattle.std.proofs.lemmas.List.{map-append, length-map}
use Rattle.std.proofs.lemmas.List.Folds.{list_any-append}
use Rattle.std.specs.List.{AllByRecursion}
use Rattle.mx_window.proofs.Each.{AllByRecursion-append, AllByRecursion-weaker}
use Rattle.std.proofs.lemmas.Slice.Eq.{bytes_eq-Decides}
use Rattle.std.specs.Option.{option_or, option_to_list}
use Rattle.std.specs.Str.{bytes_eq}
use Rattle.mx_window.specs.Lasts.{last_of}
use Rattle.mx_window.proofs.Lasts.{last_of-append}
use Rattle.mx_json.specs.Fields.{text_at}
use Rattle.mx_json.specs.declared.value.Json.{Json}
use Rattle.mx_event.specs.Denied.{target}
use Rattle.mx_event.specs.Kinds.{create_type, member_type, power_type, join_rules_type, has_key, is_of, is_text}
use Rattle.mx_event.specs.Levels.{powers}
use Rattle.mx_event.specs.State.{creator, join_rule, membership_in, membership_of, sender_of, content_of}
use Rattle.mx_event.specs.declared.event.Event.{Event}
use Rattle.mx_auth.specs.declared.kept.Change.{Change}
use Rattle.mx_auth.specs.declared.kept.Change.TheVariants.{Nothing, Creator, JoinRule, Powers, Membership}
use Rattle.mx_auth.specs.declared.kept.Count.{Count}
use Rattle.mx_auth.specs.declared.kept.Kept.{Kept}
use Rattle.mx_auth.specs.Kept.{Memberships, HasPlace, IsKept, IsSet, IsWaiting, KeysStay, any_sent, count_of, next_count, change_of, creator_after, join_rule_after, powers_after, membership_after, membership_at}
use Rattle.mx_auth.proofs.Numbering.{still_in}
use Rattle.mx_auth.specs.Placing.{Longer, PlaceList, PlaceTest, any_place, is_in}

-- ---- the definitions over one event more

count_more : (es : List Event) (e : Event) → next_count (count_of es) ≡ count_of (es ++ e ∷ [])
count_more [] e = refl
count_more (f ∷ []) e = refl
count_more (f ∷ g ∷ es) e = refl

ap_cond : {A B : Type 0} (f : A → B) (b : Bool) (x y : A) → f (cond b x y) ≡ cond b (f x) (f y)
ap_cond f true x y = refl
ap_cond f false x y = refl

last_more : (test : Event → Bool) (es : List Event) (e : Event) → last_of test (es ++ e ∷ []) ≡ cond (test e) (Some e) (last_of test es)
last_more test es e = last_of-append test es (e ∷ []) ∙ first (test e) where
  first : (b : Bool) → option_or (cond b (Some e) None) (last_of test es) ≡ cond b (Some e) (last_of test es)
  first true = refl
  first false = refl

of_last_more : {B : Type 0} (f : Option Event → B) (test : Event → Bool) (es : List Event) (e : Event) → f (last_of test (es ++ e ∷ [])) ≡ cond (test e) (f (Some e)) (f (last_of test es))
of_last_more f test es e = ap f (last_more test es e) ∙ ap_cond f (test e) (Some e) (last_of test es)

creator_more : (es : List Event) (e : Event) → creator (es ++ e ∷ []) ≡ cond (has_key create_type [] e) (Some e.sender) (creator es)
creator_more = of_last_more (option_map sender_of) (has_key create_type [])

join_rule_more : (es : List Event) (e : Event) → join_rule (es ++ e ∷ []) ≡ cond (has_key join_rules_type [] e) (text_at (codes "join_rule") e.content) (join_rule es)
join_rule_more = of_last_more (λ o. option_and_then (text_at (codes "join_rule")) (option_map content_of o)) (has_key join_rules_type [])

powers_more : (es : List Event) (e : Event) → powers (es ++ e ∷ []) ≡ cond (has_key power_type [] e) (Some e.content) (powers es)
powers_more = of_last_more (option_map content_of) (has_key power_type [])

membership_more : (user : List ℕ) (es : List Event) (e : Event) → membership_of user (es ++ e ∷ []) ≡ cond (has_key member_type user e) (membership_in e.content) (membership_of user es)
membership_more user = of_last_more (λ o. option_and_then membership_in (option_map content_of o)) (has_key member_type user)

or-last : (a b : Bool) → (a || (b || false)) ≡ (b || a)
or-last true true = refl
or-last true false = refl
or-last false true = refl
or-last false false = refl

sent_more : (test : PlaceTest) (es : List Event) (e : Event) → any_sent test (es ++ e ∷ []) ≡ (test e.id.at e.sender || any_sent test es)
sent_more test es e =
    list_any-append (λ (f : Event). test f.id.at f.sender) es (e ∷ []) ∙ or-last (any_sent test es) (test e.id.at e.sender)

-- ---- what a change sets, by the tests that choose it

abbrev pick : Bool → Bool → Bool → Bool → List ℕ → Option (List ℕ) → Json → Option (List ℕ) → Change
pick b c d g user rule content membership = cond b (Creator user) (cond c (JoinRule rule) (cond d (Powers content) (cond g (Membership membership) Nothing)))

module _ (user : List ℕ) (rule : Option (List ℕ)) (content : Json) (membership : Option (List ℕ)) where
  creator_picked : (b c d g : Bool) (old : Option (List ℕ)) → creator_after (pick b c d g user rule content membership) old ≡ cond b (Some user) old
  creator_picked true c d g old = refl
  creator_picked false true d g old = refl
  creator_picked false false true g old = refl
  creator_picked false false false true old = refl
  creator_picked false false false false old = refl

  rule_picked : (b c d g : Bool) (old : Option (List ℕ)) → (c ≡ true → b ≡ false) → join_rule_after (pick b c d g user rule content membership) old ≡ cond c rule old
  rule_picked true true d g old h = absurd (cc (h refl))
  rule_picked true false d g old h = refl
  rule_picked false true d g old h = refl
  rule_picked false false true g old h = refl
  rule_picked false false false true old h = refl
  rule_picked false false false false old h = refl

  powers_picked : (b c d g : Bool) (old : Option Json) → (d ≡ true → b ≡ false) → (d ≡ true → c ≡ false) → powers_after (pick b c d g user rule content membership) old ≡ cond d (Some content) old
  powers_picked true c true g old h k = absurd (cc (h refl))
  powers_picked true c false g old h k = refl
  powers_picked false true true g old h k = absurd (cc (k refl))
  powers_picked false true false g old h k = refl
  powers_picked false false true g old h k = refl
  powers_picked false false false true old h k = refl
  powers_picked false false false false old h k = refl

  membership_picked : (b c d g : Bool) (key user' : List ℕ) (old : Option (List ℕ)) → (g ≡ true → b ≡ false) → (g ≡ true → c ≡ false) → (g ≡ true → d ≡ false)
      → membership_after (pick b c d g user rule content membership) key user' old ≡ cond (g && bytes_eq key user') membership old
  membership_picked true c d true key u old h k l = absurd (cc (h refl))
  membership_picked true c d false key u old h k l = refl
  membership_picked false true d true key u old h k l = absurd (cc (k refl))
  membership_picked false true d false key u old h k l = refl
  membership_picked false false true true key u old h k l = absurd (cc (l refl))
  membership_picked false false true false key u old h k l = refl
  membership_picked false false false true key u old h k l = refl
  membership_picked false false false false key u old h k l = refl

-- an event of one type is of no other
other_type : (kind other key : List ℕ) (e : Event) → bytes_eq kind other ≡ false → is_of kind e ≡ true → has_key other key e ≡ false
other_type kind other key e apart is =
    ap (λ b. b && is_text key e.state_key) (ap (λ k. bytes_eq k other) ((bytes_eq-Decides e.kind kind).0 is) ∙ apart)

has_type : (kind key : List ℕ) (e : Event) → has_key kind key e ≡ true → is_of kind e ≡ true
has_type kind key e h = (and_parts (is_of kind e) (is_text key e.state_key) h).0

member_type_of : (e : Event) → (is_of member_type e && is_some e.state_key) ≡ true → is_of member_type e ≡ true
member_type_of e h = (and_parts (is_of member_type e) (is_some e.state_key) h).0

about : (b : Bool) (key : Option (List ℕ)) (user : List ℕ) → ((b && is_some key) && bytes_eq (unwrap_or key []) user) ≡ (b && is_text user key)
about true None user = refl
about true (Some k) user = refl
about false None user = refl
about false (Some k) user = refl

-- ---- one event more

module _ (e : Event) where
  abbrev created : Bool
  created = has_key create_type [] e

  abbrev ruled : Bool
  ruled = has_key join_rules_type [] e

  abbrev leveled : Bool
  leveled = has_key power_type [] e

  abbrev joined : Bool
  joined = is_of member_type e && is_some e.state_key

  abbrev rule : Option (List ℕ)
  rule = text_at (codes "join_rule") e.content

  creator_changed : (old : Option (List ℕ)) → creator_after (change_of e) old ≡ cond created (Some e.sender) old
  creator_changed = creator_picked e.sender rule e.content (membership_in e.content) created ruled leveled joined

  rule_changed : (old : Option (List ℕ)) → join_rule_after (change_of e) old ≡ cond ruled rule old
  rule_changed old =
      rule_picked e.sender rule e.content (membership_in e.content) created ruled leveled joined old
      (λ h. other_type join_rules_type create_type [] e refl (has_type join_rules_type [] e h))

  powers_changed : (old : Option Json) → powers_after (change_of e) old ≡ cond leveled (Some e.content) old
  powers_changed old =
      powers_picked e.sender rule e.content (membership_in e.content) created ruled leveled joined old
      (λ h. other_type power_type create_type [] e refl (has_type power_type [] e h))
      (λ h. other_type power_type join_rules_type [] e refl (has_type power_type [] e h))

  membership_changed : (user : List ℕ) (old : Option (List ℕ)) → membership_after (change_of e) (target e) user old ≡ cond (has_key member_type user e) (membership_in e.content) old
  membership_changed user old =
      membership_picked e.sender rule e.content (membership_in e.content) created ruled leveled joined (target e) user old
      (λ h. other_type member_type create_type [] e refl (member_type_of e h))
      (λ h. other_type member_type join_rules_type [] e refl (member_type_of e h))
      (λ h. other_type member_type power_type [] e refl (member_type_of e h))
      ∙ ap (λ b. cond b (membership_in e.content) old) (about (is_of member_type e) e.state_key user)

-- what is kept, once a change is set
pub next_kept : (old new : Kept) (n : Count) (places : PlaceList) (es : List Event) (e : Event) (w : Change) (key sender : List ℕ) (at : ℕ)
    → n ≡ next_count old.count → ((test : PlaceTest) → any_place test places.items ≡ (test at sender || any_place test old.places.items))
    → IsSet w key (record old { count = n; places = places }) new → w ≡ change_of e → key ≡ target e → sender ≡ e.sender → at ≡ e.id.at → IsKept old es → IsKept new (es ++ e ∷ [])
next_kept old new n places es e w key sender at more_by_one more set is about whose stands kept = record {
  counted = set.counted ∙ more_by_one ∙ ap next_count kept.counted ∙ count_more es e;
  created = set.created ∙ ap (λ v. creator_after v old.creator) is ∙ creator_changed e old.creator ∙ ap (cond (has_key create_type [] e) (Some e.sender)) kept.created ∙ sym (creator_more es e);
  ruled = set.ruled ∙ ap (λ v. join_rule_after v old.join_rule) is ∙ rule_changed e old.join_rule ∙ ap (cond (has_key join_rules_type [] e) (text_at (codes "join_rule") e.content)) kept.ruled ∙ sym (join_rule_more es e);
  leveled = set.leveled ∙ ap (λ v. powers_after v old.powers) is ∙ powers_changed e old.powers ∙ ap (cond (has_key power_type [] e) (Some e.content)) kept.leveled ∙ sym (powers_more es e);
  joined = λ user.
      set.joined user ∙ ap (λ v. membership_after v key user (membership_at old.memberships user)) is
      ∙ ap (λ k. membership_after (change_of e) k user (membership_at old.memberships user)) about
      ∙ membership_changed e user (membership_at old.memberships user) ∙ ap (cond (has_key member_type user e) (membership_in e.content)) (kept.joined user) ∙ sym (membership_more user es e);
  placed = λ test.
      ap (λ (l : PlaceList). any_place test l.items) set.placed ∙ more test ∙ ap₂ (λ p who. test p who || any_place test old.places.items) stands whose
      ∙ ap (λ b. test e.id.at e.sender || b) (kept.placed test) ∙ sym (sent_more test es e);
}

-- what is kept, where nothing that the rules ask is changed
pub still_kept : (old : Kept) (ms : Memberships) (places : PlaceList) (es : List Event) → ((user : List ℕ) → membership_at ms user ≡ membership_at old.memberships user)
    → places.items ≡ old.places.items → IsKept old es → IsKept (record old { memberships = ms; places = places }) es
still_kept old ms places es same again kept = record {
  counted = kept.counted;
  created = kept.created;
  ruled = kept.ruled;
  leveled = kept.leveled;
  joined = λ user. same user ∙ kept.joined user;
  placed = λ test. ap (any_place test) again ∙ kept.placed test;
}

-- ---- what waits

-- the place for a membership stands where no key is lost
stays : (c : Change) (key : List ℕ) (m n : Memberships) → KeysStay m n → HasPlace c key m → HasPlace c key n
stays Nothing key m n keys h = h
stays (Creator user) key m n keys h = h
stays (JoinRule text) key m n keys h = h
stays (Powers content) key m n keys h = h
stays (Membership membership) key m n keys h = keys key h

members_stay : (m n : Memberships) (es : List Event) → KeysStay m n → AllByRecursion (λ (e : Event). HasPlace (change_of e) (target e) m) es → AllByRecursion (λ (e : Event). HasPlace (change_of e) (target e) n) es
members_stay m n es keys = AllByRecursion-weaker (λ (e : Event). HasPlace (change_of e) (target e) m) (λ (e : Event). HasPlace (change_of e) (target e) n) (λ e. stays (change_of e) (target e) m n keys) es

-- so do the senders
known_stay : (old new : List (List ℕ)) (es : List Event) → Longer old new → AllByRecursion (λ (e : Event). is_in old e.sender ≡ true) es → AllByRecursion (λ (e : Event). is_in new e.sender ≡ true) es
known_stay old new es more =
    AllByRecursion-weaker (λ (e : Event). is_in old e.sender ≡ true) (λ (e : Event). is_in new e.sender ≡ true) (λ e h. still_in old new e.sender more h) es

-- what waits goes on waiting
pub still_waiting : (old new : Kept) (ws : List Change) (es : List Event) → KeysStay old.memberships new.memberships → Longer old.places.names new.places.names → length es ≤ new.places.spare
    → IsWaiting old ws es → IsWaiting new ws es
still_waiting old new ws es keys names enough h = record {
  copied = h.copied;
  members = members_stay old.memberships new.memberships es keys h.members;
  known = known_stay old.places.names new.places.names es names h.known;
  places = enough;
}

-- one more waits
pub more_waiting : (old new : Kept) (ws : List Change) (es : List Event) (w : Change) (e : Event) → KeysStay old.memberships new.memberships → Longer old.places.names new.places.names
    → length es + 1 ≤ new.places.spare → w ≡ change_of e → HasPlace (change_of e) (target e) new.memberships → is_in new.places.names e.sender ≡ true
    → IsWaiting old ws es → IsWaiting new (ws ++ w ∷ []) (es ++ e ∷ [])
more_waiting old new ws es w e keys names enough is here who h = record {
  copied = ap₂ (λ vs (v : Change). vs ++ v ∷ []) h.copied is ∙ sym (map-append change_of es (e ∷ []));
  members = AllByRecursion-append (λ (x : Event). HasPlace (change_of x) (target x) new.memberships) es (e ∷ []) (members_stay old.memberships new.memberships es keys h.members) (here, tt);
  known = AllByRecursion-append (λ (x : Event). is_in new.places.names x.sender ≡ true) es (e ∷ []) (known_stay old.places.names new.places.names es names h.known) (who, tt);
  places = omega (arith, enough, length-append es (e ∷ []));
}

-- how many wait
pub count_waiting : (kept : Kept) (ws : List Change) (es : List Event) → IsWaiting kept ws es → length ws ≡ length es
count_waiting kept ws es h = ap length h.copied ∙ length-map es change_of

-- the first that waits, and the others
pub record FirstWaiting (kept : Kept) (ws : List Change) (es : List Event) (e : Event) : Type 0 where
  pub first : ws ≡ change_of e ∷ map change_of (drop 1 es)
  pub member : HasPlace (change_of e) (target e) kept.memberships
  pub known : is_in kept.places.names e.sender ≡ true
  pub place : 0 < kept.places.spare
  pub members : AllByRecursion (λ (x : Event). HasPlace (change_of x) (target x) kept.memberships) (drop 1 es)
  pub all_known : AllByRecursion (λ (x : Event). is_in kept.places.names x.sender ≡ true) (drop 1 es)
  pub places : length (drop 1 es) + 1 ≤ kept.places.spare

pub first_waiting : (kept : Kept) (ws : List Change) (es : List Event) (e : Event) → es ≡ e ∷ drop 1 es → IsWaiting kept ws es → FirstWaiting kept ws es e
first_waiting kept ws es e is h =
    let members = subst (AllByRecursion (λ (x : Event). HasPlace (change_of x) (target x) kept.memberships)) is h.members in
    let known = subst (AllByRecursion (λ (x : Event). is_in kept.places.names x.sender ≡ true)) is h.known in
    record {
      first = h.copied ∙ ap (map change_of) is;
      member = members.0;
      known = known.0;
      place = omega (arith, h.places, ap length is);
      members = members.1;
      all_known = known.1;
      places = omega (arith, h.places, ap length is);
    }

-- the others that wait, once the first is settled
pub rest_waiting : (old new : Kept) (ws rest : List Change) (es : List Event) (e : Event) → es ≡ e ∷ drop 1 es → IsWaiting old ws es → rest ≡ drop 1 ws → KeysStay old.memberships new.memberships
    → new.places.names ≡ old.places.names → new.places.spare + 1 ≡ old.places.spare → IsWaiting new rest (drop 1 es)
rest_waiting old new ws rest es e is h left keys names spare =
    let first = first_waiting old ws es e is h in record {
      copied = left ∙ ap (drop 1) first.first;
      members = members_stay old.memberships new.memberships (drop 1 es) keys first.members;
      known = subst (λ m. AllByRecursion (λ (x : Event). is_in m x.sender ≡ true) (drop 1 es)) (sym names) first.all_known;
      places = omega (arith, first.places, spare);
    }

first_or : {A : Type 0} → A → List A → A
first_or d [] = d
first_or d (x ∷ xs) = x

-- what is taken from the front of a list
pub popped : {A : Type 0} (ws rest : List A) (o : Option A) (w v : A) (vs : List A) → ws ≡ option_to_list o ++ rest → o ≡ Some w → ws ≡ v ∷ vs → w ≡ v
unfolding first_or
popped ws rest o w v vs is some begins = ap (first_or w) (sym (is ∙ ap (λ p. option_to_list p ++ rest) some) ∙ begins)
