-- An event's JSON fits where its texts and contents do.
use Rattle.std.proofs.Common.{◌≡◌, ◌≤◌, ℕ, suc, pos, Bool, true, false, ◌==◌, List, [], ◌∷◌, ◌++◌, length, Option, Some, None, option_map, option_and_then, codes, if◌then◌else◌, refl, sym, ap, subst, ◌∙◌, arith}
use Rattle.std.proofs.lemmas.Bool.{and_parts, or_parts}
use Rattle.std.specs.List.{AllByRecursion}
use Rattle.std.specs.Option.{option_to_list}
use Rattle.std.specs.Str.{bytes_eq, is_utf8}
use Rattle.serde_json.specs.Data.{depth, members_depth}
use Rattle.mx_ids.specs.Ids.{event_id_text, room_id_text}
use Rattle.mx_window.proofs.Each.{AllByRecursion-append}
use Rattle.mx_json.specs.Fields.{field, members_of, members_in}
use Rattle.mx_json.specs.Keys.{are_ordered, keys_of, value_at}
use Rattle.mx_json.specs.Laws.{data_keys, is_formed, members_are_formed}
use Rattle.mx_json.specs.Numbers.{any_in_members, has_large, is_large}
use Rattle.mx_json.specs.Values.{data_of, members_data}
use Rattle.mx_json.specs.declared.members.Member.{Member}
use Rattle.mx_json.specs.declared.value.Json.{Json}
use Rattle.mx_json.specs.declared.value.Json.TheVariants as json
use Rattle.mx_json.specs.declared.value.Json.TheViews.{outs-Bool, outs-Int, outs-List, outs-Null, outs-Text}
use Rattle.mx_json.proofs.Data.{data-Object}
use Rattle.mx_json.proofs.Induction.{by_cases}
use Rattle.mx_event.specs.Forms.{bare_form, client_form, member_if, redacts_of, room_of, txn_for, unsigned_of}
use Rattle.mx_event.specs.Kinds.{is_redaction}
use Rattle.mx_event.specs.declared.event.Event.{Event}
use Rattle.mx_event.specs.declared.event.Shown.{Shown}
use Rattle.mx_event.specs.declared.event.Txn.{Txn}
use Rattle.mx_event.proofs.Texts.{members_of-Object}
use Rattle.mx_copy.specs.Shown.{cut}
use Rattle.mx_copy.specs.Writable.{EventFits, Fits, IsText, ShownFits}
use Rattle.mx_copy.proofs.Events.{members}
use Rattle.mx_copy.proofs.FitTexts.{event_text, room_text}
use Rattle.mx_copy.proofs.Fitting.{MemberFits, deeper, if_fits, member_fits, number_fits, object_fits, text_fits}

-- ---- what stands at a key of a value that fits

module _ (n : ℕ) (key : List ℕ) where
  abbrev Finds : Option Json → Type 0
  Finds o = AllByRecursion (Fits n) (option_to_list o)

  found_fits : (ms : List (Member Json)) → any_in_members is_large (members_data ms) ≡ false → members_are_formed (members_data ms) ≡ true → members_depth (members_data ms) ≤ n → Finds (value_at key ms)
  found_fits [] range formed shallow = tt
  found_fits (m ∷ ms) range formed shallow =
      let ranges = or_parts (has_large (data_of m.value)) (any_in_members is_large (members_data ms)) range in
      let forms = and_parts (is_utf8 m.key) _ formed in
      let inner = and_parts (is_formed (data_of m.value)) (members_are_formed (members_data ms)) forms.1 in
      by_test (bytes_eq m.key key) (record { in_range = ranges.0; formed = inner.0; shallow = omega (arith, shallow) }) (found_fits ms ranges.1 inner.1 (omega (arith, shallow)))
    where
      by_test : (b : Bool) → Fits n m.value → Finds (value_at key ms) → Finds (if b then Some m.value else value_at key ms)
      by_test true fits rest = (fits, tt)
      by_test false fits rest = rest

  object_finds : (ms : List (Member Json)) → Fits n (json.Object ms) → Finds (value_at key ms)
  object_finds ms fits =
      let formed = and_parts (are_ordered (data_keys (members_data ms))) (members_are_formed (members_data ms)) (sym (ap is_formed (data-Object ms)) ∙ fits.formed) in
      let shallow : suc (members_depth (members_data ms)) ≤ n = subst (λ d. depth d ≤ n) (data-Object ms) fits.shallow in
      found_fits ms (sym (ap has_large (data-Object ms)) ∙ fits.in_range) formed.1 (omega (arith, shallow))

  nothing : (j : Json) → members_of j ≡ [] → Fits n j → Finds (field key j)
  nothing j none fits = subst (λ ms. Finds (value_at key ms)) (sym none) tt

  pub field_fits : (j : Json) → Fits n j → Finds (field key j)
  field_fits = by_cases (λ j. Fits n j → Finds (field key j)) record {
    null = nothing json.Null (ap members_in outs-Null);
    boolean = λ b. nothing (json.Bool b) (ap members_in (outs-Bool b));
    int = λ z. nothing (json.Int z) (ap members_in (outs-Int z));
    text = λ s. nothing (json.Text s) (ap members_in (outs-Text s));
    list = λ js all. nothing (json.List js) (ap members_in (outs-List js));
    object = λ ms all fits. subst (λ ns. Finds (value_at key ns)) (sym (members_of-Object ms)) (object_finds ms fits);
  }

-- ---- an event

module _ (content : Json) (id : List ℕ) (ts : ℕ) (sender kind : List ℕ) where
  in_order : (redacts room key unsigned : Option Json) → are_ordered (keys_of (members content id ts sender kind redacts room key unsigned)) ≡ true
  in_order None None None None = refl
  in_order None None None (Some d) = refl
  in_order None None (Some c) None = refl
  in_order None None (Some c) (Some d) = refl
  in_order None (Some b) None None = refl
  in_order None (Some b) None (Some d) = refl
  in_order None (Some b) (Some c) None = refl
  in_order None (Some b) (Some c) (Some d) = refl
  in_order (Some a) None None None = refl
  in_order (Some a) None None (Some d) = refl
  in_order (Some a) None (Some c) None = refl
  in_order (Some a) None (Some c) (Some d) = refl
  in_order (Some a) (Some b) None None = refl
  in_order (Some a) (Some b) None (Some d) = refl
  in_order (Some a) (Some b) (Some c) None = refl
  in_order (Some a) (Some b) (Some c) (Some d) = refl

texts_fit : (n : ℕ) (o : Option (List ℕ)) → AllByRecursion IsText (option_to_list o) → AllByRecursion (Fits n) (option_to_list (option_map json.Text o))
texts_fit n None all = tt
texts_fit n (Some t) all = (text_fits n t all.0, tt)

room_fits : (n : ℕ) (server : List ℕ) (with_room : Bool) (e : Event) → IsText server → AllByRecursion (Fits n) (option_to_list (room_of server with_room e))
room_fits n server true e is = (text_fits n (room_id_text server e.room) (room_text server e.room is), tt)
room_fits n server false e is = tt

redacts_fits : (n : ℕ) (e : Event) → Fits n e.content → AllByRecursion (Fits n) (option_to_list (redacts_of e))
redacts_fits n e fits = by_test (is_redaction e)
  where
    by_test : (b : Bool) → AllByRecursion (Fits n) (option_to_list (if b then field (codes "redacts") e.content else None))
    by_test true = field_fits n (codes "redacts") e.content fits
    by_test false = tt

module _ (n : ℕ) (server : List ℕ) (with_room : Bool) (is : IsText server) (e : Event) (fits : EventFits e) (deep : 118 ≤ n) where
  members_fit : (unsigned : Option Json) → AllByRecursion (Fits n) (option_to_list unsigned)
      → Fits (suc n) (json.Object (members e.content (event_id_text server e.id) (cut e.ts) e.sender e.kind (redacts_of e) (room_of server with_room e) (option_map json.Text e.state_key) unsigned))
  members_fit unsigned more =
      let content = deeper 118 n e.content deep fits.content in
      object_fits n _ (in_order e.content (event_id_text server e.id) (cut e.ts) e.sender e.kind (redacts_of e) (room_of server with_room e) (option_map json.Text e.state_key) unsigned) (
        member_fits n (codes "content") e.content refl content,
        (
          member_fits n (codes "event_id") (json.Text (event_id_text server e.id)) refl (text_fits n (event_id_text server e.id) (event_text server e.id is)),
          (
            member_fits n (codes "origin_server_ts") (json.Int (pos (cut e.ts))) refl (number_fits n e.ts),
            AllByRecursion-append (MemberFits n) (member_if (codes "redacts") (redacts_of e)) _ (if_fits n (codes "redacts") (redacts_of e) refl (redacts_fits n e content))
                (AllByRecursion-append (MemberFits n) (member_if (codes "room_id") (room_of server with_room e)) _ (if_fits n (codes "room_id") (room_of server with_room e) refl (room_fits n server with_room e is)) (
                  member_fits n (codes "sender") (json.Text e.sender) refl (text_fits n e.sender fits.sender),
                  AllByRecursion-append (MemberFits n) (member_if (codes "state_key") (option_map json.Text e.state_key)) _
                      (if_fits n (codes "state_key") (option_map json.Text e.state_key) refl (texts_fit n e.state_key fits.state_key))
                      (member_fits n (codes "type") (json.Text e.kind) refl (text_fits n e.kind fits.kind), if_fits n (codes "unsigned") unsigned refl more),
                )),
          ),
        ),
      )

because_fits : (server : List ℕ) (with_room : Bool) → IsText server → (o : Option Event) → AllByRecursion EventFits (option_to_list o) → AllByRecursion (Fits 119) (option_to_list (option_map (bare_form server with_room) o))
because_fits server with_room is None all = tt
because_fits server with_room is (Some e) all = (members_fit 118 server with_room is e all.0 (omega arith) None tt, tt)

txn_fits : (n device : ℕ) (o : Option Txn) → AllByRecursion (λ (txn : Txn). IsText txn.id) (option_to_list o) → AllByRecursion (Fits n) (option_to_list (option_and_then (txn_for device) o))
txn_fits n device None all = tt
txn_fits n device (Some txn) all = by_test (txn.device == device)
  where
    by_test : (b : Bool) → AllByRecursion (Fits n) (option_to_list (if b then Some (json.Text txn.id) else None))
    by_test true = (text_fits n txn.id all.0, tt)
    by_test false = tt

unsigned_order : (a b : Option Json) → are_ordered (keys_of (member_if (codes "redacted_because") a ++ member_if (codes "transaction_id") b)) ≡ true
unsigned_order None None = refl
unsigned_order None (Some b) = refl
unsigned_order (Some a) None = refl
unsigned_order (Some a) (Some b) = refl

module _ (server : List ℕ) (with_room : Bool) (device : ℕ) (is : IsText server) where
  unsigned_fits : (s : Shown) → ShownFits s → Fits 120 (json.Object (unsigned_of server with_room device s))
  unsigned_fits s fits =
      let because = option_map (bare_form server with_room) s.because in
      let txn = option_and_then (txn_for device) s.event.txn in
      object_fits 119 (unsigned_of server with_room device s) (unsigned_order because txn)
      (AllByRecursion-append (MemberFits 119) (member_if (codes "redacted_because") because) (member_if (codes "transaction_id") txn)
      (if_fits 119 (codes "redacted_because") because refl (because_fits server with_room is s.because fits.because))
      (if_fits 119 (codes "transaction_id") txn refl (txn_fits 119 device s.event.txn fits.txn)))

  some_fits : (b : Bool) (j : Json) → Fits 120 j → AllByRecursion (Fits 120) (option_to_list (if b then None else Some j))
  some_fits true j fits = tt
  some_fits false j fits = (fits, tt)

  pub shown_fits : (s : Shown) → ShownFits s → Fits 121 (client_form server with_room device s)
  shown_fits s fits = members_fit 120 server with_room is s.event fits.event (omega arith) _
      (some_fits (length (unsigned_of server with_room device s) == 0) (json.Object (unsigned_of server with_room device s)) (unsigned_fits s fits))
