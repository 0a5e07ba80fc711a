-- The contents of the rows' events say what their transactions repeat.
use Rattle.std.proofs.Common.{drop, ◌≡◌, List, [], ◌∷◌, ℕ, ◌^◌, ◌-◌, Option, Some, None, cond, option_and_then, option_map, unwrap_or, true, codes, refl, ap, ◌∙◌, false, sym}
use Rattle.std.specs.List.{AllByRecursion}
use Rattle.std.specs.Str.{bytes_eq}
use Rattle.mx_window.proofs.Each.{AllByRecursion-append}
use Rattle.mx_ids.specs.Ids.{event_id_at}
use Rattle.mx_ids.specs.User.{server_of}
use Rattle.mx_ids.specs.declared.event_id.EventId.{EventId}
use Rattle.mx_json.specs.Fields.{text_at, text_in, text_of}
use Rattle.mx_json.specs.Keys.{value_at}
use Rattle.mx_json.specs.declared.members.Member.{Member}
use Rattle.mx_json.specs.declared.value.Json.{Json}
use Rattle.mx_json.specs.declared.value.Json.TheVariants as json
use Rattle.mx_event.specs.Kinds.{create_type, power_type, join_rules_type}
use Rattle.mx_json.specs.declared.value.Json.TheViews.{outs-Text}
use Rattle.mx_event.proofs.Texts.{members_of-Object}
use Rattle.mx_folding.specs.Visible.{SharedSince}
use Rattle.mx_view.specs.Readings.{contents, membership_as, setting_as}
use Rattle.mx_fold_rows.specs.Events.{alice, bob, carol, with_text, event_at, member, setting, redaction, joins_named, private_room, joined_room, long_room, left_room, shared_room, hidden_room, renamed_room, redacted_room, taken_back, three_users, banned_room, named_room, invited_room}
use Rattle.mx_fold_rows.specs.Said.{said, Says, SaysMembership, SaysSetting, SaysNames, RoomsSay}

text_there : (key text : List ℕ) → bytes_eq key key ≡ true → text_at key (with_text key text) ≡ Some text
text_there key text same =
    ap (λ ms. option_and_then text_of (value_at key ms)) (members_of-Object (record { key = key; value = json.Text text } ∷ []))
    ∙ ap (λ b. option_and_then text_of (cond b (Some (json.Text text)) None)) same
    ∙ ap text_in (outs-Text text)

pub says_membership : SaysMembership
says_membership p user sender text = ap (option_and_then membership_as) (text_there (codes "membership") text refl)

pub says_setting : SaysSetting
says_setting p text = ap (λ o. unwrap_or (option_map setting_as o) SharedSince) (text_there (codes "history_visibility") text refl)

pub says_names : SaysNames
says_names p id =
    ap (λ o. option_map (λ (id : EventId). id.at) (option_and_then (event_id_at (2 ^ 64 - 1) (server_of alice)) o)) (text_there (codes "redacts") id refl)

-- nothing stands at another key
text_else : (key other text : List ℕ) → bytes_eq other key ≡ false → text_at key (with_text other text) ≡ None
text_else key other text off =
    ap (λ ms. option_and_then text_of (value_at key ms)) (members_of-Object (record { key = other; value = json.Text text } ∷ []))
    ∙ ap (λ b. option_and_then text_of (cond b (Some (json.Text text)) None)) off

other_says : (p : ℕ) (kind : List ℕ) (state_key : Option (List ℕ)) (sender key text : List ℕ) → bytes_eq key (codes "membership")
    ≡ false → bytes_eq key (codes "history_visibility") ≡ false
    → membership_as text ≡ None → setting_as text ≡ SharedSince → contents.names (event_at p kind state_key sender key text)
    ≡ said.names (event_at p kind state_key sender key text)
    → Says (event_at p kind state_key sender key text)
other_says p kind state_key sender key text no_membership no_setting member set names = record {
  membership = ap (option_and_then membership_as) (text_else (codes "membership") key text no_membership) ∙ sym member;
  setting = ap (λ o. unwrap_or (option_map setting_as o) SharedSince) (text_else (codes "history_visibility") key text no_setting) ∙ sym set;
  names = names;
}

member_says : (p : ℕ) (user sender text : List ℕ) → setting_as text ≡ SharedSince → Says (member p user sender text)
member_says p user sender text set = record {
  membership = says_membership p user sender text;
  setting = ap (λ o. unwrap_or (option_map setting_as o) SharedSince) (text_else (codes "history_visibility") (codes "membership") text refl) ∙ sym set;
  names = refl;
}

setting_says : (p : ℕ) (text : List ℕ) → membership_as text ≡ None → Says (setting p text)
setting_says p text member = record {
  membership = ap (option_and_then membership_as) (text_else (codes "membership") (codes "history_visibility") text refl) ∙ sym member;
  setting = says_setting p text;
  names = refl;
}

redaction_says : (p : ℕ) (id : List ℕ) → membership_as id ≡ None → setting_as id ≡ SharedSince → Says (redaction p id)
redaction_says p id member set = record {
  membership = ap (option_and_then membership_as) (text_else (codes "membership") (codes "redacts") id refl) ∙ sym member;
  setting = ap (λ o. unwrap_or (option_map setting_as o) SharedSince) (text_else (codes "history_visibility") (codes "redacts") id refl) ∙ sym set;
  names = says_names p id;
}

abbrev named_members : List (Member Json)
named_members =
    record { key = codes "displayname"; value = json.Text (codes "Bob") } ∷ record { key = codes "membership"; value = json.Text (codes "join") } ∷ []

named_says : (p : ℕ) (user : List ℕ) → Says (joins_named p user)
named_says p user =
    let found : (key : List ℕ) → text_at key (joins_named p user).content ≡ option_and_then text_of (value_at key named_members) =
    λ key. ap (λ ms. option_and_then text_of (value_at key ms)) (members_of-Object named_members) in
    record {
      membership = ap (option_and_then membership_as) (found (codes "membership") ∙ ap text_in (outs-Text (codes "join")));
      setting = ap (λ o. unwrap_or (option_map setting_as o) SharedSince) (found (codes "history_visibility"));
      names = refl;
    }

private_says : AllByRecursion Says private_room
private_says = (
  other_says 1 (create_type) (Some []) alice (codes "name") (codes "n") refl refl refl refl refl,
  (
    member_says 2 alice alice (codes "join") refl,
    (
      other_says 3 (power_type) (Some []) alice (codes "name") (codes "n") refl refl refl refl refl,
      (
        other_says 4 (join_rules_type) (Some []) alice (codes "name") (codes "n") refl refl refl refl refl,
        (
          setting_says 5 (codes "shared") refl,
          (other_says 6 (codes "m.room.guest_access") (Some []) alice (codes "name") (codes "n") refl refl refl refl refl, tt),
        ),
      ),
    ),
  ),
)

joined_says : AllByRecursion Says joined_room
joined_says = AllByRecursion-append Says private_room (setting 7 (codes "joined") ∷ []) private_says (setting_says 7 (codes "joined") refl, tt)

left_says : AllByRecursion Says left_room
left_says =
    AllByRecursion-append Says joined_room (drop 7 left_room) joined_says (
      member_says 8 bob bob (codes "join") refl,
      (
        other_says 9 (codes "m.room.topic") (Some []) alice (codes "name") (codes "n") refl refl refl refl refl,
        (
          other_says 10 (codes "m.room.message") None alice (codes "body") (codes "hi") refl refl refl refl refl,
          (
            member_says 11 bob bob (codes "leave") refl,
            (
              other_says 12 (codes "m.room.topic") (Some []) alice (codes "name") (codes "n") refl refl refl refl refl,
              (
                other_says 13 (codes "m.room.message") None alice (codes "body") (codes "hi") refl refl refl refl refl,
                (
                  member_says 14 bob bob (codes "join") refl,
                  (other_says 15 (codes "m.room.message") None alice (codes "body") (codes "hi") refl refl refl refl refl, tt),
                ),
              ),
            ),
          ),
        ),
      ),
    )

shared_says : AllByRecursion Says shared_room
shared_says =
    AllByRecursion-append Says private_room (drop 6 shared_room) private_says (
      other_says 7 (codes "m.room.message") None alice (codes "body") (codes "hi") refl refl refl refl refl,
      (
        member_says 8 bob alice (codes "invite") refl,
        (
          member_says 9 bob bob (codes "join") refl,
          (other_says 10 (codes "m.room.message") None alice (codes "body") (codes "hi") refl refl refl refl refl, tt),
        ),
      ),
    )

pub rooms_say : RoomsSay
rooms_say = record {
  long =
      AllByRecursion-append Says private_room (drop 6 long_room) private_says (
        other_says 7 (codes "m.room.message") None alice (codes "body") (codes "hi") refl refl refl refl refl,
        (
          other_says 8 (codes "m.room.message") None alice (codes "body") (codes "hi") refl refl refl refl refl,
          (
            other_says 9 (codes "m.room.message") None alice (codes "body") (codes "hi") refl refl refl refl refl,
            (
              other_says 10 (codes "m.room.message") None alice (codes "body") (codes "hi") refl refl refl refl refl,
              (
                other_says 11 (codes "m.room.message") None alice (codes "body") (codes "hi") refl refl refl refl refl,
                (
                  other_says 12 (codes "m.room.message") None alice (codes "body") (codes "hi") refl refl refl refl refl,
                  (
                    other_says 13 (codes "m.room.message") None alice (codes "body") (codes "hi") refl refl refl refl refl,
                    (
                      other_says 14 (codes "m.room.message") None alice (codes "body") (codes "hi") refl refl refl refl refl,
                      (
                        other_says 15 (codes "m.room.message") None alice (codes "body") (codes "hi") refl refl refl refl refl,
                        (
                          other_says 16 (codes "m.room.message") None alice (codes "body") (codes "hi") refl refl refl refl refl,
                          (
                            other_says 17 (codes "m.room.message") None alice (codes "body") (codes "hi") refl refl refl refl refl,
                            (
                              other_says 18 (codes "m.room.message") None alice (codes "body")
                                  (codes "hi") refl refl refl refl refl,
                              tt,
                            ),
                          ),
                        ),
                      ),
                    ),
                  ),
                ),
              ),
            ),
          ),
        ),
      );
  left = left_says;
  shared = shared_says;
  hidden =
      AllByRecursion-append Says joined_room (drop 7 hidden_room) joined_says (
        other_says 8 (codes "m.room.message") None alice (codes "body") (codes "hi") refl refl refl refl refl,
        (
          member_says 9 bob alice (codes "invite") refl,
          (
            member_says 10 bob bob (codes "join") refl,
            (other_says 11 (codes "m.room.message") None alice (codes "body") (codes "hi") refl refl refl refl refl, tt),
          ),
        ),
      );
  renamed =
      AllByRecursion-append Says shared_room (drop 10 renamed_room) shared_says
      (named_says 11 bob, (redaction_says 12 (codes "$11:example.org") refl refl, tt));
  redactions =
      AllByRecursion-append Says left_room (drop 15 redacted_room) left_says (
        other_says 16 (codes "m.room.message") None alice (codes "body") (codes "hi") refl refl refl refl refl,
        (
          member_says 17 bob bob (codes "leave") refl,
          (redaction_says 18 (codes "$16:example.org") refl refl, (member_says 19 bob bob (codes "join") refl, tt)),
        ),
      );
  taken =
      AllByRecursion-append Says private_room (drop 6 taken_back) private_says (
        other_says 7 (codes "m.room.message") None alice (codes "body") (codes "hi") refl refl refl refl refl,
        (
          other_says 8 (codes "m.room.message") None alice (codes "body") (codes "hi") refl refl refl refl refl,
          (redaction_says 9 (codes "$7:example.org") refl refl, tt),
        ),
      );
  three =
      AllByRecursion-append Says private_room (drop 6 three_users) private_says (
        member_says 7 bob alice (codes "invite") refl,
        (
          member_says 8 carol alice (codes "invite") refl,
          (
            member_says 9 bob bob (codes "join") refl,
            (
              member_says 10 carol carol (codes "join") refl,
              (
                other_says 11 (codes "m.room.message") None bob (codes "body") (codes "hi") refl refl refl refl refl,
                (
                  member_says 12 bob bob (codes "join") refl,
                  (other_says 13 (codes "m.room.message") None bob (codes "body") (codes "hi") refl refl refl refl refl, tt),
                ),
              ),
            ),
          ),
        ),
      );
  banned =
      AllByRecursion-append Says private_room (drop 6 banned_room) private_says (setting_says 7 (codes "world_readable") refl, (member_says 8 bob bob (codes "join") refl, (member_says 9 bob bob (codes "leave") refl, (other_says 10 (codes "m.room.message") None alice (codes "body") (codes "hi") refl refl refl refl refl, (member_says 11 bob alice (codes "ban") refl, tt)))));
  named =
      AllByRecursion-append Says private_room (drop 6 named_room) private_says (other_says 7 (codes "m.room.name") (Some []) alice (codes "name") (codes "n") refl refl refl refl refl, (other_says 8 (codes "m.room.topic") (Some []) alice (codes "name") (codes "n") refl refl refl refl refl, (other_says 9 (codes "m.room.avatar") (Some []) alice (codes "name") (codes "n") refl refl refl refl refl, (other_says 10 (codes "m.room.canonical_alias") (Some []) alice (codes "name") (codes "n") refl refl refl refl refl, (other_says 11 (codes "m.room.encryption") (Some []) alice (codes "name") (codes "n") refl refl refl refl refl, (other_says 12 (codes "m.room.topic") (Some (codes "other")) alice (codes "name") (codes "n") refl refl refl refl refl, (member_says 13 carol carol (codes "join") refl, (member_says 14 bob alice (codes "invite") refl, (other_says 15 (codes "m.room.topic") (Some []) alice (codes "name") (codes "n") refl refl refl refl refl, tt)))))))));
  invited =
      AllByRecursion-append Says private_room (drop 6 invited_room) private_says (setting_says 7 (codes "invited") refl, (member_says 8 carol alice (codes "invite") refl, (other_says 9 (codes "m.room.message") None alice (codes "body") (codes "hi") refl refl refl refl refl, (member_says 10 bob bob (codes "join") refl, (other_says 11 (codes "m.room.message") None alice (codes "body") (codes "hi") refl refl refl refl refl, tt)))));
}
