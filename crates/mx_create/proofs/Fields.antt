-- That a body of which no part is wrong has the form.
use Rattle.std.proofs.Common.{◌≡◌, true, codes}
use Rattle.std.proofs.lemmas.Bool.{and_from}
use Rattle.mx_json.specs.Fields.{field, is_object}
use Rattle.mx_json.specs.declared.value.Json.{Json}
use Rattle.mx_create.specs.Bodies.{is_create_body, is_none_or_list_of, is_state_entry, is_text_value}

pub none_wrong : (ask : Json) → is_object ask ≡ true → is_none_or_list_of is_state_entry (field (codes "initial_state") ask) ≡ true
    → is_none_or_list_of is_text_value (field (codes "invite") ask) ≡ true → is_create_body ask ≡ true
none_wrong ask object state invite = and_from (is_object ask) _ object (and_from (is_none_or_list_of is_state_entry (field (codes "initial_state") ask)) _ state invite)
