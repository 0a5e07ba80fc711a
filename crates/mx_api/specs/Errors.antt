-- The status, error code and text of each refusal of a call (Client-Server API, Standard error response).
use Rattle.std.specs.Prelude.{ℕ, List, [], ◌∷◌, ◌++◌, codes}
use Rattle.mx_create.specs.declared.body.BodyField.TheVariants as body
use Rattle.mx_event.specs.Forms.{member}
use Rattle.mx_json.specs.declared.value.Json.{Json}
use Rattle.mx_json.specs.declared.value.Json.TheVariants as json
use Rattle.mx_api.specs.declared.refused.Field.{Field}
use Rattle.mx_api.specs.declared.refused.Field.TheVariants as field
use Rattle.mx_api.specs.declared.refused.Parameter.{Parameter}
use Rattle.mx_api.specs.declared.refused.Parameter.TheVariants as parameter
use Rattle.mx_api.specs.declared.refused.Refused.{Refused}
use Rattle.mx_api.specs.declared.refused.Refused.TheVariants as refused

abbrev pub error_json : List ℕ → List ℕ → Json
error_json code error = json.Object (member (codes "errcode") (json.Text code) ∷ member (codes "error") (json.Text error) ∷ [])

abbrev pub parameter_name : Parameter → List ℕ
parameter_name parameter.Since = codes "since"
parameter_name parameter.FullState = codes "full_state"
parameter_name parameter.UseStateAfter = codes "use_state_after"
parameter_name parameter.Timeout = codes "timeout"
parameter_name parameter.Filter = codes "filter"
parameter_name parameter.Dir = codes "dir"
parameter_name parameter.From = codes "from"
parameter_name parameter.To = codes "to"
parameter_name parameter.Limit = codes "limit"
parameter_name parameter.Before = codes "before"
parameter_name parameter.After = codes "after"

abbrev pub field_name : Field → List ℕ
field_name field.UserId = codes "user_id"
field_name (field.Creation body.Body) = codes "body"
field_name (field.Creation body.InitialState) = codes "initial_state"
field_name (field.Creation body.Invite) = codes "invite"
field_name field.FullyRead = codes "m.fully_read"
field_name field.Read = codes "m.read"
field_name field.ReadPrivate = codes "m.read.private"
field_name field.Enabled = codes "enabled"
field_name field.Actions = codes "actions"
field_name field.Content = codes "content"
field_name (field.Path path) = path

abbrev pub refused_status : Refused → ℕ
refused_status refused.NoPath = 404
refused_status refused.NoMethod = 405
refused_status refused.NoToken = 401
refused_status refused.UnknownToken = 401
refused_status refused.BadPath = 400
refused_status refused.NotCaller = 403
refused_status (refused.MissingParameter name) = 400
refused_status (refused.BadParameter name) = 400
refused_status refused.NotJson = 400
refused_status refused.Fraction = 400
refused_status refused.IntegerRange = 400
refused_status refused.TooDeep = 400
refused_status (refused.BadShape f) = 400
refused_status refused.EventFormat = 400
refused_status refused.OwnType = 405

abbrev pub refused_code : Refused → List ℕ
refused_code refused.NoPath = codes "M_UNRECOGNIZED"
refused_code refused.NoMethod = codes "M_UNRECOGNIZED"
refused_code refused.NoToken = codes "M_MISSING_TOKEN"
refused_code refused.UnknownToken = codes "M_UNKNOWN_TOKEN"
refused_code refused.BadPath = codes "M_INVALID_PARAM"
refused_code refused.NotCaller = codes "M_FORBIDDEN"
refused_code (refused.MissingParameter name) = codes "M_MISSING_PARAM"
refused_code (refused.BadParameter name) = codes "M_INVALID_PARAM"
refused_code refused.NotJson = codes "M_NOT_JSON"
refused_code refused.Fraction = codes "M_BAD_JSON"
refused_code refused.IntegerRange = codes "M_BAD_JSON"
refused_code refused.TooDeep = codes "M_BAD_JSON"
refused_code (refused.BadShape f) = codes "M_BAD_JSON"
refused_code refused.EventFormat = codes "M_INVALID_PARAM"
refused_code refused.OwnType = codes "M_BAD_JSON"

abbrev pub refused_text : Refused → List ℕ
refused_text refused.NoPath = codes "no such path"
refused_text refused.NoMethod = codes "no such method"
refused_text refused.NoToken = codes "missing token"
refused_text refused.UnknownToken = codes "unknown token"
refused_text refused.BadPath = codes "invalid parameter: path"
refused_text refused.NotCaller = codes "forbidden"
refused_text (refused.MissingParameter name) = codes "missing parameter: " ++ parameter_name name
refused_text (refused.BadParameter name) = codes "invalid parameter: " ++ parameter_name name
refused_text refused.NotJson = codes "not JSON"
refused_text refused.Fraction = codes "bad JSON: fraction"
refused_text refused.IntegerRange = codes "bad JSON: integer out of range"
refused_text refused.TooDeep = codes "bad JSON: nested too deep"
refused_text (refused.BadShape f) = codes "bad JSON: " ++ field_name f
refused_text refused.EventFormat = codes "invalid parameter: event_format"
refused_text refused.OwnType = codes "bad JSON: type"

abbrev pub refused_json : Refused → Json
refused_json r = error_json (refused_code r) (refused_text r)
