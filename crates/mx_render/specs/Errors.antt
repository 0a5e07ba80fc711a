-- The status, error code and text of each refusal (Client-Server API, Standard error response).
use Rattle.std.specs.Prelude.{ℕ, List, ◌++◌, codes, decimal}
use Rattle.mx_ask.specs.declared.refusal.Refusal.{Refusal}
use Rattle.mx_ask.specs.declared.refusal.Refusal.TheVariants as refusal
use Rattle.mx_rules.specs.declared.fault.Side.{Side}
use Rattle.mx_rules.specs.declared.fault.Side.TheVariants as side

abbrev pub status_of : Refusal → ℕ
status_of refusal.NotFound = 404
status_of (refusal.TokenAhead asked front) = 400
status_of refusal.Forbidden = 403
status_of refusal.TooLarge = 413
status_of (refusal.Denied rule) = 403
status_of refusal.Version = 400
status_of refusal.Preset = 400
status_of refusal.TooMany = 400
status_of (refusal.State rule) = 400
status_of refusal.DefaultRule = 400
status_of refusal.BadCondition = 400
status_of refusal.BadAction = 400
status_of (refusal.NoNeighbour neighbour) = 400
status_of (refusal.Full next) = 500
status_of refusal.Lost = 500

abbrev pub code_of : Refusal → List ℕ
code_of refusal.NotFound = codes "M_NOT_FOUND"
code_of (refusal.TokenAhead asked front) = codes "M_INVALID_PARAM"
code_of refusal.Forbidden = codes "M_FORBIDDEN"
code_of refusal.TooLarge = codes "M_TOO_LARGE"
code_of (refusal.Denied rule) = codes "M_FORBIDDEN"
code_of refusal.Version = codes "M_UNSUPPORTED_ROOM_VERSION"
code_of refusal.Preset = codes "M_INVALID_PARAM"
code_of refusal.TooMany = codes "M_INVALID_PARAM"
code_of (refusal.State rule) = codes "M_INVALID_ROOM_STATE"
code_of refusal.DefaultRule = codes "M_INVALID_PARAM"
code_of refusal.BadCondition = codes "M_BAD_JSON"
code_of refusal.BadAction = codes "M_BAD_JSON"
code_of (refusal.NoNeighbour neighbour) = codes "M_INVALID_PARAM"
code_of (refusal.Full next) = codes "ORG_MXSYNC_FULL"
code_of refusal.Lost = codes "ORG_MXSYNC_JOURNAL"

-- the parameter that names the rule before or after which a rule is to stand
abbrev pub neighbour_name : Side → List ℕ
neighbour_name side.Before = codes "before"
neighbour_name side.After = codes "after"

abbrev pub text_of : Refusal → List ℕ
text_of refusal.NotFound = codes "not found"
text_of (refusal.TokenAhead asked front) = codes "token ahead: " ++ (decimal asked ++ (codes " > " ++ decimal front))
text_of refusal.Forbidden = codes "forbidden"
text_of refusal.TooLarge = codes "too large"
text_of (refusal.Denied rule) = codes "forbidden by rule " ++ decimal rule
text_of refusal.Version = codes "unsupported room version"
text_of refusal.Preset = codes "invalid parameter: preset"
text_of refusal.TooMany = codes "invalid parameter: initial_state"
text_of (refusal.State rule) = codes "refused by rule " ++ decimal rule
text_of refusal.DefaultRule = codes "invalid parameter: ruleId"
text_of refusal.BadCondition = codes "bad JSON: conditions"
text_of refusal.BadAction = codes "bad JSON: actions"
text_of (refusal.NoNeighbour neighbour) = codes "invalid parameter: " ++ neighbour_name neighbour
text_of (refusal.Full next) = codes "full at " ++ decimal next
text_of refusal.Lost = codes "the journal has failed"
