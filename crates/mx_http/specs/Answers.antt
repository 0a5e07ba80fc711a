-- The bytes of an answer (RFC 9112; Client-Server API, API Standards, for the headers).
use Rattle.std.specs.Prelude.{ℕ, ◌-◌, ◌^◌, ◌++◌, List, [], ◌∷◌, Bool, min, length, unwrap_or, decimal, codes, if◌then◌else◌}
use Rattle.http.specs.StatusCode.{reason_phrase}
use Rattle.mx_json.specs.Texts.{json_text}
use Rattle.mx_http.specs.declared.answer.Body.{Body}
use Rattle.mx_http.specs.declared.answer.Body.TheVariants as body

-- the bytes of a body
abbrev pub body_text : Body → List ℕ
body_text (body.Json j) = json_text j
body_text (body.Fixed bytes) = bytes.now

-- one line of a head
abbrev pub line : List ℕ → List ℕ
line text = text ++ 13 ∷ 10 ∷ []

-- the number of bytes of a body, which stops at 2^64 - 1
abbrev pub size_of : List ℕ → ℕ
size_of text = min (length text) (2 ^ 64 - 1)

-- the head of an answer, with its empty line
abbrev pub head_bytes : ℕ → ℕ → Bool → List ℕ
head_bytes status size close =
    line (codes "HTTP/1.1 " ++ decimal status ++ codes " " ++ unwrap_or (reason_phrase status) [])
    ++ line (codes "Content-Type: application/json")
    ++ line (codes "Content-Length: " ++ decimal size)
    ++ line (codes "Access-Control-Allow-Origin: *")
    ++ line (codes "Access-Control-Allow-Methods: GET, POST, PUT, DELETE, OPTIONS")
    ++ line (codes "Access-Control-Allow-Headers: X-Requested-With, Content-Type, Authorization")
    ++ (if close then line (codes "Connection: close") else [])
    ++ line []

-- an answer with this status and body; to `HEAD` the body isn't written, and `close` says that the connection ends
unfoldable pub response_bytes : ℕ → List ℕ → Bool → Bool → List ℕ
response_bytes status text head_only close = head_bytes status (size_of text) close ++ (if head_only then [] else text)
