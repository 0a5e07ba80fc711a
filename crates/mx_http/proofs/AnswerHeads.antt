-- The head of an answer, from its pieces.
use Rattle.std.proofs.Common.{◌≡◌, ℕ, List, [], ◌∷◌, ◌++◌, Bool, decimal, ◌∙◌, append_assoc}
use Rattle.std.specs.Prelude.{codes, unwrap_or, if◌then◌else◌}
use Rattle.http.specs.StatusCode.{reason_phrase}
use Rattle.mx_http.specs.Answers.{line, head_bytes}

-- the lines of a head, with their ends inside the pieces
head_joined : (version status space phrase kind count size origin methods headers close : List ℕ)
    → version ++ (status ++ (space ++ (phrase ++ ((13 ∷ 10 ∷ (kind ++ 13 ∷ 10 ∷ count)) ++ (size
    ++ ((13 ∷ 10 ∷ (origin ++ 13 ∷ 10 ∷ (methods ++ 13 ∷ 10 ∷ (headers ++ 13 ∷ 10 ∷ [])))) ++ (close ++ 13 ∷ 10 ∷ [])))))))
    ≡ line (version ++ status ++ space ++ phrase) ++ line kind ++ line (count ++ size) ++ line origin ++ line methods ++ line headers ++ close ++ line []
head_joined version status space phrase kind count size origin methods headers close = simp append_assoc

pub head_pieces : (status size : ℕ) (closes : Bool) (version digits phrase count close : List ℕ) → version ≡ codes "HTTP/1.1 " → digits ≡ decimal status
    → phrase ≡ unwrap_or (reason_phrase status) [] → count ≡ decimal size → close ≡ (if closes then line (codes "Connection: close") else [])
    → version ++ (digits ++ (codes " " ++ (phrase ++ (codes "\r\nContent-Type: application/json\r\nContent-Length: " ++ (count
    ++ (codes "\r\nAccess-Control-Allow-Origin: *\r\nAccess-Control-Allow-Methods: GET, POST, PUT, DELETE, OPTIONS\r\nAccess-Control-Allow-Headers: X-Requested-With, Content-Type, Authorization\r\n"
    ++ (close ++ codes "\r\n")))))))
    ≡ head_bytes status size closes
head_pieces status size closes version digits phrase count close v d p n c =
    (λ i. v i ++ (d i ++ (codes " " ++ (p i ++ (codes "\r\nContent-Type: application/json\r\nContent-Length: " ++ (n i
    ++ (codes "\r\nAccess-Control-Allow-Origin: *\r\nAccess-Control-Allow-Methods: GET, POST, PUT, DELETE, OPTIONS\r\nAccess-Control-Allow-Headers: X-Requested-With, Content-Type, Authorization\r\n"
    ++ (c i ++ codes "\r\n"))))))))
    ∙ head_joined (codes "HTTP/1.1 ") (decimal status) (codes " ") (unwrap_or (reason_phrase status) []) (codes "Content-Type: application/json") (codes "Content-Length: ") (decimal size)
    (codes "Access-Control-Allow-Origin: *") (codes "Access-Control-Allow-Methods: GET, POST, PUT, DELETE, OPTIONS")
    (codes "Access-Control-Allow-Headers: X-Requested-With, Content-Type, Authorization") (if closes then line (codes "Connection: close") else [])
