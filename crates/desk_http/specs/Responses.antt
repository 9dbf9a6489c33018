-- The bytes of a response (RFC 9112, section 4; RFC 9110, section 15).
use Rattle.std.specs.Prelude.{ℕ, List, [], ◌∷◌, ◌++◌, codes, decimal, length, unwrap_or}
use Rattle.std.specs.List.{concat}
use Rattle.http.specs.StatusCode.{reason_phrase}

abbrev pub line_end : List ℕ
line_end = 13 ∷ 10 ∷ []

abbrev pub phrase_of : ℕ → List ℕ
phrase_of status = unwrap_or (reason_phrase status) []

abbrev pub status_line : ℕ → List ℕ
status_line status = concat (codes "HTTP/1.1 " ∷ decimal status ∷ codes " " ∷ phrase_of status ∷ line_end ∷ [])

-- the header fields for a body of this media type and of `count` bytes
abbrev pub field_lines : List ℕ → ℕ → List ℕ
field_lines media count = concat (codes "Content-Type: " ∷ media ∷ line_end ∷ []) ++ concat (codes "Content-Length: " ∷ decimal count ∷ line_end ∷ [])

-- the response with a status and a body of this media type
unfoldable pub typed_response : ℕ → List ℕ → List ℕ → List ℕ
typed_response status media body = concat (status_line status ∷ field_lines media (length body) ∷ line_end ∷ body ∷ [])

-- the response with a status and a JSON body
abbrev pub response : ℕ → List ℕ → List ℕ
response status body = typed_response status (codes "application/json") body
