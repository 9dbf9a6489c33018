-- The head of a request, and what it asks for (RFC 9110; RFC 9112, sections 2 to 6).
use Rattle.std.specs.Prelude.{◌≤◌, ℕ, ◌==◌, nat_le, Bool, true, false, ◌&&◌, ◌||◌, List, [], ◌∷◌, codes, take, map, if◌then◌else◌, Option, Some, None, Result, Ok, Err, MatchResult}
use Rattle.std.specs.List.{list_any, position}
use Rattle.std.specs.Str.{bytes_eq, str_eq_ignore_ascii_case}
use Rattle.httparse.specs.Grammar.{RequestHead, HasNoRequest, NeverHasRequest}
use Rattle.httparse.specs.Spans.{IsRequestOf, header_bytes, name_and_value}
use Rattle.httparse.specs.declared.spans.HeaderSpan.{HeaderSpan}
use Rattle.desk_http.specs.Digits.{number_of}
use Rattle.desk_http.specs.declared.fronts.Front.{Front}
use Rattle.desk_http.specs.declared.fronts.Front.TheVariants.{Whole, More, Never}
use Rattle.desk_http.specs.declared.wire.Asked.{Asked}
use Rattle.desk_http.specs.declared.wire.WireFault.{WireFault}
use Rattle.desk_http.specs.declared.wire.WireFault.TheVariants.{WrongMethod, NoLength, TooLarge}

-- the largest head, in bytes
abbrev pub head_limit : ℕ
head_limit = 16_384

-- the largest body, in bytes
abbrev pub body_limit : ℕ
body_limit = 1_048_576

-- The bytes begin with a whole head, whose parts the spans cover; or not yet; or they never will, whatever follows.
abbrev pub IsFront : List ℕ → List HeaderSpan → Front → Type 0
IsFront bytes spans (Whole head) = IsRequestOf bytes spans head
IsFront bytes spans More = HasNoRequest bytes
IsFront bytes spans Never = NeverHasRequest bytes

-- A field is its name, and its value without the white space around it.
abbrev pub Fields : Type 0
Fields = List (List ℕ × List ℕ)

-- the fields that spans cover
abbrev pub fields_at : List ℕ → List HeaderSpan → Fields
fields_at bytes spans = map (header_bytes bytes) spans

-- the field has that name, regardless of case
abbrev pub is_named : List ℕ → List ℕ × List ℕ → Bool
is_named name field = str_eq_ignore_ascii_case field.0 name

-- the fields from the first one with that name on
abbrev pub from_first : List ℕ → Fields → Fields
from_first name [] = []
from_first name (field ∷ fields) = if is_named name field then field ∷ fields else from_first name fields

abbrev pub front_value : Fields → List ℕ
front_value [] = []
front_value (field ∷ fields) = field.1

abbrev pub has_any : Fields → Bool
has_any [] = false
has_any (field ∷ fields) = true

-- the value of the first field with that name, or nothing
abbrev pub first_value : List ℕ → Fields → List ℕ
first_value name fields = front_value (from_first name fields)

abbrev pub has_field : List ℕ → Fields → Bool
has_field name fields = has_any (from_first name fields)

-- the length in the only Content-Length, of 1 to 7 digits; a GET may lack one
abbrev pub stated_length : Bool → Fields → Option ℕ
stated_length get [] = if get then Some 0 else None
stated_length get (field ∷ fields) = if has_field (codes "Content-Length") fields then None else number_of 7 field.1

-- the length of the body; none if there is a transfer coding
abbrev pub body_length : Bool → Fields → Option ℕ
body_length get fields =
    if has_field (codes "Transfer-Encoding") fields then None else stated_length get (from_first (codes "Content-Length") fields)

-- a Connection field whose whole value is close
abbrev pub is_closing : List ℕ × List ℕ → Bool
is_closing field = is_named (codes "Connection") field && str_eq_ignore_ascii_case field.1 (codes "close")

-- the connection ends after the request, as it always does with HTTP/1.0
abbrev pub is_last : ℕ → Fields → Bool
is_last minor fields = minor == 0 || list_any is_closing fields

abbrev pub before_place : Option ℕ → List ℕ → List ℕ
before_place None target = target
before_place (Some place) target = take place target

-- the request target before its first question mark
abbrev pub path_of : List ℕ → List ℕ
path_of target = before_place (position (λ b. b == 63) target) target

-- true for GET, false for POST, and None for any other method
abbrev pub got : List ℕ → Option Bool
got method = if bytes_eq method (codes "GET") then Some true else (if bytes_eq method (codes "POST") then Some false else None)

abbrev pub asked_with : Bool → ℕ → List ℕ → ℕ → Fields → Asked
asked_with get count target minor fields = record {
  get = get;
  path = path_of target;
  actor = first_value (codes "Desk-Actor") fields;
  key = first_value (codes "Desk-Key") fields;
  length = count;
  last = is_last minor fields;
}

abbrev pub asked_of : Bool → Option ℕ → List ℕ → ℕ → Fields → Result Asked WireFault
asked_of get None target minor fields = Err NoLength
asked_of get (Some count) target minor fields = if nat_le count body_limit then Ok (asked_with get count target minor fields) else Err TooLarge

abbrev pub asked_by : Option Bool → List ℕ → ℕ → Fields → Result Asked WireFault
asked_by None target minor fields = Err WrongMethod
asked_by (Some get) target minor fields = asked_of get (body_length get fields) target minor fields

-- What the parts of a head ask for. The method is checked first, then whether a length is stated, then its limit.
unfoldable pub asked : List ℕ → List ℕ → ℕ → Fields → Result Asked WireFault
asked method target minor fields = asked_by (got method) target minor fields

-- what a head asks for, or why it is refused
abbrev pub asks : RequestHead → Result Asked WireFault
asks head = asked head.method head.target head.minor (map name_and_value head.fields)

-- the faults by which a whole head is refused
abbrev pub IsRefusal : WireFault → Type 0
IsRefusal WrongMethod = Unit {0}
IsRefusal NoLength = Unit {0}
IsRefusal TooLarge = Unit {0}
IsRefusal fault = ⊥

-- a length within the limit, or a refusal
abbrev pub IsWithinLimit : Result Asked WireFault → Type 0
IsWithinLimit r = MatchResult r (λ a. a.length ≤ body_limit) IsRefusal
