-- The format of boxes, each one JSON value or key: a byte for the kind, a length, the content.
use Rattle.std.specs.Prelude.{ℕ, ◌+◌, List, [], ◌∷◌, ◌++◌, length, take, drop, get_or, ◌||◌, ◌==◌, nat_lt, if◌then◌else◌}
use Rattle.std.specs.Int.{w32, from_le_bytes, to_le_bytes}
use Rattle.compact_json.specs.declared.boxes.Kind.{Kind}
use Rattle.compact_json.specs.declared.boxes.Kind.TheVariants as kind

-- the first byte, which gives the kind of the box; 0 if there is none
abbrev pub first : List ℕ → ℕ
first bytes = get_or bytes 0 0

-- the kind that the first byte stands for
abbrev pub kind_by : ℕ → Kind
kind_by b =
    if b == 1 then kind.False
    else (if b == 2 then kind.True
    else (if (b == 3) || (b == 5) then kind.Number
    else (if (b == 4) || (b == 6) then kind.Text
    else (if b == 7 then kind.Array
    else (if b == 8 then kind.Object else kind.Null)))))

unfoldable pub kind_of : List ℕ → Kind
kind_of bytes = kind_by (first bytes)

-- The number of bytes before the content. The length takes no byte if there is no content. It takes one byte in a
-- short number or text, otherwise four.
unfoldable pub before : List ℕ → ℕ
before bytes = if nat_lt (first bytes) 3 then 1 else (if nat_lt (first bytes) 5 then 2 else 5)

abbrev pub four_bytes : List ℕ → List ℕ
four_bytes bytes = get_or bytes 1 0 ∷ get_or bytes 2 0 ∷ get_or bytes 3 0 ∷ get_or bytes 4 0 ∷ []

-- the number of bytes of the content
unfoldable pub size : List ℕ → ℕ
size bytes = if nat_lt (first bytes) 3 then 0 else (if nat_lt (first bytes) 5 then get_or bytes 1 0 else from_le_bytes w32 (four_bytes bytes))

-- the content of the first box
unfoldable pub content : List ℕ → List ℕ
content bytes = take (size bytes) (drop (before bytes) bytes)

-- the bytes after the first box
unfoldable pub after : List ℕ → List ℕ
after bytes = drop (size bytes) (drop (before bytes) bytes)

-- ---- writing boxes

-- a box with a length of four bytes
abbrev pub long_box : ℕ → List ℕ → List ℕ
long_box b s = b ∷ (to_le_bytes w32 (length s) ++ s)
