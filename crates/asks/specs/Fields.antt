-- Reading the members of a JSON object.
use Rattle.std.specs.Prelude.{ℕ, Bool, ◌==◌, nat_le, if◌then◌else◌, false, List, [], ◌∷◌, length, Option, None, Some, option_and_then}
use Rattle.std.specs.Str.Lossy.{utf8_valid_len}
use Rattle.serde_json.specs.Data.{Data, Items, no_items, item, Members}
use Rattle.serde_json.specs.Events.{members_len}
use Rattle.serde_json.specs.Read.{read}
use Rattle.serde_json.specs.Find.{get, as_str, as_number, as_u64, as_array, as_object}
use Rattle.desk_time.specs.Digits.{◌>>=◌}
use Rattle.desk_time.specs.Moments.{minute_of, up_to}
use Rattle.desk_io.specs.Station.{Station, station_of}

-- the data of a line, if it is UTF-8 and JSON
abbrev pub data_of : List ℕ → Option Data
data_of line = if utf8_valid_len line == length line then read line else None

-- the string at a key
abbrev pub text_at : List ℕ → Data → Option (List ℕ)
text_at key d = option_and_then as_str (get key d)

-- the whole number at a key, if it is at most the limit
abbrev pub number_at : List ℕ → ℕ → Data → Option ℕ
number_at key limit d = option_and_then (up_to limit) (option_and_then as_u64 (option_and_then as_number (get key d)))

-- the 32-bit whole number at a key
abbrev pub amount_at : List ℕ → Data → Option ℕ
amount_at key d = number_at key 4_294_967_295 d

-- an id, or the number of a revision or an alert's version
abbrev pub id_at : List ℕ → Data → Option ℕ
id_at key d = number_at key 1_000_000_000_000_000 d

abbrev pub short : List ℕ → Option (List ℕ)
short t = if nat_le (length t) 64 then Some t else None

-- the string at a key, if it has at most 64 bytes
abbrev pub short_at : List ℕ → Data → Option (List ℕ)
short_at key d = option_and_then short (text_at key d)

-- the station at a key
abbrev pub station_at : List ℕ → Data → Option Station
station_at key d = option_and_then station_of (text_at key d)

-- the moment at a key
abbrev pub moment_at : List ℕ → Data → Option ℕ
moment_at key d = option_and_then minute_of (text_at key d)

-- the list at a key
abbrev pub list_at : List ℕ → Data → Option Items
list_at key d = option_and_then as_array (get key d)

-- the items as they are read, if every item can be read
abbrev pub each_read : {A : Type 0} → (Data → Option A) → Items → Option (List A)
each_read read_one no_items = Some []
each_read read_one (item d ds) = read_one d >>= λ x. each_read read_one ds >>= λ xs. Some (x ∷ xs)

abbrev pub is_length : ℕ → Option Members → Bool
is_length n None = false
is_length n (Some ms) = members_len ms == n

-- an object of exactly n members
abbrev pub has_members : ℕ → Data → Bool
has_members n d = is_length n (as_object d)
