-- The forms of names in the tables: the characters and the number of them.
use Rattle.std.specs.Prelude.{ℕ, ◌==◌, nat_le, nat_lt, Bool, ◌&&◌, ◌||◌, not, List, length}
use Rattle.std.specs.List.{list_all}
use Rattle.std.specs.Str.{bytes_eq}

abbrev pub is_digit : ℕ → Bool
is_digit b = nat_le 48 b && nat_le b 57

abbrev pub is_capital : ℕ → Bool
is_capital b = nat_le 65 b && nat_le b 90

abbrev pub is_small : ℕ → Bool
is_small b = nat_le 97 b && nat_le b 122

-- a capital letter or a digit
abbrev pub in_name : ℕ → Bool
in_name b = is_capital b || is_digit b

-- a capital letter, a digit or a hyphen
abbrev pub in_mark : ℕ → Bool
in_mark b = in_name b || (b == 45)

-- a letter or a digit
abbrev pub in_person : ℕ → Bool
in_person b = in_name b || is_small b

-- a printable ASCII character other than the space
abbrev pub in_key : ℕ → Bool
in_key b = nat_lt 32 b && nat_lt b 127

abbrev pub has_length : ℕ → List ℕ → Bool
has_length most field = nat_le 1 (length field) && nat_le (length field) most

-- one to `most` allowed characters
abbrev pub is_word : (ℕ → Bool) → ℕ → List ℕ → Bool
is_word allowed most field = has_length most field && list_all allowed field

-- the name of a type, an approach, a runway or a capability
unfoldable pub is_name : List ℕ → Bool
is_name field = is_word in_name 8 field

-- the registration of an aircraft
unfoldable pub is_tail : List ℕ → Bool
is_tail field = is_word in_mark 8 field

-- the name of an item of a minimum equipment list
unfoldable pub is_item : List ℕ → Bool
is_item field = is_word in_mark 16 field

-- the name of a person
unfoldable pub is_person : List ℕ → Bool
is_person field = is_word in_person 16 field

-- the key of a person
unfoldable pub is_key : List ℕ → Bool
is_key field = is_word in_key 64 field

-- the name of a capability, or the empty field for none
abbrev pub is_name_or_none : List ℕ → Bool
is_name_or_none field = (length field == 0) || is_name field

-- the names of an approach, its runway and the capability that it needs
unfoldable pub are_names : List ℕ → List ℕ → List ℕ → Bool
are_names a b c = is_name a && is_name b && is_name c

-- an item's type, its name, and the capability that is lost while it is deferred or the empty field
unfoldable pub are_item_names : List ℕ → List ℕ → List ℕ → Bool
are_item_names kind item capability = is_name kind && is_item item && is_name_or_none capability

-- a type and two different items
unfoldable pub are_two_items : List ℕ → List ℕ → List ℕ → Bool
are_two_items kind item other = is_name kind && is_item item && is_item other && not (bytes_eq item other)
