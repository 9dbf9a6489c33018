-- The JSON data that boxes store; every byte string stores some data, so reading never fails.
use Rattle.std.specs.Prelude.{ℕ, zero, suc, List, [], ◌∷◌, length, Bool, true, false, ◌==◌, if◌then◌else◌, Option, None, Some}
use Rattle.std.specs.Str.Lossy.{utf8_valid_len}
use Rattle.serde_json.specs.Data.{Num, Data, null, boolean, number, string, array, object, Items, no_items, item, Members, no_members, put}
use Rattle.serde_json.specs.Read.{number_of}
use Rattle.compact_json.specs.Boxes.{kind_of, content, after}
use Rattle.compact_json.specs.declared.boxes.Kind.{Kind}
use Rattle.compact_json.specs.declared.boxes.Kind.TheVariants as kind

abbrev pub is_text : List ℕ → Bool
is_text s = utf8_valid_len s == length s

abbrev pub number_or_null : Option Num → Data
number_or_null None = null
number_or_null (Some n) = number n

abbrev pub number_data : List ℕ → Data
number_data s = number_or_null (number_of s)

abbrev pub text_data : List ℕ → Data
text_data s = if is_text s then string s else null

-- the data of a box of this kind and content
abbrev pub data_by : (List ℕ → Items) → (List ℕ → Members) → List ℕ → Kind → Data
data_by items members s kind.Null = null
data_by items members s kind.False = boolean false
data_by items members s kind.True = boolean true
data_by items members s kind.Number = number_data s
data_by items members s kind.Text = text_data s
data_by items members s kind.Array = array (items s)
data_by items members s kind.Object = object (members s)

-- one more member, if its key is UTF-8
abbrev pub put_text : List ℕ → Data → Members → Members
put_text k d found = if is_text k then put k d found else found

-- the items of consecutive boxes, at most n
abbrev pub items_by : (List ℕ → Data) → ℕ → List ℕ → Items
items_by each zero bytes = no_items
items_by each (suc n) [] = no_items
items_by each (suc n) (b ∷ bs) = item (each (b ∷ bs)) (items_by each n (after (b ∷ bs)))

-- the members of consecutive boxes, each a key and a value, at most n, added to those found before
abbrev pub members_by : (List ℕ → Data) → ℕ → List ℕ → Members → Members
members_by each zero bytes found = found
members_by each (suc n) [] found = found
members_by each (suc n) (b ∷ bs) found =
    members_by each n (after (after (b ∷ bs))) (put_text (content (b ∷ bs)) (each (after (b ∷ bs))) found)

-- the data of the first box, if boxes are nested at most n deep
unfoldable pub data_within : ℕ → List ℕ → Data
data_within zero bytes = null
data_within (suc n) bytes =
    data_by (λ s. items_by (data_within n) (length s) s) (λ s. members_by (data_within n) (length s) s no_members) (content bytes) (kind_of bytes)

-- ---- for any depth

unfoldable pub data_of : List ℕ → Data
data_of bytes = data_within (length bytes) bytes

unfoldable pub items_of : List ℕ → Items
items_of bytes = items_by data_of (length bytes) bytes

unfoldable pub members_onto : List ℕ → Members → Members
members_onto bytes found = members_by data_of (length bytes) bytes found

abbrev pub members_of : List ℕ → Members
members_of bytes = members_onto bytes no_members
