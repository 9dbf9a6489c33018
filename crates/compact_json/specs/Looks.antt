-- The value of a box, by its kind and its content.
use Rattle.std.specs.Prelude.{ℕ, Bool, true, false, not, List, Option, None, Some, is_some}
use Rattle.serde_json.specs.Data.{Num, Items, Members}
use Rattle.serde_json.specs.Find.{as_str}
use Rattle.serde_json.specs.Read.{number_of}
use Rattle.compact_json.specs.declared.boxes.Kind.{Kind}
use Rattle.compact_json.specs.declared.boxes.Kind.TheVariants as kind
use Rattle.compact_json.specs.Kept.{is_text, text_data, items_of, members_of}

abbrev pub str_by : List ℕ → Kind → Option (List ℕ)
str_by s kind.Null = None
str_by s kind.False = None
str_by s kind.True = None
str_by s kind.Number = None
str_by s kind.Text = as_str (text_data s)
str_by s kind.Array = None
str_by s kind.Object = None

abbrev pub number_by : List ℕ → Kind → Option Num
number_by s kind.Null = None
number_by s kind.False = None
number_by s kind.True = None
number_by s kind.Number = number_of s
number_by s kind.Text = None
number_by s kind.Array = None
number_by s kind.Object = None

abbrev pub bool_by : Kind → Option Bool
bool_by kind.Null = None
bool_by kind.False = Some false
bool_by kind.True = Some true
bool_by kind.Number = None
bool_by kind.Text = None
bool_by kind.Array = None
bool_by kind.Object = None

abbrev pub array_by : List ℕ → Kind → Option Items
array_by s kind.Null = None
array_by s kind.False = None
array_by s kind.True = None
array_by s kind.Number = None
array_by s kind.Text = None
array_by s kind.Array = Some (items_of s)
array_by s kind.Object = None

abbrev pub object_by : List ℕ → Kind → Option Members
object_by s kind.Null = None
object_by s kind.False = None
object_by s kind.True = None
object_by s kind.Number = None
object_by s kind.Text = None
object_by s kind.Array = None
object_by s kind.Object = Some (members_of s)

abbrev pub is_null_by : List ℕ → Kind → Bool
is_null_by s kind.Null = true
is_null_by s kind.False = false
is_null_by s kind.True = false
is_null_by s kind.Number = not (is_some (number_of s))
is_null_by s kind.Text = not (is_text s)
is_null_by s kind.Array = false
is_null_by s kind.Object = false
