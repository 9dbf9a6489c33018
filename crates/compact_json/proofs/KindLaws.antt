-- What is found in the data of a box, by its kind.
use Rattle.std.proofs.Common.{◌≡◌, ℕ, Bool, true, false, List, Option, None, Some, option_and_then, refl, sym, ap, ◌∙◌}
use Rattle.std.specs.Prelude.{not, is_some, if◌then◌else◌}
use Rattle.serde_json.specs.Data.{Num, Data, null, boolean, number, string, array, object, Items, Members}
use Rattle.serde_json.specs.Find.{as_null, as_bool, as_number, as_u64, as_str, as_array, as_object}
use Rattle.serde_json.specs.Read.{number_of}
use Rattle.compact_json.specs.declared.boxes.Kind.{Kind}
use Rattle.compact_json.specs.declared.boxes.Kind.TheVariants as kind
use Rattle.compact_json.specs.Kept.{is_text, number_or_null, text_data, data_by, data_of, items_of, members_of}
use Rattle.compact_json.specs.Boxes.{kind_of, content}
use Rattle.compact_json.specs.Looks.{str_by, number_by, bool_by, array_by, object_by, is_null_by}
use Rattle.compact_json.proofs.KeptLaws.{data_is}

text_case : (b : Bool) (s : List ℕ) → (if b then Some s else None) ≡ as_str (if b then string s else null)
text_case true s = refl
text_case false s = refl

pub text_back : (s : List ℕ) → (if is_text s then Some s else None) ≡ as_str (text_data s)
text_back s = text_case (is_text s) s

-- what is nothing of null and of numbers is nothing of a number's box
no_number : {A : Type 0} (f : Data → Option A) (o : Option Num) → f null ≡ None → ((n : Num) → f (number n) ≡ None) → f (number_or_null o) ≡ None
no_number f None one two = one
no_number f (Some n) one two = two n

-- and what is nothing of null and of texts is nothing of a text's
no_text : {A : Type 0} (f : Data → Option A) (b : Bool) (s : List ℕ) → f null ≡ None → ((t : List ℕ) → f (string t) ≡ None) → f (if b then string s else null) ≡ None
no_text f true s one two = two s
no_text f false s one two = one

null_number : (o : Option Num) → is_some (as_null (number_or_null o)) ≡ not (is_some o)
null_number None = refl
null_number (Some n) = refl

null_text : (b : Bool) (s : List ℕ) → is_some (as_null (if b then string s else null)) ≡ not b
null_text true s = refl
null_text false s = refl

number_back : (o : Option Num) → as_number (number_or_null o) ≡ o
number_back None = refl
number_back (Some n) = refl

-- ---- one equation for each way of looking

module _ (s : List ℕ) where
  abbrev by_kind : Kind → Data
  by_kind k = data_by items_of members_of s k

  str_is : (k : Kind) → as_str (by_kind k) ≡ str_by s k
  str_is kind.Null = refl
  str_is kind.False = refl
  str_is kind.True = refl
  str_is kind.Number = no_number as_str (number_of s) refl (λ n. refl)
  str_is kind.Text = refl
  str_is kind.Array = refl
  str_is kind.Object = refl

  number_is : (k : Kind) → as_number (by_kind k) ≡ number_by s k
  number_is kind.Null = refl
  number_is kind.False = refl
  number_is kind.True = refl
  number_is kind.Number = number_back (number_of s)
  number_is kind.Text = no_text as_number (is_text s) s refl (λ t. refl)
  number_is kind.Array = refl
  number_is kind.Object = refl

  bool_is : (k : Kind) → as_bool (by_kind k) ≡ bool_by k
  bool_is kind.Null = refl
  bool_is kind.False = refl
  bool_is kind.True = refl
  bool_is kind.Number = no_number as_bool (number_of s) refl (λ n. refl)
  bool_is kind.Text = no_text as_bool (is_text s) s refl (λ t. refl)
  bool_is kind.Array = refl
  bool_is kind.Object = refl

  array_is : (k : Kind) → as_array (by_kind k) ≡ array_by s k
  array_is kind.Null = refl
  array_is kind.False = refl
  array_is kind.True = refl
  array_is kind.Number = no_number as_array (number_of s) refl (λ n. refl)
  array_is kind.Text = no_text as_array (is_text s) s refl (λ t. refl)
  array_is kind.Array = refl
  array_is kind.Object = refl

  object_is : (k : Kind) → as_object (by_kind k) ≡ object_by s k
  object_is kind.Null = refl
  object_is kind.False = refl
  object_is kind.True = refl
  object_is kind.Number = no_number as_object (number_of s) refl (λ n. refl)
  object_is kind.Text = no_text as_object (is_text s) s refl (λ t. refl)
  object_is kind.Array = refl
  object_is kind.Object = refl

  null_is : (k : Kind) → is_some (as_null (by_kind k)) ≡ is_null_by s k
  null_is kind.Null = refl
  null_is kind.False = refl
  null_is kind.True = refl
  null_is kind.Number = null_number (number_of s)
  null_is kind.Text = null_text (is_text s) s
  null_is kind.Array = refl
  null_is kind.Object = refl

-- ---- the same of a box

pub str_at : (b : List ℕ) → str_by (content b) (kind_of b) ≡ as_str (data_of b)
str_at b = sym (ap as_str (data_is b) ∙ str_is (content b) (kind_of b))

pub number_at : (b : List ℕ) → option_and_then as_u64 (number_by (content b) (kind_of b)) ≡ option_and_then as_u64 (as_number (data_of b))
number_at b = ap (option_and_then as_u64) (sym (ap as_number (data_is b) ∙ number_is (content b) (kind_of b)))

pub bool_at : (b : List ℕ) → bool_by (kind_of b) ≡ as_bool (data_of b)
bool_at b = sym (ap as_bool (data_is b) ∙ bool_is (content b) (kind_of b))

pub array_at : (b : List ℕ) → array_by (content b) (kind_of b) ≡ as_array (data_of b)
array_at b = sym (ap as_array (data_is b) ∙ array_is (content b) (kind_of b))

pub object_at : (b : List ℕ) → object_by (content b) (kind_of b) ≡ as_object (data_of b)
object_at b = sym (ap as_object (data_is b) ∙ object_is (content b) (kind_of b))

pub null_at : (b : List ℕ) → is_null_by (content b) (kind_of b) ≡ is_some (as_null (data_of b))
null_at b = sym (ap (λ d. is_some (as_null d)) (data_is b) ∙ null_is (content b) (kind_of b))

-- ---- what holds of the data of any box

number_holds : (P : Data → Type 0) (o : Option Num) → P null → ((n : Num) → P (number n)) → P (number_or_null o)
number_holds P None one all = one
number_holds P (Some n) one all = all n

text_holds : (P : Data → Type 0) (b : Bool) (s : List ℕ) → is_text s ≡ b → P null → (is_text s ≡ true → P (string s)) → P (if b then string s else null)
text_holds P true s is one all = all is
text_holds P false s is one all = one

kind_holds : (P : Data → Type 0) (k : Kind) (i : List ℕ → Items) (m : List ℕ → Members) (s : List ℕ)
    → P null → ((b : Bool) → P (boolean b)) → ((n : Num) → P (number n)) → (is_text s ≡ true → P (string s)) → P (array (i s)) → P (object (m s)) → P (data_by i m s k)
kind_holds P kind.Null i m s none bool num text items members = none
kind_holds P kind.False i m s none bool num text items members = bool false
kind_holds P kind.True i m s none bool num text items members = bool true
kind_holds P kind.Number i m s none bool num text items members = number_holds P (number_of s) none num
kind_holds P kind.Text i m s none bool num text items members = text_holds P (is_text s) s refl none text
kind_holds P kind.Array i m s none bool num text items members = items
kind_holds P kind.Object i m s none bool num text items members = members

-- what holds of each form holds of what a box keeps
pub box_holds : (P : Data → Type 0) (b : List ℕ) (i : List ℕ → Items) (m : List ℕ → Members)
    → P null → ((b : Bool) → P (boolean b)) → ((n : Num) → P (number n)) → ((s : List ℕ) → is_text s ≡ true → P (string s))
    → P (array (i (content b))) → P (object (m (content b))) → P (data_by i m (content b) (kind_of b))
box_holds P b i m none bool num text items members = kind_holds P (kind_of b) i m (content b) none bool num (text (content b)) items members
