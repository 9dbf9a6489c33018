-- JSON data with 64-bit natural numbers only, and with object keys in byte order without duplicates.
use Rattle.std.specs.Prelude.{◌≡◌, ℕ, ◌^◌, ◌<◌, List, ⊤, IsUtf8}
use Rattle.std.specs.Ordering.{nat_cmp}
use Rattle.std.specs.declared.cmp.Ordering.TheVariants.{Less}
use Rattle.std.specs.Cmp.Lexicographic.{slice_cmp}
use Rattle.serde_json.specs.Data.{Num, unsigned, negative, float, Data, null, boolean, number, string, array, object, Items, no_items, item, Members, no_members, member}

-- a 64-bit natural number
abbrev pub IsPlainNumber : Num → Type 0
IsPlainNumber (unsigned n) = n < 2 ^ 64
IsPlainNumber (negative z) = ⊥
IsPlainNumber (float x) = ⊥

-- the key comes before each of these keys
abbrev pub IsBefore : List ℕ → Members → Type 0
IsBefore key no_members = ⊤
IsBefore key (member k d ms) = (slice_cmp nat_cmp key k ≡ Less) × IsBefore key ms

-- the keys are in byte order without duplicates
abbrev pub AreInOrder : Members → Type 0
AreInOrder no_members = ⊤
AreInOrder (member k d ms) = IsBefore k ms × AreInOrder ms

abbrev mutual
  pub IsPlain : Data → Type 0
  IsPlain null = ⊤
  IsPlain (boolean b) = ⊤
  IsPlain (number n) = IsPlainNumber n
  IsPlain (string t) = ⊤
  IsPlain (array ds) = ItemsArePlain ds
  IsPlain (object ms) = AreInOrder ms × MembersArePlain ms

  pub ItemsArePlain : Items → Type 0
  ItemsArePlain no_items = ⊤
  ItemsArePlain (item d ds) = IsPlain d × ItemsArePlain ds

  pub MembersArePlain : Members → Type 0
  MembersArePlain no_members = ⊤
  MembersArePlain (member k d ms) = IsPlain d × MembersArePlain ms

-- every key and every string is UTF-8
abbrev mutual
  pub HasText : Data → Type 0
  HasText null = ⊤
  HasText (boolean b) = ⊤
  HasText (number n) = ⊤
  HasText (string t) = IsUtf8 t
  HasText (array ds) = ItemsHaveText ds
  HasText (object ms) = MembersHaveText ms

  pub ItemsHaveText : Items → Type 0
  ItemsHaveText no_items = ⊤
  ItemsHaveText (item d ds) = HasText d × ItemsHaveText ds

  pub MembersHaveText : Members → Type 0
  MembersHaveText no_members = ⊤
  MembersHaveText (member k d ms) = IsUtf8 k × HasText d × MembersHaveText ms
