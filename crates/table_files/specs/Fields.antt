-- Reading the fields of a record: numbers, flags, categories, roles and lists of capabilities.
use Rattle.std.specs.Prelude.{ℕ, ◌==◌, nat_le, Bool, true, false, List, [], ◌∷◌, if◌then◌else◌, Option, None, Some, codes}
use Rattle.std.specs.List.{list_all}
use Rattle.std.specs.Str.{bytes_eq}
use Rattle.desk_time.specs.Digits.{◌>>=◌}
use Rattle.desk_time.specs.Numbers.{number_in}
use Rattle.ops_tables.specs.Forms.{is_name, in_name, in_mark, in_person, in_key}
use Rattle.ops_tables.specs.Names.{names_of}
use Rattle.table_files.specs.declared.fields.Class.{Class}
use Rattle.table_files.specs.declared.fields.Class.TheVariants as class
use Rattle.ops_tables.specs.declared.rows.Category.{Category}
use Rattle.ops_tables.specs.declared.rows.Category.TheVariants as category
use Rattle.ops_tables.specs.declared.rows.Role.{Role}
use Rattle.ops_tables.specs.declared.rows.Role.TheVariants as role

-- the character is one of the class
abbrev pub is_of : Class → ℕ → Bool
is_of class.Name b = in_name b
is_of class.Mark b = in_mark b
is_of class.Person b = in_person b
is_of class.Key b = in_key b

-- the capabilities of a field, if every part between single spaces is a name
unfoldable pub capabilities_of : List ℕ → Option (List (List ℕ))
capabilities_of field = if list_all is_name (names_of field) then Some (names_of field) else None

-- a number from `least` to `most`
abbrev pub number_within : ℕ → ℕ → List ℕ → Option ℕ
number_within least most field = number_in most field >>= λ number. if nat_le least number then Some number else None

-- the flag of a field: 1 is true, 0 is false
abbrev pub mark_of : List ℕ → Option Bool
mark_of field = if bytes_eq field (codes "1") then Some true else (if bytes_eq field (codes "0") then Some false else None)

abbrev pub category_of : List ℕ → Option Category
category_of [] = None
category_of (c ∷ d ∷ rest) = None
category_of (c ∷ []) =
    if c == 65 then Some category.A else (if c == 66 then Some category.B else (if c == 67 then Some category.C else (if c == 68 then Some category.D else None)))

abbrev pub role_of : List ℕ → Option Role
role_of [] = None
role_of (c ∷ d ∷ rest) = None
role_of (c ∷ []) =
    if c == 68 then Some role.D else (if c == 67 then Some role.C else (if c == 70 then Some role.F else (if c == 77 then Some role.M else (if c == 83 then Some role.S else None))))
