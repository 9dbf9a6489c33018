-- Reading the nine settings, each a record of name and value in a fixed order.
use Rattle.std.specs.Prelude.{◌≡◌, ℕ, ◌+◌, ◌≤◌, List, [], ◌∷◌, ◌++◌, length, if◌then◌else◌, Option, None, Some, Result, Ok, Err, codes}
use Rattle.std.specs.Str.{bytes_eq}
use Rattle.csv_text.specs.Records.{AreRecordsOf, HasGiven}
use Rattle.csv_text.specs.declared.records.Records.{Records}
use Rattle.table_files.specs.Fields.{number_within}
use Rattle.table_files.specs.Reading.{under_header}
use Rattle.ops_tables.specs.declared.rows.Settings.{Settings}
use Rattle.table_files.specs.declared.faults.TableWhy.TheVariants as why
use Rattle.table_files.specs.declared.faults.BadRecord.{BadRecord}
use Rattle.table_files.specs.declared.settings.Setting.{Setting}
use Rattle.table_files.specs.declared.settings.Setting.TheVariants as setting

-- the settings, in the order of their records
abbrev pub settings : List Setting
settings = setting.HoldMinutes ∷ setting.MarginalCeiling ∷ setting.SingleCeiling ∷ setting.DoubleCeiling ∷ setting.MarginalVis16 ∷ setting.SingleVis16 ∷ setting.DoubleVis16 ∷ setting.LateOff ∷ setting.LateOn ∷ []

abbrev pub name_of : Setting → List ℕ
name_of setting.HoldMinutes = codes "hold_minutes"
name_of setting.MarginalCeiling = codes "marginal_ceiling"
name_of setting.SingleCeiling = codes "single_ceiling"
name_of setting.DoubleCeiling = codes "double_ceiling"
name_of setting.MarginalVis16 = codes "marginal_vis16"
name_of setting.SingleVis16 = codes "single_vis16"
name_of setting.DoubleVis16 = codes "double_vis16"
name_of setting.LateOff = codes "late_off"
name_of setting.LateOn = codes "late_on"

-- the largest value: minutes, feet, or sixteenths of a statute mile
abbrev pub most_of : Setting → ℕ
most_of setting.HoldMinutes = 1440
most_of setting.MarginalCeiling = 20000
most_of setting.SingleCeiling = 20000
most_of setting.DoubleCeiling = 20000
most_of setting.MarginalVis16 = 160
most_of setting.SingleVis16 = 160
most_of setting.DoubleVis16 = 160
most_of setting.LateOff = 1440
most_of setting.LateOn = 1440

-- the value of a record that has the setting's name
abbrev pub value_of : Setting → List (List ℕ) → Option ℕ
value_of s (name ∷ value ∷ []) = if bytes_eq name (name_of s) then number_within 0 (most_of s) value else None
value_of s _ = None

abbrev pub with_value : ℕ → Option ℕ → (ℕ → Result (List ℕ) BadRecord) → Result (List ℕ) BadRecord
with_value number None next = Err (record { line = number; why = why.BadField })
with_value number (Some value) next = next value

-- The values so far and those of the settings that are left, or the first bad record. The header is record 1, and a
-- missing record is bad too.
abbrev pub values_after : List ℕ → List Setting → List (List (List ℕ)) → Result (List ℕ) BadRecord
values_after values [] [] = Ok values
values_after values [] (fields ∷ others) = Err (record { line = length values + 2; why = why.OverLimit })
values_after values (s ∷ left) [] = Err (record { line = length values + 2; why = why.BadField })
values_after values (s ∷ left) (fields ∷ others) = with_value (length values + 2) (value_of s fields) (λ value. values_after (values ++ value ∷ []) left others)

-- the settings with these values
abbrev pub settings_with : List ℕ → Result Settings BadRecord
settings_with (hold_minutes ∷ marginal_ceiling ∷ single_ceiling ∷ double_ceiling ∷ marginal_vis16 ∷ single_vis16 ∷ double_vis16 ∷ late_off ∷ late_on ∷ []) =
    Ok (record { hold_minutes = hold_minutes; marginal_ceiling = marginal_ceiling; single_ceiling = single_ceiling; double_ceiling = double_ceiling; marginal_vis16 = marginal_vis16; single_vis16 = single_vis16; double_vis16 = double_vis16; late_off = late_off; late_on = late_on })
settings_with values = Err (record { line = length values + 2; why = why.BadField })

abbrev pub settings_from : Result (List ℕ) BadRecord → Result Settings BadRecord
settings_from (Ok values) = settings_with values
settings_from (Err bad) = Err bad

abbrev pub settings_columns : List (List ℕ)
settings_columns = codes "name" ∷ codes "value" ∷ []

-- the settings of a file with these records, or the first bad record
abbrev pub settings_of : List (List (List ℕ)) → Result Settings BadRecord
settings_of records = under_header settings_columns (λ under. settings_from (values_after [] settings under)) records

-- each value is within its setting's limit
abbrev pub AreWithin : List ℕ → List Setting → Type 0
AreWithin [] left = Unit {0}
AreWithin (value ∷ values) [] = Unit {0}
AreWithin (value ∷ values) (s ∷ left) = (value ≤ most_of s) × AreWithin values left

-- the value of the first record; none if there is no record
abbrev pub first_value : Setting → List (List (List ℕ)) → Option ℕ
first_value s [] = None
first_value s (fields ∷ others) = value_of s fields

-- the value of a setting in the record after those that the reader returned
abbrev pub GivesValue : List ℕ → List (List (List ℕ)) → Setting → Option ℕ → Records → Type 0
GivesValue text earlier s None reader = (others : List (List (List ℕ))) × AreRecordsOf text (earlier ++ others) × (first_value s others ≡ None)
GivesValue text earlier s (Some value) reader = (fields : List (List ℕ)) × HasGiven text (earlier ++ fields ∷ []) reader × (value_of s fields ≡ Some value)
