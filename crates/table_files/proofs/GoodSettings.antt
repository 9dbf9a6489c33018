-- The settings that a table gives are those of its records, and the record that it names is the first bad one.
use Rattle.std.proofs.Common.{◌≡◌, ◌∙◌, sym, ap, refl, subst, ℕ, suc, ◌+◌, ◌^◌, ◌<◌, List, [], ◌∷◌, ◌++◌, append-nil, append_assoc, length, Bool, true, false, Option, Some, None, Result, Ok, Err, arith, MatchResult, nat_le, cond, if◌then◌else◌, bytes_eq}
use Rattle.std.proofs.lemmas.Bool.Decides.{nat_tests}
use Rattle.std.proofs.lemmas.Slice.Eq.{bytes_eq-Decides}
use Rattle.ops_tables.specs.declared.rows.Settings.{Settings}
use Rattle.desk_time.specs.Digits.{◌>>=◌}
use Rattle.desk_time.specs.Numbers.{number_in}
use Rattle.desk_time.proofs.NumberLaws.{number_again, number_exact}
use Rattle.table_files.specs.Fields.{number_within}
use Rattle.table_files.specs.Good.{IsValue, AreValues, none, first, AreSettings, IsBadNext, IsFirstBadSetting}
use Rattle.table_files.specs.Settings.{settings, name_of, most_of, value_of, values_after, settings_with, settings_from}
use Rattle.table_files.specs.declared.faults.BadRecord.{BadRecord}
use Rattle.table_files.specs.declared.faults.TableWhy.{TableWhy}
use Rattle.table_files.specs.declared.faults.TableWhy.TheVariants as why
use Rattle.table_files.specs.declared.settings.Setting.{Setting}
use Rattle.table_files.specs.declared.settings.Setting.TheVariants as setting
use Rattle.table_files.proofs.SettingSteps.{good_value, bad_value}

small : (s : Setting) → most_of s < 2 ^ 64
small setting.HoldMinutes = omega arith
small setting.MarginalCeiling = omega arith
small setting.SingleCeiling = omega arith
small setting.DoubleCeiling = omega arith
small setting.MarginalVis16 = omega arith
small setting.SingleVis16 = omega arith
small setting.DoubleVis16 = omega arith
small setting.LateOff = omega arith
small setting.LateOn = omega arith

from_zero : (n : ℕ) → nat_le 0 n ≡ true
from_zero n = grind (arith, nat_tests)

is_value : (s : Setting) (fields : List (List ℕ)) (value : ℕ) → IsValue s fields value → value_of s fields ≡ Some value
is_value s fields value v =
    let named : bytes_eq (name_of s) (name_of s) ≡ true = (bytes_eq-Decides (name_of s) (name_of s)).1 refl in
    let read = number_again (most_of s) value v.within (omega (arith, v.within, small s)) in
    ap (value_of s) v.is_named ∙ rw (named, read, from_zero value) refl

-- a number that is at least 0 is any number
any_number : (o : Option ℕ) (value : ℕ) → (o >>= λ n. if nat_le 0 n then Some n else None) ≡ Some value → o ≡ Some value
any_number None value e = absurd cc
any_number (Some n) value e = rw (from_zero n) at e

value_named : (s : Setting) (name digits : List ℕ) (value : ℕ) (b : Bool) → bytes_eq name (name_of s) ≡ b → cond b (number_within 0 (most_of s) digits) None ≡ Some value → IsValue s (name ∷ digits ∷ []) value
value_named s name digits value true h e =
    let n = (number_exact (most_of s) digits (number_in (most_of s) digits) (small s) refl value).0 (any_number (number_in (most_of s) digits) value e) in
    record { is_named = (λ i. (bytes_eq-Decides name (name_of s)).0 h i ∷ n.1 i ∷ []); within = n.0 }
value_named s name digits value false h e = absurd cc

value_is : (s : Setting) (fields : List (List ℕ)) (value : ℕ) → value_of s fields ≡ Some value → IsValue s fields value
value_is s [] value e = absurd cc
value_is s (name ∷ []) value e = absurd cc
value_is s (name ∷ digits ∷ []) value e = value_named s name digits value (bytes_eq name (name_of s)) refl e
value_is s (name ∷ digits ∷ more ∷ rest) value e = absurd cc

no_value : (s : Setting) (fields : List (List ℕ)) → value_of s fields ≡ None → (value : ℕ) → IsValue s fields value → ⊥
no_value s fields e value v = let both = sym e ∙ is_value s fields value v in cc

none_of : (s : Setting) (fields : List (List ℕ)) → ((value : ℕ) → IsValue s fields value → ⊥) → (o : Option ℕ) → value_of s fields ≡ o → value_of s fields ≡ None
none_of s fields denied None h = h
none_of s fields denied (Some value) h = absurd (denied value (value_is s fields value h))

as_many : (before : List Setting) (good : List (List (List ℕ))) (values : List ℕ) → AreValues before good values → length values ≡ length good
as_many _ _ _ none = refl
as_many _ _ _ (first {left = left} {others = others} {values = values} v more) = ap suc (as_many left others values more)

one_more : (before : List Setting) (good : List (List (List ℕ))) (values : List ℕ) (s : Setting) (fields : List (List ℕ)) (value : ℕ)
    → AreValues before good values → IsValue s fields value → AreValues (before ++ s ∷ []) (good ++ fields ∷ []) (values ++ value ∷ [])
one_more _ _ _ s fields value none v = first v none
one_more _ _ _ s fields value (first {left = left} {others = others} {values = values} v1 more) v = first v1 (one_more left others values s fields value more v)

-- what comes of records after good ones
abbrev Comes : List Setting → List (List (List ℕ)) → Result (List ℕ) BadRecord → Type 0
Comes all records made = MatchResult made (AreValues all records) (IsFirstBadSetting all records)

stops : (before left : List Setting) (good others : List (List (List ℕ))) (values : List ℕ) (reason : TableWhy) → AreValues before good values → IsBadNext left others reason
    → IsFirstBadSetting (before ++ left) (good ++ others) (record { line = length values + 2; why = reason })
stops before left good others values reason are bad = record {
  before = before;
  left = left;
  good = good;
  others = others;
  values = values;
  places = refl;
  order = refl;
  are_values = are;
  number = ap (λ n. n + 2) (as_many before good values are);
  fails = bad;
}

sound : (left before : List Setting) (rest good : List (List (List ℕ))) (values : List ℕ) → AreValues before good values → Comes (before ++ left) (good ++ rest) (values_after values left rest)
sound [] before [] good values are = rw (append-nil before, append-nil good) are
sound [] before (fields ∷ others) good values are = stops before [] good (fields ∷ others) values why.OverLimit are refl
sound (s ∷ left) before [] good values are = stops before (s ∷ left) good [] values why.BadField are refl
sound (s ∷ left) before (fields ∷ others) good values are =
    by (value_of s fields) refl (λ value v. sound left (before ++ s ∷ []) others (good ++ fields ∷ []) (values ++ value ∷ []) (one_more before good values s fields value are v))
  where
    by : (o : Option ℕ) → value_of s fields ≡ o
        → ((value : ℕ) → IsValue s fields value → Comes ((before ++ s ∷ []) ++ left) ((good ++ fields ∷ []) ++ others) (values_after (values ++ value ∷ []) left others))
        → Comes (before ++ s ∷ left) (good ++ fields ∷ others) (values_after values (s ∷ left) (fields ∷ others))
    by None h more =
        subst (Comes (before ++ s ∷ left) (good ++ fields ∷ others)) (sym (bad_value values s left (fields ∷ others) h))
        (stops before (s ∷ left) good (fields ∷ others) values why.BadField are (refl, no_value s fields h))
    by (Some value) h more =
        subst (Comes (before ++ s ∷ left) (good ++ fields ∷ others)) (sym (good_value values s left fields value others h))
        (subst (λ ss. Comes ss (good ++ fields ∷ others) (values_after (values ++ value ∷ []) left others)) (append_assoc before (s ∷ []) left)
        (subst (λ rs. Comes ((before ++ s ∷ []) ++ left) rs (values_after (values ++ value ∷ []) left others)) (append_assoc good (fields ∷ []) others) (more value (value_is s fields value h))))

-- good records are passed over
over : (before : List Setting) (good : List (List (List ℕ))) (more : List ℕ) (values : List ℕ) (left : List Setting) (rest : List (List (List ℕ)))
    → AreValues before good more → values_after values (before ++ left) (good ++ rest) ≡ values_after (values ++ more) left rest
over _ _ _ values left rest none = ap (λ vs. values_after vs left rest) (sym (append-nil values))
over _ _ _ values left rest (first {s = s} {left = before} {fields = fields} {others = good} {value = value} {values = more} v are) =
    good_value values s (before ++ left) fields value (good ++ rest) (is_value s fields value v)
    ∙ over before good more (values ++ value ∷ []) left rest are
    ∙ ap (λ vs. values_after vs left rest) (append_assoc values (value ∷ []) more)

fails_next : (left : List Setting) (others : List (List (List ℕ))) (values : List ℕ) (reason : TableWhy) → IsBadNext left others reason → values_after values left others ≡ Err (record { line = length values + 2; why = reason })
fails_next [] [] values reason b = absurd b
fails_next [] (fields ∷ others) values reason b = ap (λ w. Err (record { line = length values + 2; why = w })) (sym b)
fails_next (s ∷ left) [] values reason b = ap (λ w. Err (record { line = length values + 2; why = w })) (sym b)
fails_next (s ∷ left) (fields ∷ others) values reason b =
    bad_value values s left (fields ∷ others) (none_of s fields b.1 (value_of s fields) refl) ∙ ap (λ w. Err (record { line = length values + 2; why = w })) (sym b.0)

if_bad_setting_value : (records : List (List (List ℕ))) (bad : BadRecord) → IsFirstBadSetting settings records bad → values_after [] settings records ≡ Err bad
if_bad_setting_value records bad b =
    let is : record { line = length b.values + 2; why = bad.why } ≡ bad = ap (λ n. record bad { line = n }) (ap (λ n. n + 2) (as_many b.before b.good b.values b.are_values) ∙ sym b.number) in
    ap (λ ss. values_after [] ss records) b.places ∙ ap (values_after [] (b.before ++ b.left)) b.order ∙ over b.before b.good b.values [] b.left b.others b.are_values
    ∙ fails_next b.left b.others b.values bad.why b.fails ∙ ap Err is

-- what comes of the records below the header
abbrev pub ComeSettings : List (List (List ℕ)) → Result Settings BadRecord → Type 0
ComeSettings records made = MatchResult made (AreSettings records) (IsFirstBadSetting settings records)

of_values : (records : List (List (List ℕ))) (values : List ℕ) → AreValues settings records values → ComeSettings records (settings_with values)
of_values records _ (first a (first b (first c (first d (first e (first f (first g (first h (first i none))))))))) = first a (first b (first c (first d (first e (first f (first g (first h (first i none))))))))

from_values : (records : List (List (List ℕ))) (made : Result (List ℕ) BadRecord) → Comes settings records made → ComeSettings records (settings_from made)
from_values records (Ok values) are = of_values records values are
from_values records (Err bad) is = is

pub settings_come : (records : List (List (List ℕ))) → ComeSettings records (settings_from (values_after [] settings records))
settings_come records = from_values records (values_after [] settings records) (sound settings [] records [] [] none)

pub if_settings : (records : List (List (List ℕ))) (made : Settings) → AreSettings records made → settings_from (values_after [] settings records) ≡ Ok made
if_settings records made are =
    let values : List ℕ = made.hold_minutes ∷ made.marginal_ceiling ∷ made.single_ceiling ∷ made.double_ceiling ∷ made.marginal_vis16 ∷ made.single_vis16 ∷ made.double_vis16 ∷ made.late_off ∷ made.late_on ∷ [] in
    ap settings_from (ap (λ rs. values_after [] settings rs) (sym (append-nil records)) ∙ over settings records values [] [] [] are)

pub if_bad_settings : (records : List (List (List ℕ))) (bad : BadRecord) → IsFirstBadSetting settings records bad → settings_from (values_after [] settings records) ≡ Err bad
if_bad_settings records bad b = ap settings_from (if_bad_setting_value records bad b)
