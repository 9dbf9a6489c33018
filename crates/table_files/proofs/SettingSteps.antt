-- What one more record does to the values that were read.
use Rattle.std.proofs.Common.{◌≡◌, ◌∙◌, sym, ap, refl, subst, ℕ, ◌+◌, ◌≤◌, List, [], ◌∷◌, ◌++◌, append_assoc, length, arith, Option, Some, None, Err, Result}
use Rattle.csv_text.specs.Records.{AreRecordsOf, HasGiven}
use Rattle.csv_text.specs.declared.records.Records.{Records}
use Rattle.csv_text.proofs.Totals.{all_records}
use Rattle.table_files.specs.Settings.{value_of, with_value, values_after, first_value, GivesValue, most_of, AreWithin}
use Rattle.table_files.specs.declared.faults.BadRecord.{BadRecord}
use Rattle.table_files.specs.declared.faults.TableWhy.{TableWhy}
use Rattle.table_files.specs.declared.faults.TableWhy.TheVariants as why
use Rattle.table_files.specs.declared.settings.Setting.{Setting}

pub valued : (text : List ℕ) (earlier : List (List (List ℕ))) (s : Setting) (fields : List (List ℕ)) (reader : Records) (o : Option ℕ)
    → HasGiven text (earlier ++ fields ∷ []) reader → value_of s fields ≡ o → GivesValue text earlier s o reader
valued text earlier s fields reader (Some value) h e = (fields, h, e)
valued text earlier s fields reader None h e =
    let rest = all_records text (earlier ++ fields ∷ []) reader h in
    (fields ∷ rest.0, subst (λ (e : List (List (List ℕ))). AreRecordsOf text e) (append_assoc earlier (fields ∷ []) rest.0) rest.1, e)

pub good_value : (values : List ℕ) (s : Setting) (left : List Setting) (fields : List (List ℕ)) (value : ℕ) (others : List (List (List ℕ)))
    → value_of s fields ≡ Some value → values_after values (s ∷ left) (fields ∷ others) ≡ values_after (values ++ value ∷ []) left others
good_value values s left fields value others e = ap (λ o. with_value (length values + 2) o (λ v. values_after (values ++ v ∷ []) left others)) e

pub bad_value : (values : List ℕ) (s : Setting) (left : List Setting) (others : List (List (List ℕ)))
    → first_value s others ≡ None → values_after values (s ∷ left) others ≡ Err (record { line = length values + 2; why = why.BadField })
bad_value values s left [] e = refl
bad_value values s left (fields ∷ others) e = ap (λ o. with_value (length values + 2) o (λ v. values_after (values ++ v ∷ []) left others)) e

pub one_within : (values : List ℕ) (value : ℕ) (before left : List Setting) (s : Setting) → length values ≡ length before → AreWithin values (before ++ s ∷ left) → value ≤ most_of s → AreWithin (values ++ value ∷ []) (before ++ s ∷ left)
one_within [] value [] left s e all h = (h, tt)
one_within [] value (b ∷ before) left s e all h = cc
one_within (v ∷ values) value [] left s e all h = cc
one_within (v ∷ values) value (b ∷ before) left s e all h = (all.0, one_within values value before left s (omega (arith, e)) all.1 h)

pub is_bad : (w : TableWhy) (shown vs : List ℕ) (bad : BadRecord) → bad ≡ record { line = length shown + 2; why = w } → shown ≡ vs → (r : Result (List ℕ) BadRecord) → r ≡ Err (record { line = length vs + 2; why = w }) → r ≡ Err bad
is_bad w shown vs bad e same r is = is ∙ sym (ap Err e ∙ ap (λ (xs : List ℕ). Err (record { line = length xs + 2; why = w })) same)
