-- What a record with too many fields gives is told by the first of them.
use Rattle.std.proofs.Common.{◌≡◌, ◌∙◌, refl, ap, add-one, ℕ, suc, ◌+◌, List, [], ◌∷◌, length, take, ◌&&◌, bytes_eq}
use Rattle.table_files.specs.Reading.{are_same}
use Rattle.table_files.specs.Settings.{value_of}
use Rattle.table_files.specs.declared.settings.Setting.{Setting}

same_told : (fields columns : List (List ℕ)) → are_same (take (suc (length columns)) fields) columns ≡ are_same fields columns
same_told [] columns = refl
same_told (field ∷ fields) [] = refl
same_told (field ∷ fields) (column ∷ columns) = ap (λ same. bytes_eq field column && same) (same_told fields columns)

pub header_told : (most : ℕ) (fields columns : List (List ℕ)) → most ≡ length columns + 1 → are_same (take most fields) columns ≡ are_same fields columns
header_told most fields columns e = ap (λ n. are_same (take n fields) columns) (e ∙ add-one (length columns)) ∙ same_told fields columns

pub value_told : (s : Setting) (fields : List (List ℕ)) → value_of s (take 3 fields) ≡ value_of s fields
value_told s [] = refl
value_told s (a ∷ []) = refl
value_told s (a ∷ b ∷ []) = refl
value_told s (a ∷ b ∷ c ∷ others) = refl
