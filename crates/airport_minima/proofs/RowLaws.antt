-- Each row of a group is one that the group may have.
use Rattle.std.proofs.Common.{◌≡◌, subst, ℕ, zero, suc, List, [], ◌∷◌, drop, All}
use Rattle.std.proofs.lemmas.List.Elements.{All-head, All-tail}
use Rattle.ops_tables.specs.declared.rows.Approach.{Approach}
use Rattle.ops_tables.specs.declared.rows.AlternateRow.{AlternateRow}
use Rattle.ops_tables.specs.Limits.{FitsApproach, FitsAlternate}

left : {R : Type 0} (P : R → Type 0) (rows : List R) (place : ℕ) → All P rows → All P (drop place rows)
left P rows zero each = each
left P [] (suc place) each = each
left P (row ∷ rows) (suc place) each = left P rows place (All-tail P row rows each)

at : {R : Type 0} (P : R → Type 0) (rows : List R) (place : ℕ) (row : R) (rest : List R) → All P rows → drop place rows ≡ row ∷ rest → P row
at P rows place row rest each is = All-head P row rest (subst (All P) is (left P rows place each))

pub approach_fits : (rows : List Approach) (place : ℕ) (row : Approach) (rest : List Approach) → All FitsApproach rows → drop place rows ≡ row ∷ rest → FitsApproach row
approach_fits rows place row rest each is = at FitsApproach rows place row rest each is

pub alternate_fits : (rows : List AlternateRow) (place : ℕ) (row : AlternateRow) (rest : List AlternateRow) → All FitsAlternate rows → drop place rows ≡ row ∷ rest → FitsAlternate row
alternate_fits rows place row rest each is = at FitsAlternate rows place row rest each is
