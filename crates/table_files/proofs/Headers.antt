-- A header with another number of columns.
use Rattle.std.proofs.Common.{◌≡◌, ◌≢◌, refl, ap, ℕ, suc, List, [], ◌∷◌, Bool, true, false, ◌&&◌, length, Bor, map, bytes_eq}
use Rattle.table_files.specs.Reading.{are_same}

and_false : (a b : Bool) → b ≡ false → (a && b) ≡ false
and_false true b h = h
and_false false b h = refl

pub apart : (fields : List (List ℕ)) (columns : List (Bor (List ℕ))) → length fields ≢ length columns → are_same fields (map (λ c. c.now) columns) ≡ false
apart [] [] h = absurd (h refl)
apart [] (column ∷ columns) h = refl
apart (field ∷ fields) [] h = refl
apart (field ∷ fields) (column ∷ columns) h =
    and_false (bytes_eq field column.now) (are_same fields (map (λ c. c.now) columns)) (apart fields columns (λ e. h (ap suc e)))
