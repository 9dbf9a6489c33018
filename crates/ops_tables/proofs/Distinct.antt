-- One row more whose key is new.
use Rattle.std.proofs.Common.{◌≡◌, List, [], ◌∷◌, ◌++◌, append-nil, append_assoc, Bool, false}
use Rattle.std.specs.List.{list_any}
use Rattle.ops_tables.specs.Keys.{AreNew}

pub one_more : {R : Type 0} (same : R → R → Bool) (earlier rows : List R) (row : R)
    → AreNew same earlier rows → list_any (same row) (earlier ++ rows) ≡ false → AreNew same earlier (rows ++ row ∷ [])
one_more same earlier [] row new none = (rw append-nil at none, tt)
one_more same earlier (first ∷ rows) row new none =
    (new.0, one_more same (earlier ++ first ∷ []) rows row new.1 (rw append_assoc none))
