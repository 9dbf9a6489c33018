-- Tests of words among groups.
use Rattle.std.proofs.Common.{ℕ, List, Contains, Decides, bytes_eq, refl, subst}
use Rattle.std.specs.List.{list_any}
use Rattle.std.proofs.lemmas.Slice.Eq.{bytes_eq-Decides}
use Rattle.std.proofs.lemmas.List.Folds.{Any-from_list_any, list_any-from_Any}
use Rattle.desk_io.proofs.Bytes.{same_bytes}

-- whether a word is among some groups
pub has_decides : (word : List ℕ) (groups : List (List ℕ)) → Decides (list_any (λ g. bytes_eq g word) groups) (Contains groups word)
has_decides word groups = (
  (λ e. let any = Any-from_list_any (λ g. bytes_eq g word) groups e in
      subst (λ w. Contains groups w) (same_bytes any.1 word any.4) (any.0, any.2, any.3)),
  (λ c. list_any-from_Any (λ g. bytes_eq g word) groups (c.0, word, c.1, c.2, (bytes_eq-Decides word word).1 refl)),
)
