-- Laws on the least of some values.
use Rattle.std.proofs.Common.{◌≡◌, ℕ, List, [], ◌∷◌, ◌++◌, Option, None, Some, refl, ap, sym, ◌∙◌, option_to_list}
use Rattle.desk_time.specs.Digits.{or_else}
use Rattle.codes.specs.Cond.{lesser}
use Rattle.codes.proofs.CondLaws.{lesser_assoc}
use Rattle.weather_window.specs.Window.{least_of}

pub or_else_assoc : (a b c : Option ℕ) → or_else (or_else a b) c ≡ or_else a (or_else b c)
or_else_assoc None b c = refl
or_else_assoc (Some x) b c = refl

pub least_of_append : (xs ys : List ℕ) → least_of (xs ++ ys) ≡ lesser (least_of xs) (least_of ys)
least_of_append [] ys = refl
least_of_append (x ∷ xs) ys =
    ap (λ a. lesser (Some x) a) (least_of_append xs ys) ∙ lesser_assoc (Some x) (least_of xs) (least_of ys)

pub least_of_option : (o : Option ℕ) → least_of (option_to_list o) ≡ o
least_of_option None = refl
least_of_option (Some x) = refl

-- the least of two lists, by the least of each
pub least_of_both : (a b : Option ℕ) (xs ys : List ℕ) → a ≡ least_of xs → b ≡ least_of ys → lesser a b ≡ least_of (xs ++ ys)
least_of_both a b xs ys e f = rw (e, f) (sym (least_of_append xs ys))
