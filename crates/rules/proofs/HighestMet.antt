-- Weather meets just the minima that are within the highest that it meets.
use Rattle.std.proofs.Common.{◌≡◌, ◌∙◌, ℕ, ◌+◌, ◌-◌, ◌==◌, nat_le, Bool, true, false, not, ◌&&◌, ◌||◌, if◌then◌else◌, List, [], ◌∷◌, Option, Some, None, refl, ap, sym, arith}
use Rattle.std.specs.List.{list_any}
use Rattle.std.proofs.lemmas.Bool.Decides.{nat_tests}
use Rattle.desk_time.specs.Digits.{◌>>=◌}
use Rattle.desk_io.specs.declared.pair.Pair.{Pair}
use Rattle.desk_io.specs.Pair.{raised}
use Rattle.codes.specs.declared.cond.Cond.{Cond}
use Rattle.codes.specs.Minima.{reaches, is_met, meets}
use Rattle.plan.specs.AlternateNeeds.{meets_raised, is_marginal}
use Rattle.airport_minima.specs.declared.within.Bounds.{Bounds}
use Rattle.airport_minima.specs.Within.{has_within}
use Rattle.rules.specs.HighestMet.{no_margin, at_least, highest, highest_met, met_within}

-- whether a minimum is at or below the highest, where there is one
abbrev is_reached : Option ℕ → ℕ → Bool
is_reached None minimum = false
is_reached (Some most) minimum = nat_le minimum most

none_reaches : (minimum : ℕ) → (minimum == 0) ≡ nat_le minimum 0
none_reaches minimum = grind (arith, nat_tests)

known_reaches : (known : Option ℕ) (minimum : ℕ) → reaches known minimum ≡ nat_le minimum (at_least known)
known_reaches None minimum = none_reaches minimum
known_reaches (Some known) minimum = refl

lowered : (b : Bool) (known margin minimum : ℕ) → nat_le margin known ≡ b → nat_le (minimum + margin) known ≡ is_reached (if b then Some (known - margin) else None) minimum
lowered true known margin minimum is = grind (arith, nat_tests, is)
lowered false known margin minimum is = grind (arith, nat_tests, is)

element : (known : Option ℕ) (margin minimum : ℕ) → reaches known (minimum + margin) ≡ is_reached (highest known margin) minimum
element known margin minimum = known_reaches known (minimum + margin) ∙ lowered (nat_le margin (at_least known)) (at_least known) margin minimum refl

none_met : (pairs : List Pair) → false ≡ list_any (λ pair. false) pairs
none_met [] = refl
none_met (pair ∷ pairs) = none_met pairs

and_false : (b : Bool) → false ≡ (b && false)
and_false true = refl
and_false false = refl

-- both elements
within_both : (ceiling vis : Option ℕ) (pairs : List Pair)
    → met_within (ceiling >>= λ c. vis >>= λ v. Some (record { ceiling = Some c; vis = Some v })) pairs ≡ list_any (λ pair. is_reached ceiling pair.ceiling && is_reached vis pair.vis) pairs
within_both None vis pairs = none_met pairs
within_both (Some c) None pairs = none_met pairs ∙ (λ i. list_any (λ pair. and_false (nat_le pair.ceiling c) i) pairs)
within_both (Some c) (Some v) pairs = refl

raised_law : (weather : Cond) (margin : Pair) (pairs : List Pair) → met_within (highest_met weather margin) pairs ≡ meets_raised weather pairs margin
raised_law weather margin pairs =
    within_both (highest weather.ceiling margin.ceiling) (highest weather.vis margin.vis) pairs
    ∙ (λ i. list_any (λ pair. sym (element weather.ceiling margin.ceiling pair.ceiling) i && sym (element weather.vis margin.vis pair.vis) i) pairs)

add_none : (n : ℕ) → n + 0 ≡ n
add_none n = grind (arith)

pub met_raised : (weather : Cond) (margin : Pair) (pairs : List Pair) → not (met_within (highest_met weather margin) pairs) ≡ is_marginal weather pairs margin
unfolding is_marginal
met_raised weather margin pairs = ap (λ b. not b) (raised_law weather margin pairs)

pub met_unraised : (weather : Cond) (pairs : List Pair) → met_within (highest_met weather no_margin) pairs ≡ meets weather pairs
unfolding meets
met_unraised weather pairs = raised_law weather no_margin pairs ∙ (λ i. list_any (λ pair. reaches weather.ceiling (add_none pair.ceiling i) && reaches weather.vis (add_none pair.vis i)) pairs)
