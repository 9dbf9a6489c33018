-- The marks of a list, lane by lane.
use Rattle.std.proofs.Common.{◌≡◌, ◌≢◌, ℕ, ◌+◌, ◌<◌, ◌≤◌, cond, List, [], ◌∷◌, length, refl, sym, ap, ◌∙◌, arith, eq-eqb, ne_eqb, take, length-take}
use mathlib.Core.Logic.{dite}
use Rattle.std.proofs.lemmas.List.{length-map}
use native.Mathlib.Decide.{ℕ_discrete}
use Rattle.net_acceptance.specs.declared.record.Mark.{Mark}
use Rattle.net_acceptance.specs.Marks.{lane_of, mark, marks}

at_lane : (n : ℕ) (x : Mark) (xs : List Mark) → x.lane ≡ n → lane_of n (x ∷ xs) ≡ x ∷ lane_of n xs
at_lane n x xs e = ap (λ b. cond b (x ∷ lane_of n xs) (lane_of n xs)) (eq-eqb x.lane n e)

off_lane : (n : ℕ) (x : Mark) (xs : List Mark) → x.lane ≢ n → lane_of n (x ∷ xs) ≡ lane_of n xs
off_lane n x xs ne = ap (λ b. cond b (x ∷ lane_of n xs) (lane_of n xs)) (ne_eqb x.lane n ne)

no_lane : (n : ℕ) (x : Mark) (xs : List Mark) → lane_of n (x ∷ xs) ≡ [] → (x.lane ≢ n) × (lane_of n xs ≡ [])
no_lane n x xs e = let ne : x.lane ≢ n = λ is. let f : x ∷ lane_of n xs ≡ [] = sym (at_lane n x xs is) ∙ e in cc in (ne, sym (off_lane n x xs ne) ∙ e)

-- a list with no lane but 1 and 2 is as long as the two together
pub two_lanes : (xs : List Mark) → lane_of 0 xs ≡ [] → ((n : ℕ) → 2 < n → lane_of n xs ≡ []) → length xs ≡ length (lane_of 1 xs) + length (lane_of 2 xs)
two_lanes [] zero above = refl
two_lanes (x ∷ xs) zero above =
    let none = no_lane 0 x xs zero in
    let rest = two_lanes xs none.1 (λ n l. (no_lane n x xs (above n l)).1) in
    let not_zero = none.0 in
    dite (ℕ_discrete x.lane 1)
    (λ one. omega (arith, ap length (at_lane 1 x xs one), ap length (off_lane 2 x xs (λ e. omega arith))))
    (λ not_one. dite (ℕ_discrete x.lane 2)
    (λ two. omega (arith, ap length (off_lane 1 x xs not_one), ap length (at_lane 2 x xs two)))
    (λ not_two. let high : 2 < x.lane = omega arith in absurd ((no_lane x.lane x xs (above x.lane high)).0 refl)))

pub length-marks : (lane k : ℕ) (items : List ℕ) → k ≤ length items → length (marks lane (take k items)) ≡ k
length-marks lane k items le = length-map (take k items) (mark lane) ∙ omega (arith, length-take k items)
