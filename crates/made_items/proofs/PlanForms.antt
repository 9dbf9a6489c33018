-- The plans that are made have their forms.
use Rattle.std.proofs.Common.{◌≡◌, refl, ℕ, ◌+◌, ◌==◌, ◌/◌, ◌%◌, ◌≤◌, arith, Bool, true, false, if◌then◌else◌, ◌&&◌, List, [], ◌∷◌, length, decimal}
use Rattle.std.specs.Prelude.{nat_le}
use Rattle.std.specs.List.{list_all}
use Rattle.std.proofs.lemmas.Bool.{and_parts}
use Rattle.std.proofs.lemmas.Bool.Decides.{nat_tests}
use Rattle.std.proofs.lemmas.Fmt.{digits_decimal, length-decimal-le}
use Rattle.desk_io.specs.Station.{is_capital_or_digit}
use Rattle.asks.specs.Forms.{IsLeg, HasForms}
use Rattle.desk_time.specs.Numbers.{is_digit}
use Rattle.desk_time.proofs.NumberLaws.{own}
use Rattle.made_items.specs.Numbers.{minimum_of}
use Rattle.made_items.specs.Plans.{leg, flight, plan_of}

digit_too : (b : ℕ) → is_digit b ≡ true → is_capital_or_digit b ≡ true
digit_too b is = grind (arith, nat_tests)

digits_too : (ds : List ℕ) → list_all is_digit ds ≡ true → list_all is_capital_or_digit ds ≡ true
digits_too [] all = refl
digits_too (d ∷ ds) all =
    let both = and_parts (is_digit d) (list_all is_digit ds) all in
    rw (digit_too d both.0, digits_too ds both.1) refl

-- one to eight capital letters or digits
abbrev is_flight : List ℕ → Bool
is_flight t = nat_le 1 (length t) && nat_le (length t) 8 && list_all is_capital_or_digit t

tests : (a b c : Bool) → a ≡ true → b ≡ true → c ≡ true → (a && b && c) ≡ true
tests true true true one two three = refl
tests true true false one two three = three
tests true false c one two three = absurd (cc)
tests false b c one two three = absurd (cc)

least : (n : ℕ) → nat_le 1 (n + 2) ≡ true
least n = grind (arith, nat_tests)

most : (n : ℕ) → n ≤ 6 → nat_le (n + 2) 8 ≡ true
most n few = grind (arith, nat_tests, few)

numbered : (ds : List ℕ) → length ds ≤ 6 → list_all is_capital_or_digit ds ≡ true → is_flight (68 ∷ 75 ∷ ds) ≡ true
numbered ds few all =
    tests (nat_le 1 (length (68 ∷ 75 ∷ ds))) (nat_le (length (68 ∷ 75 ∷ ds)) 8) (list_all is_capital_or_digit (68 ∷ 75 ∷ ds))
    (grind (arith, nat_tests)) (grind (arith, nat_tests, few)) all

named : (n : ℕ) → n ≤ 100_000 → is_flight (flight n) ≡ true
named n few =
    numbered (decimal n) (length-decimal-le 6 n (omega arith) (omega (arith, few)) (omega (arith, few))) (digits_too (decimal n) (digits_decimal own n (omega (arith, few))))

leg_formed : (minimum : ℕ) → minimum ≤ 100_000 → IsLeg (leg minimum)
leg_formed minimum few = record {
  from = refl;
  to = refl;
  etd = (omega arith, omega arith);
  eta = (omega arith, omega arith);
  minutes = omega arith;
  burn = omega arith;
  extra = omega arith;
  minimum = omega (arith, few);
  onboard = omega arith;
  takeoff = tt;
  alternates = (record { station = refl; minutes = omega arith; fuel = omega arith }, tt);
}

light : (b : Bool) → (if b then 16_499 else 16_500) ≤ 100_000
light true = omega arith
light false = omega arith

pub plan_formed : (number x : ℕ) → number ≤ 100_000 → HasForms (plan_of number (minimum_of x))
plan_formed number x few = record {
  flight = named number few;
  tail = refl;
  captain = refl;
  few = omega arith;
  legs = (leg_formed (minimum_of x) (light ((x / 65_536) % 4 == 0)), tt);
}
