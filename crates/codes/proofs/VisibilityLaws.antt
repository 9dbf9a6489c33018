-- A group that is a row of the table of visibility names what the row says.
use Rattle.std.proofs.Common.{drop, take, Bool, ◌≡◌, ◌≢◌, ◌⊎◌, inl, inr, true, ◌&&◌, ◌||◌, nat_le, nat_lt, Option, None, subst, ℕ, zero, suc, ◌+◌, ◌-◌, ◌*◌, ◌/◌, ◌<◌, ◌≤◌, ◌==◌, false, List, [], ◌∷◌, ◌++◌, length, slice_index, cond, Some, codes, decimal, refl, ap, sym, ◌∙◌, arith, length-append}
use Rattle.std.specs.Fmt.{digits}
use Rattle.std.proofs.lemmas.Bool.{le-leb, leb-true, ltb-true, eqb-true, eqb-false, and_parts, or_cases, ne_eqb}
use Rattle.std.proofs.lemmas.Fmt.{decimal_digit}
use Rattle.desk_time.specs.Digits.{digit, pair, ◌>>=◌, or_else}
use Rattle.std.proofs.lemmas.List.{take-append-drop, drop_all}
use Rattle.std.proofs.lemmas.Slice.Eq.{bytes_eq-Decides}
use Rattle.std.proofs.Math.Seq.{drop-cons, get_or-append_seam, get_or-append_right, take-append_seam}
use Rattle.codes.specs.declared.shapes.Named.{Named}
use Rattle.codes.specs.declared.shapes.Named.TheVariants.{Value, Nothing, Bad}
use Rattle.codes.specs.Digits.{IsDigitOf, OneOrTwoDigits, one, two, FourDigits, four}
use Rattle.codes.specs.Shapes.{number, miles, fraction, part, part_of_16, distance, before_sm, fraction_of_mile, mixed, distance_in_metres, is_cavok, visibility_before, value_or_nothing, value_or_bad, written_metres, visibility}
use Rattle.codes.specs.Shapes as shapes
use Rattle.codes.specs.VisibilityTable as table
use Rattle.codes.specs.VisibilityTable.{IsPartOfMile, halves, quarters, eighths, sixteenths, IsFractionOfMile, InMiles, InMetres, IsTabledVisibility, InTwoGroups, IsTabledSum}
use Rattle.codes.proofs.DigitLaws.{digit_of, no_digit_below, no_digit_above, number_of, found, found_if, found_either, found_first, digit_shown, number_shown}

-- what stands before SM

before_sm_of : (front : List ℕ) → before_sm (front ++ codes "SM") ≡ Some front
before_sm_of front =
    let all = length-append front (83 ∷ 77 ∷ []) in
    let long : length (front ++ 83 ∷ 77 ∷ []) - 2 ≡ length front = omega arith in
    let some : 2 ≤ length (front ++ 83 ∷ 77 ∷ []) = omega arith in
    let place : length front + 1 - length front ≡ 1 = omega arith in
    let last : slice_index (front ++ 83 ∷ 77 ∷ []) (length front + 1) ≡ 77 =
    get_or-append_right front (83 ∷ 77 ∷ []) (length front + 1) 0 (omega arith) ∙ ap (λ n. slice_index (83 ∷ 77 ∷ []) n) place in
    rw (long, le-leb 2 (length (front ++ 83 ∷ 77 ∷ [])) some, get_or-append_seam front 83 (77 ∷ []) 0, last, take-append_seam front (83 ∷ 77 ∷ [])) refl

pub visibility_of_front : (front : List ℕ) → (slice_index (front ++ codes "SM") 0 == 47) ≡ false → visibility (front ++ codes "SM") ≡ value_or_bad (distance front)
unfolding visibility
visibility_of_front front unslashed = rw (unslashed, before_sm_of front) refl

-- miles

first_is_digit : (text rest : List ℕ) (n : ℕ) → OneOrTwoDigits text n → (slice_index (text ++ rest) 0 == 47) ≡ false
first_is_digit _ rest _ (one a) = no_digit_below 47 (omega arith) a
first_is_digit _ rest _ (two a b) = no_digit_below 47 (omega arith) a

whole_miles : (text : List ℕ) (n : ℕ) → OneOrTwoDigits text n → distance text ≡ Some (1_609_344 * n)
whole_miles _ _ (one a) = rw (no_digit_above 80 (omega arith) a, no_digit_above 77 (omega arith) a, digit_of a) refl
whole_miles _ _ (two a b) = rw (no_digit_above 80 (omega arith) a, no_digit_above 77 (omega arith) a, digit_of a, digit_of b) refl

-- fractions

record Reads (n d : ℕ) : Type 0 where
  alone : fraction (decimal n ++ codes "/" ++ decimal d) ≡ Some (n * (16 / d) * 100_584)
  before_letters : distance (decimal n ++ codes "/" ++ decimal d) ≡ Some (n * (16 / d) * 100_584)
  unslashed : (slice_index ((decimal n ++ codes "/" ++ decimal d) ++ codes "SM") 0 == 47) ≡ false

reads_halves : (n : ℕ) → 1 ≤ n → n < 2 → Reads n 2
unfolding digits
reads_halves zero some part = absurd (omega arith)
reads_halves (suc zero) some part = record { alone = refl; before_letters = refl; unslashed = refl }
reads_halves (suc (suc n)) some part = absurd (omega arith)

reads_quarters : (n : ℕ) → 1 ≤ n → n < 4 → Reads n 4
unfolding digits
reads_quarters zero some part = absurd (omega arith)
reads_quarters (suc zero) some part = record { alone = refl; before_letters = refl; unslashed = refl }
reads_quarters (suc (suc zero)) some part = record { alone = refl; before_letters = refl; unslashed = refl }
reads_quarters (suc (suc (suc zero))) some part = record { alone = refl; before_letters = refl; unslashed = refl }
reads_quarters (suc (suc (suc (suc n)))) some part = absurd (omega arith)

reads_eighths : (n : ℕ) → 1 ≤ n → n < 8 → Reads n 8
unfolding digits
reads_eighths zero some part = absurd (omega arith)
reads_eighths (suc zero) some part = record { alone = refl; before_letters = refl; unslashed = refl }
reads_eighths (suc (suc zero)) some part = record { alone = refl; before_letters = refl; unslashed = refl }
reads_eighths (suc (suc (suc zero))) some part = record { alone = refl; before_letters = refl; unslashed = refl }
reads_eighths (suc (suc (suc (suc zero)))) some part = record { alone = refl; before_letters = refl; unslashed = refl }
reads_eighths (suc (suc (suc (suc (suc zero))))) some part = record { alone = refl; before_letters = refl; unslashed = refl }
reads_eighths (suc (suc (suc (suc (suc (suc zero)))))) some part = record { alone = refl; before_letters = refl; unslashed = refl }
reads_eighths (suc (suc (suc (suc (suc (suc (suc zero))))))) some part = record { alone = refl; before_letters = refl; unslashed = refl }
reads_eighths (suc (suc (suc (suc (suc (suc (suc (suc n)))))))) some part = absurd (omega arith)

reads_sixteenths : (n : ℕ) → 1 ≤ n → n < 16 → Reads n 16
unfolding digits
reads_sixteenths zero some part = absurd (omega arith)
reads_sixteenths (suc zero) some part = record { alone = refl; before_letters = refl; unslashed = refl }
reads_sixteenths (suc (suc zero)) some part = record { alone = refl; before_letters = refl; unslashed = refl }
reads_sixteenths (suc (suc (suc zero))) some part = record { alone = refl; before_letters = refl; unslashed = refl }
reads_sixteenths (suc (suc (suc (suc zero)))) some part = record { alone = refl; before_letters = refl; unslashed = refl }
reads_sixteenths (suc (suc (suc (suc (suc zero))))) some part = record { alone = refl; before_letters = refl; unslashed = refl }
reads_sixteenths (suc (suc (suc (suc (suc (suc zero)))))) some part = record { alone = refl; before_letters = refl; unslashed = refl }
reads_sixteenths (suc (suc (suc (suc (suc (suc (suc zero))))))) some part = record { alone = refl; before_letters = refl; unslashed = refl }
reads_sixteenths (suc (suc (suc (suc (suc (suc (suc (suc zero)))))))) some part = record { alone = refl; before_letters = refl; unslashed = refl }
reads_sixteenths (suc (suc (suc (suc (suc (suc (suc (suc (suc zero))))))))) some part = record { alone = refl; before_letters = refl; unslashed = refl }
reads_sixteenths (suc (suc (suc (suc (suc (suc (suc (suc (suc (suc zero)))))))))) some part = record { alone = refl; before_letters = refl; unslashed = refl }
reads_sixteenths (suc (suc (suc (suc (suc (suc (suc (suc (suc (suc (suc zero))))))))))) some part = record { alone = refl; before_letters = refl; unslashed = refl }
reads_sixteenths (suc (suc (suc (suc (suc (suc (suc (suc (suc (suc (suc (suc zero)))))))))))) some part = record { alone = refl; before_letters = refl; unslashed = refl }
reads_sixteenths (suc (suc (suc (suc (suc (suc (suc (suc (suc (suc (suc (suc (suc zero))))))))))))) some part = record { alone = refl; before_letters = refl; unslashed = refl }
reads_sixteenths (suc (suc (suc (suc (suc (suc (suc (suc (suc (suc (suc (suc (suc (suc zero)))))))))))))) some part = record { alone = refl; before_letters = refl; unslashed = refl }
reads_sixteenths (suc (suc (suc (suc (suc (suc (suc (suc (suc (suc (suc (suc (suc (suc (suc zero))))))))))))))) some part = record { alone = refl; before_letters = refl; unslashed = refl }
reads_sixteenths (suc (suc (suc (suc (suc (suc (suc (suc (suc (suc (suc (suc (suc (suc (suc (suc n)))))))))))))))) some part = absurd (omega arith)

reads : (n d : ℕ) → IsPartOfMile d → 1 ≤ n → n < d → Reads n d
reads n _ halves some part = reads_halves n some part
reads n _ quarters some part = reads_quarters n some part
reads n _ eighths some part = reads_eighths n some part
reads n _ sixteenths some part = reads_sixteenths n some part

pub fraction_is_read : (text : List ℕ) (n d : ℕ) → IsFractionOfMile text n d → fraction text ≡ Some (n * (16 / d) * 100_584)
fraction_is_read text n d is = ap fraction is.shown ∙ (reads n d is.parts is.some is.part).alone

-- the rows

in_miles_is_named : (group : List ℕ) (mm : ℕ) → InMiles group mm → visibility group ≡ Value mm
in_miles_is_named _ _ (table.miles {text} {n} digits) =
    visibility_of_front text (first_is_digit text (codes "SM") n digits)
    ∙ ap value_or_bad (whole_miles text n digits) ∙ ap Value (omega arith)
in_miles_is_named _ _ (table.above_miles {text} {n} digits) =
    visibility_of_front (80 ∷ text) refl ∙ rw (number_of text n digits) (ap Value (omega arith))
in_miles_is_named _ _ (table.fraction {text} {n} {d} is) =
    let read = reads n d is.parts is.some is.part in
    rw is.shown (visibility_of_front (decimal n ++ codes "/" ++ decimal d) read.unslashed ∙ ap value_or_bad read.before_letters)
in_miles_is_named _ _ (table.below_fraction {text} {n} {d} is) =
    visibility_of_front (77 ∷ text) refl ∙ rw (fraction_is_read text n d is) refl

written : {a b c d k l m n : ℕ} → IsDigitOf a k → IsDigitOf b l → IsDigitOf c m → IsDigitOf d n → 1000 * k + 100 * l + 10 * m + n ≢ 9999
    → written_metres a b c d ≡ Some ((1000 * k + 100 * l + 10 * m + n) * 1000)
written {k = k} {l = l} {m = m} {n = n} a b c d other =
    let near = ne_eqb (100 * (10 * k + l) + (10 * m + n)) 9999 (λ e. other (omega arith)) in
    rw (digit_of a, digit_of b, digit_of c, digit_of d, near) (ap Some (omega arith))

in_metres_is_named : (group : List ℕ) (mm : ℕ) → InMetres group mm → visibility group ≡ Value mm
unfolding visibility
in_metres_is_named _ _ (table.metres (four a b c d) other) =
    rw (no_digit_below 47 (omega arith) a, no_digit_above 83 (omega arith) c, written a b c d other) refl
in_metres_is_named _ _ (table.undirected (four a b c d) other) = rw (no_digit_below 47 (omega arith) a, written a b c d other) refl
in_metres_is_named _ _ table.ten_kilometres = refl
in_metres_is_named _ _ table.undirected_ten_kilometres = refl

cavok_is_named : (group : List ℕ) → group ≡ codes "CAVOK" → visibility group ≡ Value 10_000_000
unfolding visibility
cavok_is_named group e = rw e refl

-- what is read before SM shows miles

miles_shown : (text : List ℕ) (v : ℕ) → miles text ≡ Some v → (n : ℕ) × OneOrTwoDigits text n × (1_609_344 * n ≡ v)
miles_shown text v e =
    let read = found (number text) (λ n. Some (1_609_344 * n)) v e in
    (read.0, number_shown text read.0 read.1, (let is = read.2 in cc))

is_part : (d : ℕ) → ((d == 2) || (d == 4) || (d == 8) || (d == 16)) ≡ true → IsPartOfMile d
is_part d e =
    elim (or_cases ((d == 2) || (d == 4) || (d == 8)) (d == 16) e) [
      | inl below_16 ↦ elim (or_cases ((d == 2) || (d == 4)) (d == 8) below_16) [
        | inl below_8 ↦ elim (or_cases (d == 2) (d == 4) below_8) [
          | inl is_2 ↦ subst (λ n. IsPartOfMile n) (sym (eqb-true d 2 is_2)) halves
          | inr is_4 ↦ subst (λ n. IsPartOfMile n) (sym (eqb-true d 4 is_4)) quarters
        ]
        | inr is_8 ↦ subst (λ n. IsPartOfMile n) (sym (eqb-true d 8 is_8)) eighths
      ]
      | inr is_16 ↦ subst (λ n. IsPartOfMile n) (sym (eqb-true d 16 is_16)) sixteenths
    ]

record Parted (n d v : ℕ) : Type 0 where
  parts : IsPartOfMile d
  some : 1 ≤ n
  part : n < d
  value : n * (16 / d) * 100_584 ≡ v

parted : (n d v : ℕ) → shapes.sixteenths n d ≡ Some v → Parted n d v
parted n d v e =
    let read = found_if (((d == 2) || (d == 4) || (d == 8) || (d == 16)) && nat_le 1 n && nat_lt n d) (Some (n * (16 / d) * 100_584)) v e in
    let all = and_parts (((d == 2) || (d == 4) || (d == 8) || (d == 16)) && nat_le 1 n) (nat_lt n d) read.0 in
    let front = and_parts ((d == 2) || (d == 4) || (d == 8) || (d == 16)) (nat_le 1 n) all.0 in
    record { parts = is_part d front.0; some = leb-true 1 n front.1; part = ltb-true n d all.1; value = (let is = read.1 in cc) }

decimal_teen : (a : ℕ) → a ≤ 9 → decimal (10 + a) ≡ 49 ∷ (48 + a) ∷ []
unfolding digits
decimal_teen zero h = refl
decimal_teen (suc zero) h = refl
decimal_teen (suc (suc zero)) h = refl
decimal_teen (suc (suc (suc zero))) h = refl
decimal_teen (suc (suc (suc (suc zero)))) h = refl
decimal_teen (suc (suc (suc (suc (suc zero))))) h = refl
decimal_teen (suc (suc (suc (suc (suc (suc zero)))))) h = refl
decimal_teen (suc (suc (suc (suc (suc (suc (suc zero))))))) h = refl
decimal_teen (suc (suc (suc (suc (suc (suc (suc (suc zero)))))))) h = refl
decimal_teen (suc (suc (suc (suc (suc (suc (suc (suc (suc zero))))))))) h = refl
decimal_teen (suc (suc (suc (suc (suc (suc (suc (suc (suc (suc a)))))))))) h = absurd (omega arith)

decimal_16 : decimal 16 ≡ 49 ∷ 54 ∷ []
unfolding digits
decimal_16 = refl

abbrev ShowsFraction : List ℕ → ℕ → Type 0
ShowsFraction text v = (n : ℕ) × (d : ℕ) × IsFractionOfMile text n d × (n * (16 / d) * 100_584 ≡ v)

text_of_digits : (n s d a b : ℕ) → a < 10 → b < 10 → s ≡ 47 → n ≡ 48 + a → d ≡ 48 + b → n ∷ s ∷ d ∷ [] ≡ decimal a ++ codes "/" ++ decimal b
text_of_digits n s d a b small small_too slash first last = rw (decimal_digit a small, decimal_digit b small_too, slash, first, last) refl

text_of_16 : (n s d e a : ℕ) → a < 10 → s ≡ 47 → d ≡ 49 → e ≡ 54 → n ≡ 48 + a → n ∷ s ∷ d ∷ e ∷ [] ≡ decimal a ++ codes "/" ++ decimal 16
text_of_16 n s d e a small slash ones six first = rw (decimal_digit a small, decimal_16, slash, ones, six, first) refl

text_of_teen : (m n s d e a : ℕ) → a ≤ 9 → m ≡ 49 → s ≡ 47 → d ≡ 49 → e ≡ 54 → n ≡ 48 + a → m ∷ n ∷ s ∷ d ∷ e ∷ [] ≡ decimal (10 + a) ++ codes "/" ++ decimal 16
text_of_teen m n s d e a small ten slash ones six first = rw (decimal_teen a small, decimal_16, ten, slash, ones, six, first) refl

part_shown : (n s d v : ℕ) → s ≡ 47 → part n d ≡ Some v → ShowsFraction (n ∷ s ∷ d ∷ []) v
part_shown n s d v slash e =
    let above = found (digit n) (λ a. digit d >>= λ b. shapes.sixteenths a b) v e in
    let below = found (digit d) (λ b. shapes.sixteenths above.0 b) v above.2 in
    let first = digit_shown n above.0 above.1 in
    let last = digit_shown d below.0 below.1 in
    let is = parted above.0 below.0 v below.2 in
    let small : above.0 < 10 = let h = first.single in omega arith in
    let small_too : below.0 < 10 = let h = last.single in omega arith in (
      above.0,
      below.0,
      record {
        parts = is.parts;
        some = is.some;
        part = is.part;
        shown = text_of_digits n s d above.0 below.0 small small_too slash first.shown last.shown;
      },
      is.value,
    )

part_of_16_shown : (n s d e v : ℕ) → s ≡ 47 → d ≡ 49 → e ≡ 54 → part_of_16 0 n ≡ Some v → ShowsFraction (n ∷ s ∷ d ∷ e ∷ []) v
part_of_16_shown n s d e v slash ones six read =
    let above = found (digit n) (λ a. shapes.sixteenths (0 + a) 16) v read in
    let first = digit_shown n above.0 above.1 in
    let is = parted (0 + above.0) 16 v above.2 in
    let small : 0 + above.0 < 10 = let h = first.single in omega arith in
    let shown : n ≡ 48 + (0 + above.0) = let h = first.shown in omega arith in (
      0 + above.0,
      16,
      record {
        parts = is.parts;
        some = is.some;
        part = is.part;
        shown = text_of_16 n s d e (0 + above.0) small slash ones six shown;
      },
      is.value,
    )

teen_of_16_shown : (m n s d e v : ℕ) → m ≡ 49 → s ≡ 47 → d ≡ 49 → e ≡ 54 → part_of_16 10 n ≡ Some v → ShowsFraction (m ∷ n ∷ s ∷ d ∷ e ∷ []) v
teen_of_16_shown m n s d e v ten slash ones six read =
    let above = found (digit n) (λ a. shapes.sixteenths (10 + a) 16) v read in
    let first = digit_shown n above.0 above.1 in
    let is = parted (10 + above.0) 16 v above.2 in (
      10 + above.0,
      16,
      record {
        parts = is.parts;
        some = is.some;
        part = is.part;
        shown = text_of_teen m n s d e above.0 first.single ten slash ones six first.shown;
      },
      is.value,
    )

fraction_shown : (text : List ℕ) (v : ℕ) → fraction text ≡ Some v → ShowsFraction text v
fraction_shown [] v e = absurd cc
fraction_shown (n ∷ []) v e = absurd cc
fraction_shown (n ∷ s ∷ []) v e = absurd cc
fraction_shown (n ∷ s ∷ d ∷ []) v e = let read = found_if (s == 47) (part n d) v e in part_shown n s d v (eqb-true s 47 read.0) read.1
fraction_shown (n ∷ s ∷ d ∷ f ∷ []) v e =
    let read = found_if ((s == 47) && (d == 49) && (f == 54)) (part_of_16 0 n) v e in
    let six = and_parts ((s == 47) && (d == 49)) (f == 54) read.0 in
    let slash = and_parts (s == 47) (d == 49) six.0 in
    part_of_16_shown n s d f v (eqb-true s 47 slash.0) (eqb-true d 49 slash.1) (eqb-true f 54 six.1) read.1
fraction_shown (m ∷ n ∷ s ∷ d ∷ f ∷ []) v e =
    let read = found_if ((m == 49) && (s == 47) && (d == 49) && (f == 54)) (part_of_16 10 n) v e in
    let six = and_parts ((m == 49) && (s == 47) && (d == 49)) (f == 54) read.0 in
    let ones = and_parts ((m == 49) && (s == 47)) (d == 49) six.0 in
    let ten = and_parts (m == 49) (s == 47) ones.0 in
    teen_of_16_shown m n s d f v (eqb-true m 49 ten.0) (eqb-true s 47 ten.1) (eqb-true d 49 ones.1) (eqb-true f 54 six.1) read.1
fraction_shown (m ∷ n ∷ s ∷ d ∷ f ∷ g ∷ rest) v e = absurd cc

above_shown : (text : List ℕ) (v : ℕ) → shapes.above (miles text) ≡ Some v → InMiles ((80 ∷ text) ++ codes "SM") v
above_shown text v e =
    let read = found (miles text) (λ n. Some (n + 1)) v e in
    let is = miles_shown text read.0 read.1 in
    let same : is.0 * 1_609_344 + 1 ≡ v = let last = read.2 in let value = is.2 in let next : read.0 + 1 ≡ v = cc in omega arith in
    subst (λ mm. InMiles ((80 ∷ text) ++ codes "SM") mm) same (table.above_miles is.1)

below_shown : (text : List ℕ) (v : ℕ) → shapes.below (fraction text) ≡ Some v → InMiles ((77 ∷ text) ++ codes "SM") v
below_shown text v e =
    let read = found (fraction text) (λ n. Some (n - 1)) v e in
    let is = fraction_shown text read.0 read.1 in
    let same : is.0 * (16 / is.1) * 100_584 - 1 ≡ v = let last = read.2 in let next : read.0 - 1 ≡ v = cc in rw is.3 next in
    subst (λ mm. InMiles ((77 ∷ text) ++ codes "SM") mm) same (table.below_fraction is.2)

plain_miles_shown : (text : List ℕ) (v : ℕ) → miles text ≡ Some v → InMiles (text ++ codes "SM") v
plain_miles_shown text v e =
    let is = miles_shown text v e in
    let same : is.0 * 1_609_344 ≡ v = let value = is.2 in omega arith in
    subst (λ mm. InMiles (text ++ codes "SM") mm) same (table.miles is.1)

plain_fraction_shown : (text : List ℕ) (v : ℕ) → fraction text ≡ Some v → InMiles (text ++ codes "SM") v
plain_fraction_shown text v e =
    let is = fraction_shown text v e in
    subst (λ mm. InMiles (text ++ codes "SM") mm) is.3 (table.fraction is.2)

plain_shown : (text : List ℕ) (v : ℕ) → (miles text ≡ Some v) ⊎ (fraction text ≡ Some v) → InMiles (text ++ codes "SM") v
plain_shown text v (inl e) = plain_miles_shown text v e
plain_shown text v (inr e) = plain_fraction_shown text v e

distance_shown : (text : List ℕ) (v : ℕ) → distance text ≡ Some v → InMiles (text ++ codes "SM") v
distance_shown [] v e = absurd cc
distance_shown (c ∷ text) v e =
    elim (found_either (c == 80) (shapes.above (miles text)) (cond (c == 77) (shapes.below (fraction text)) (or_else (miles (c ∷ text)) (fraction (c ∷ text)))) v e) [
      | inl more ↦ subst (λ b. InMiles ((b ∷ text) ++ codes "SM") v) (sym (eqb-true c 80 more.0)) (above_shown text v more.1)
      | inr rest ↦ elim (found_either (c == 77) (shapes.below (fraction text)) (or_else (miles (c ∷ text)) (fraction (c ∷ text))) v rest.1) [
        | inl less ↦ subst (λ b. InMiles ((b ∷ text) ++ codes "SM") v) (sym (eqb-true c 77 less.0)) (below_shown text v less.1)
        | inr plain ↦ plain_shown (c ∷ text) v (found_first (miles (c ∷ text)) (fraction (c ∷ text)) v plain.1)
      ]
    ]

bad_unless : (front : List ℕ) (read : Option ℕ) → distance front ≡ read → ((mm : ℕ) → InMiles (front ++ codes "SM") mm → ⊥) → value_or_bad read ≡ Bad
bad_unless front None e none = refl
bad_unless front (Some mm) e none = absurd (none mm (distance_shown front mm e))

bad_is_named : (front : List ℕ) → slice_index (front ++ codes "SM") 0 ≢ 47 → ((mm : ℕ) → InMiles (front ++ codes "SM") mm → ⊥) → visibility (front ++ codes "SM") ≡ Bad
bad_is_named front unslashed none =
    visibility_of_front front (ne_eqb (slice_index (front ++ codes "SM") 0) 47 unslashed) ∙ bad_unless front (distance front) refl none

bad_group_is_named : (group front : List ℕ) → group ≡ front ++ codes "SM" → slice_index group 0 ≢ 47 → ((mm : ℕ) → InMiles group mm → ⊥) → visibility group ≡ Bad
bad_group_is_named group front e =
    subst (λ g. slice_index g 0 ≢ 47 → ((mm : ℕ) → InMiles g mm → ⊥) → visibility g ≡ Bad) (sym e) (bad_is_named front)

-- what ends in SM, and what doesn't

before_sm_shown : (group front : List ℕ) → before_sm group ≡ Some front → group ≡ front ++ codes "SM"
before_sm_shown group front e =
    let n = length group - 2 in
    let read = found_if (nat_le 2 (length group) && (slice_index group n == 83) && (slice_index group (n + 1) == 77)) (Some (take n group)) front e in
    let last = and_parts (nat_le 2 (length group) && (slice_index group n == 83)) (slice_index group (n + 1) == 77) read.0 in
    let long = and_parts (nat_le 2 (length group)) (slice_index group n == 83) last.0 in
    let some = leb-true 2 (length group) long.0 in
    let first : take n group ≡ front = let is = read.1 in cc in
    let one = drop-cons group n 0 (omega arith) in
    let two = drop-cons group (n + 1) 0 (omega arith) in
    let none : drop (suc (n + 1)) group ≡ [] = drop_all (suc (n + 1)) group (omega arith) in
    let next : suc n ≡ n + 1 = omega arith in
    let letters : drop n group ≡ 83 ∷ 77 ∷ [] =
    one ∙ ap (λ b. b ∷ drop (suc n) group) (eqb-true (slice_index group n) 83 long.1)
    ∙ ap (λ k. 83 ∷ drop k group) next ∙ ap (λ r. 83 ∷ r) (two ∙ ap (λ b. b ∷ drop (suc (n + 1)) group) (eqb-true (slice_index group (n + 1)) 77 last.1) ∙ ap (λ r. 77 ∷ r) none) in
    sym (take-append-drop n group) ∙ ap (λ f. f ++ drop n group) first ∙ ap (λ r. front ++ r) letters

nines : (a k : ℕ) → IsDigitOf a k → k ≡ 9 → a ≡ 57
nines a k is e = let shown = is.shown in omega arith

record Written (a b c d v : ℕ) : Type 0 where
  shows : ℕ
  digits : FourDigits (a ∷ b ∷ c ∷ d ∷ []) shows
  far : shows ≡ 9999 → a ∷ b ∷ c ∷ d ∷ [] ≡ codes "9999"
  value : cond (shows == 9999) 10_000_000 (shows * 1000) ≡ v

far_digits : (a b c d k l m n : ℕ) → IsDigitOf a k → IsDigitOf b l → IsDigitOf c m → IsDigitOf d n → 1000 * k + 100 * l + 10 * m + n ≡ 9999 → a ∷ b ∷ c ∷ d ∷ [] ≡ codes "9999"
far_digits a b c d k l m n first second third last e =
    let k_small = first.single in let l_small = second.single in let m_small = third.single in let n_small = last.single in
    let k_is : k ≡ 9 = omega arith in let l_is : l ≡ 9 = omega arith in let m_is : m ≡ 9 = omega arith in let n_is : n ≡ 9 = omega arith in
    rw (nines a k first k_is, nines b l second l_is, nines c m third m_is, nines d n last n_is) refl

metres_value : (m v : ℕ) → shapes.metres m ≡ v → cond (m == 9999) 10_000_000 (m * 1000) ≡ v
metres_value m v e = ap (λ n. cond (m == 9999) 10_000_000 n) (let turn : m * 1000 ≡ 1000 * m = omega arith in turn) ∙ e

written_by : (a b c d k l m n read v : ℕ) → IsDigitOf a k → IsDigitOf b l → IsDigitOf c m → IsDigitOf d n → read ≡ 1000 * k + 100 * l + 10 * m + n → shapes.metres read ≡ v → Written a b c d v
written_by a b c d k l m n read v first second third last same value = record {
  shows = 1000 * k + 100 * l + 10 * m + n;
  digits = four first second third last;
  far = far_digits a b c d k l m n first second third last;
  value = metres_value (1000 * k + 100 * l + 10 * m + n) v (rw same at value);
}

four_shown : (a b c d v : ℕ) → written_metres a b c d ≡ Some v → Written a b c d v
four_shown a b c d v e =
    let read = found (shapes.four_digits a b c d) (λ m. Some (shapes.metres m)) v e in
    let front = found (pair a b) (λ x. pair c d >>= λ y. Some (100 * x + y)) read.0 read.1 in
    let back = found (pair c d) (λ y. Some (100 * front.0 + y)) read.0 front.2 in
    let first = found (digit a) (λ x. digit b >>= λ y. Some (10 * x + y)) front.0 front.1 in
    let second = found (digit b) (λ y. Some (10 * first.0 + y)) front.0 first.2 in
    let third = found (digit c) (λ x. digit d >>= λ y. Some (10 * x + y)) back.0 back.1 in
    let last = found (digit d) (λ y. Some (10 * third.0 + y)) back.0 third.2 in
    let tens : 10 * first.0 + second.0 ≡ front.0 = let is = second.2 in cc in
    let ones : 10 * third.0 + last.0 ≡ back.0 = let is = last.2 in cc in
    let all : 100 * front.0 + back.0 ≡ read.0 = let is = back.2 in cc in
    let same : read.0 ≡ 1000 * first.0 + 100 * second.0 + 10 * third.0 + last.0 = omega arith in
    let value : shapes.metres read.0 ≡ v = let is = read.2 in cc in
    written_by a b c d first.0 second.0 third.0 last.0 read.0 v
    (digit_shown a first.0 first.1) (digit_shown b second.0 second.1) (digit_shown c third.0 third.1) (digit_shown d last.0 last.1) same value

plain_metres_shown : (a b c d v : ℕ) (far : Bool) (is : Written a b c d v) → (is.shows == 9999) ≡ far → cond far 10_000_000 (is.shows * 1000) ≡ v → InMetres (a ∷ b ∷ c ∷ d ∷ []) v
plain_metres_shown a b c d v true is e f =
    rw (is.far (eqb-true is.shows 9999 e)) (subst (λ mm. InMetres (codes "9999") mm) f table.ten_kilometres)
plain_metres_shown a b c d v false is e f = subst (λ mm. InMetres (a ∷ b ∷ c ∷ d ∷ []) mm) f (table.metres is.digits (eqb-false is.shows 9999 e))

undirected_shown : (a b c d v : ℕ) (far : Bool) (is : Written a b c d v) → (is.shows == 9999) ≡ far → cond far 10_000_000 (is.shows * 1000) ≡ v → InMetres ((a ∷ b ∷ c ∷ d ∷ []) ++ codes "NDV") v
undirected_shown a b c d v true is e f =
    subst (λ t. InMetres (t ++ codes "NDV") v) (sym (is.far (eqb-true is.shows 9999 e))) (subst (λ mm. InMetres (codes "9999NDV") mm) f table.undirected_ten_kilometres)
undirected_shown a b c d v false is e f = subst (λ mm. InMetres ((a ∷ b ∷ c ∷ d ∷ []) ++ codes "NDV") mm) f (table.undirected is.digits (eqb-false is.shows 9999 e))

metres_shown : (group : List ℕ) (v : ℕ) → distance_in_metres group ≡ Some v → InMetres group v
metres_shown [] v e = absurd cc
metres_shown (a ∷ []) v e = absurd cc
metres_shown (a ∷ b ∷ []) v e = absurd cc
metres_shown (a ∷ b ∷ c ∷ []) v e = absurd cc
metres_shown (a ∷ b ∷ c ∷ d ∷ []) v e = let is = four_shown a b c d v e in plain_metres_shown a b c d v (is.shows == 9999) is refl is.value
metres_shown (a ∷ b ∷ c ∷ d ∷ f ∷ []) v e = absurd cc
metres_shown (a ∷ b ∷ c ∷ d ∷ f ∷ g ∷ []) v e = absurd cc
metres_shown (a ∷ b ∷ c ∷ d ∷ f ∷ g ∷ h ∷ []) v e =
    let read = found_if ((f == 78) && (g == 68) && (h == 86)) (written_metres a b c d) v e in
    let last = and_parts ((f == 78) && (g == 68)) (h == 86) read.0 in
    let front = and_parts (f == 78) (g == 68) last.0 in
    let is = four_shown a b c d v read.1 in
    rw (eqb-true f 78 front.0, eqb-true g 68 front.1, eqb-true h 86 last.1) (undirected_shown a b c d v (is.shows == 9999) is refl is.value)
metres_shown (a ∷ b ∷ c ∷ d ∷ f ∷ g ∷ h ∷ i ∷ rest) v e = absurd cc

nothing_in_metres : (group : List ℕ) (read : Option ℕ) (is_word : Bool) → distance_in_metres group ≡ read → is_cavok group ≡ is_word
    → ((mm : ℕ) → InMetres group mm → ⊥) → group ≢ codes "CAVOK" → value_or_nothing (or_else read (cond is_word (Some 10_000_000) None)) ≡ Nothing
nothing_in_metres group (Some v) is_word e f none other = absurd (none v (metres_shown group v e))
nothing_in_metres group None true e f none other = absurd (other ((bytes_eq-Decides group (codes "CAVOK")).0 f))
nothing_in_metres group None false e f none other = refl

nothing_before : (group : List ℕ) (front : Option (List ℕ)) → before_sm group ≡ front → (slice_index group 0 == 47) ≡ false
    → ((front : List ℕ) → group ≡ front ++ codes "SM" → slice_index group 0 ≡ 47) → ((mm : ℕ) → InMetres group mm → ⊥) → group ≢ codes "CAVOK"
    → visibility_before front group ≡ Nothing
nothing_before group None e unslashed ends none other = nothing_in_metres group (distance_in_metres group) (is_cavok group) refl refl none other
nothing_before group (Some front) e unslashed ends none other = absurd (eqb-false (slice_index group 0) 47 unslashed (ends front (before_sm_shown group front e)))

nothing_if : (group : List ℕ) (slash : Bool) → (slice_index group 0 == 47) ≡ slash
    → ((front : List ℕ) → group ≡ front ++ codes "SM" → slice_index group 0 ≡ 47) → ((mm : ℕ) → InMetres group mm → ⊥) → group ≢ codes "CAVOK"
    → cond slash Nothing (visibility_before (before_sm group) group) ≡ Nothing
nothing_if group true e ends none other = refl
nothing_if group false e ends none other = nothing_before group (before_sm group) refl e ends none other

other_group_is_named : (group : List ℕ) → ((front : List ℕ) → group ≡ front ++ codes "SM" → slice_index group 0 ≡ 47) → ((mm : ℕ) → InMetres group mm → ⊥) → group ≢ codes "CAVOK" → visibility group ≡ Nothing
unfolding visibility
other_group_is_named group ends none other = nothing_if group (slice_index group 0 == 47) refl ends none other

tabled : (group : List ℕ) → IsTabledVisibility group (visibility group)
tabled group = record {
  in_miles = in_miles_is_named group;
  in_metres = in_metres_is_named group;
  cavok = cavok_is_named group;
  bad = bad_group_is_named group;
  other = other_group_is_named group;
}

pub visibility_is_tabled : (group : List ℕ) (named : Named) → named ≡ visibility group → IsTabledVisibility group named
visibility_is_tabled group named e = rw e (tabled group)

-- two groups

two_are_named : (before group : List ℕ) (mm : ℕ) → InTwoGroups before group mm → mixed before group ≡ Some mm
unfolding mixed
two_are_named _ _ _ (table.miles_and_fraction {before} {text} {m} {n} {d} digits is) =
    rw (number_of before m digits, before_sm_of text, fraction_is_read text n d is) (ap Some (omega arith))

two_in : (before group front : List ℕ) (m n d : ℕ) → OneOrTwoDigits before m → IsFractionOfMile front n d → group ≡ front ++ codes "SM"
    → InTwoGroups before group (m * 1_609_344 + n * (16 / d) * 100_584)
two_in before group front m n d whole part e = rw e (table.miles_and_fraction whole part)

two_shown : (before group : List ℕ) (v : ℕ) → mixed before group ≡ Some v → (mm : ℕ) × InTwoGroups before group mm
unfolding mixed
two_shown before group v e =
    let first = found (miles before) (λ m. fraction_of_mile group >>= λ f. Some (m + f)) v e in
    let second = found (fraction_of_mile group) (λ f. Some (first.0 + f)) v first.2 in
    let front = found (before_sm group) fraction second.0 second.1 in
    let whole = miles_shown before first.0 first.1 in
    let part = fraction_shown front.0 second.0 front.2 in
    (whole.0 * 1_609_344 + part.0 * (16 / part.1) * 100_584, two_in before group front.0 whole.0 part.0 part.1 whole.1 part.2 (before_sm_shown group front.0 front.1))

none_unless : (before group : List ℕ) (read : Option ℕ) → mixed before group ≡ read → ((mm : ℕ) → InTwoGroups before group mm → ⊥) → read ≡ None
none_unless before group None e none = refl
none_unless before group (Some v) e none = let shown = two_shown before group v e in absurd (none shown.0 shown.1)

sum_tabled : (before group : List ℕ) → IsTabledSum before group (mixed before group)
sum_tabled before group = record { in_two_groups = two_are_named before group; alone = none_unless before group (mixed before group) refl }

pub sum_is_tabled : (before group : List ℕ) (sum : Option ℕ) → sum ≡ mixed before group → IsTabledSum before group sum
sum_is_tabled before group sum e = rw e (sum_tabled before group)
