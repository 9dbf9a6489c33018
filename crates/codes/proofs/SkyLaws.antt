-- A group that is a row of the table of sky names what the row says.
use Rattle.std.proofs.Common.{◌≡◌, inl, inr, ℕ, ◌+◌, ◌*◌, ◌==◌, ◌&&◌, ◌||◌, Bool, true, false, cond, List, [], ◌∷◌, ◌++◌, length, Option, None, Some, codes, bytes_eq, refl, ap, sym, ◌∙◌, subst, arith}
use Rattle.std.proofs.lemmas.Bool.{eqb-true, and_parts, or_cases, cond-false, false_from_ne_true}
use Rattle.desk_time.specs.Digits.{digit, ◌>>=◌}
use Rattle.codes.specs.declared.shapes.Named.{Named}
use Rattle.codes.specs.declared.shapes.Named.TheVariants.{Value, Unmeasured, Nothing, Bad}
use Rattle.codes.specs.Digits.{three}
use Rattle.codes.specs.Shapes.{hundreds, is_cloud, layer_at, layer, vertical, no_ceiling, value_or_bad, sky_word, layer_after, sky}
use Rattle.codes.specs.SkyTable as table
use Rattle.codes.specs.SkyTable.{IsOpenLayer, few, scattered, IsCeiling, broken, overcast, ShowsHeight, measured, unmeasured, IsCloud, unnamed, cumulonimbus, towering, unknown, InSky, BeginsAsLayer, with_open_layer, with_ceiling, with_vertical, IsTabledSky}
use Rattle.codes.proofs.DigitLaws.{digit_of, digit_shown, found, no_digit_below}
use Rattle.desk_io.proofs.Bytes.{same_bytes}
use Rattle.std.proofs.lemmas.List.{nil_from_length}

-- the rows

is_cloud_of : (kind : List ℕ) → IsCloud kind → is_cloud kind ≡ true
is_cloud_of _ unnamed = refl
is_cloud_of _ cumulonimbus = refl
is_cloud_of _ towering = refl
is_cloud_of _ unknown = refl

layer_named : (text kind : List ℕ) (height : Named) → ShowsHeight text height → IsCloud kind → layer (text ++ kind) ≡ height
layer_named _ kind _ (measured (three a b c)) cloud =
    rw (is_cloud_of kind cloud, no_digit_below 47 (omega arith) a, digit_of a, digit_of b, digit_of c) (ap Value (omega arith))
layer_named _ kind _ unmeasured cloud = rw (is_cloud_of kind cloud) refl

vertical_named : (text : List ℕ) (height : Named) → ShowsHeight text height → vertical text ≡ height
vertical_named _ _ (measured (three a b c)) =
    rw (no_digit_below 47 (omega arith) a, digit_of a, digit_of b, digit_of c) (ap Value (omega arith))
vertical_named _ _ unmeasured = refl

open_named : (text : List ℕ) (height : Named) → ShowsHeight text height → no_ceiling height ≡ Value 100_000
open_named _ _ (measured digits) = refl
open_named _ _ unmeasured = refl

in_sky_is_named : (group : List ℕ) (value : Named) → InSky group value → sky group ≡ value
unfolding sky
in_sky_is_named _ _ (table.open_layer {text = text} {kind = kind} {height = height} few shows cloud) =
    ap no_ceiling (layer_named text kind height shows cloud) ∙ open_named text height shows
in_sky_is_named _ _ (table.open_layer {text = text} {kind = kind} {height = height} scattered shows cloud) =
    ap no_ceiling (layer_named text kind height shows cloud) ∙ open_named text height shows
in_sky_is_named _ _ (table.ceiling {text = text} {kind = kind} {height = height} broken shows cloud) = layer_named text kind height shows cloud
in_sky_is_named _ _ (table.ceiling {text = text} {kind = kind} {height = height} overcast shows cloud) = layer_named text kind height shows cloud
in_sky_is_named _ _ (table.vertical {text} {height} shows) = vertical_named text height shows
in_sky_is_named _ _ table.sky_clear = refl
in_sky_is_named _ _ table.clear_below_12_000 = refl
in_sky_is_named _ _ table.none_significant = refl
in_sky_is_named _ _ table.none_detected = refl
in_sky_is_named _ _ table.cavok = refl

-- a layer that misses its shape

cloud_shown : (kind : List ℕ) → is_cloud kind ≡ true → IsCloud kind
cloud_shown kind e =
    elim (or_cases ((length kind == 0) || bytes_eq kind (codes "CB") || bytes_eq kind (codes "TCU")) (bytes_eq kind (codes "///")) e) [
      | inl named ↦ elim (or_cases ((length kind == 0) || bytes_eq kind (codes "CB")) (bytes_eq kind (codes "TCU")) named) [
        | inl short ↦ elim (or_cases (length kind == 0) (bytes_eq kind (codes "CB")) short) [
          | inl none ↦ subst (λ k. IsCloud k) (sym (nil_from_length kind (eqb-true (length kind) 0 none))) unnamed
          | inr same ↦ subst (λ k. IsCloud k) (sym (same_bytes kind (codes "CB") same)) cumulonimbus
        ]
        | inr same ↦ subst (λ k. IsCloud k) (sym (same_bytes kind (codes "TCU") same)) towering
      ]
      | inr same ↦ subst (λ k. IsCloud k) (sym (same_bytes kind (codes "///") same)) unknown
    ]

hundreds_shown : (a b c v : ℕ) → hundreds a b c ≡ Some v → ShowsHeight (a ∷ b ∷ c ∷ []) (Value v)
hundreds_shown a b c v e =
    let first = found (digit a) (λ x. digit b >>= λ y. digit c >>= λ z. Some (10_000 * x + 1000 * y + 100 * z)) v e in
    let second = found (digit b) (λ y. digit c >>= λ z. Some (10_000 * first.0 + 1000 * y + 100 * z)) v first.2 in
    let third = found (digit c) (λ z. Some (10_000 * first.0 + 1000 * second.0 + 100 * z)) v second.2 in
    let same : (100 * first.0 + 10 * second.0 + third.0) * 100 ≡ v = let is : 10_000 * first.0 + 1000 * second.0 + 100 * third.0 ≡ v = let last = third.2 in cc in omega arith in
    subst (λ n. ShowsHeight (a ∷ b ∷ c ∷ []) (Value n)) same (measured (three (digit_shown a first.0 first.1) (digit_shown b second.0 second.1) (digit_shown c third.0 third.1)))

bad_digits : (a b c : ℕ) (read : Option ℕ) → hundreds a b c ≡ read → ((height : Named) → ShowsHeight (a ∷ b ∷ c ∷ []) height → ⊥) → value_or_bad read ≡ Bad
bad_digits a b c None e none = refl
bad_digits a b c (Some v) e none = absurd (none (Value v) (hundreds_shown a b c v e))

slashes_shown : (a b c : ℕ) → ((a == 47) && (b == 47) && (c == 47)) ≡ true → ShowsHeight (a ∷ b ∷ c ∷ []) Unmeasured
slashes_shown a b c e =
    let last = and_parts ((a == 47) && (b == 47)) (c == 47) e in
    let front = and_parts (a == 47) (b == 47) last.0 in
    rw (eqb-true a 47 front.0, eqb-true b 47 front.1, eqb-true c 47 last.1) unmeasured

bad_if_no_slashes : (a b c : ℕ) (slashes : Bool) → ((a == 47) && (b == 47) && (c == 47)) ≡ slashes → ((height : Named) → ShowsHeight (a ∷ b ∷ c ∷ []) height → ⊥) → cond slashes Unmeasured (value_or_bad (hundreds a b c)) ≡ Bad
bad_if_no_slashes a b c true e none = absurd (none Unmeasured (slashes_shown a b c e))
bad_if_no_slashes a b c false e none = bad_digits a b c (hundreds a b c) refl none

bad_height : (a b c : ℕ) → ((height : Named) → ShowsHeight (a ∷ b ∷ c ∷ []) height → ⊥) → layer_at a b c ≡ Bad
bad_height a b c none = bad_if_no_slashes a b c ((a == 47) && (b == 47) && (c == 47)) refl none

-- no height and kind stand after the word
abbrev NoLayer : List ℕ → Type 0
NoLayer rest = (text kind : List ℕ) (height : Named) → ShowsHeight text height → IsCloud kind → rest ≡ text ++ kind → ⊥

bad_if_cloud : (a b c : ℕ) (kind : List ℕ) (cloud : Bool) → is_cloud kind ≡ cloud → NoLayer (a ∷ b ∷ c ∷ kind) → cond cloud (layer_at a b c) Bad ≡ Bad
bad_if_cloud a b c kind true e none = bad_height a b c (λ height shows. none (a ∷ b ∷ c ∷ []) kind height shows (cloud_shown kind e) refl)
bad_if_cloud a b c kind false e none = refl

bad_layer : (rest : List ℕ) → NoLayer rest → layer rest ≡ Bad
bad_layer [] none = refl
bad_layer (a ∷ []) none = refl
bad_layer (a ∷ b ∷ []) none = refl
bad_layer (a ∷ b ∷ c ∷ kind) none = bad_if_cloud a b c kind (is_cloud kind) refl none

bad_vertical : (rest : List ℕ) → ((height : Named) → ShowsHeight rest height → ⊥) → vertical rest ≡ Bad
bad_vertical [] none = refl
bad_vertical (a ∷ []) none = refl
bad_vertical (a ∷ b ∷ []) none = refl
bad_vertical (a ∷ b ∷ c ∷ []) none = bad_height a b c none
bad_vertical (a ∷ b ∷ c ∷ d ∷ rest) none = refl

abbrev Missed : List ℕ → Type 0
Missed group = (value : Named) → InSky group value → ⊥

no_open_layer : (word rest : List ℕ) → IsOpenLayer word → Missed (word ++ rest) → NoLayer rest
no_open_layer word rest is missed text kind height shows cloud e =
    missed (Value 100_000) (subst (λ r. InSky (word ++ r) (Value 100_000)) (sym e) (table.open_layer is shows cloud))

no_ceiling_layer : (word rest : List ℕ) → IsCeiling word → Missed (word ++ rest) → NoLayer rest
no_ceiling_layer word rest is missed text kind height shows cloud e =
    missed height (subst (λ r. InSky (word ++ r) height) (sym e) (table.ceiling is shows cloud))

bad_is_named : (group : List ℕ) → BeginsAsLayer group → Missed group → sky group ≡ Bad
unfolding sky
bad_is_named _ (with_open_layer few rest) missed = ap no_ceiling (bad_layer rest (no_open_layer (codes "FEW") rest few missed))
bad_is_named _ (with_open_layer scattered rest) missed = ap no_ceiling (bad_layer rest (no_open_layer (codes "SCT") rest scattered missed))
bad_is_named _ (with_ceiling broken rest) missed = bad_layer rest (no_ceiling_layer (codes "BKN") rest broken missed)
bad_is_named _ (with_ceiling overcast rest) missed = bad_layer rest (no_ceiling_layer (codes "OVC") rest overcast missed)
bad_is_named _ (with_vertical rest) missed = bad_vertical rest (λ height shows. missed height (table.vertical shows))

-- a group that is neither

otherwise : (test : Bool) (first others : Named) → (test ≡ true → ⊥) → cond test first others ≡ others
otherwise test first others untrue = cond-false test first others (false_from_ne_true test untrue)

abbrev Unbegun : List ℕ → Type 0
Unbegun group = BeginsAsLayer group → ⊥

not_open : (a b c : ℕ) (rest word : List ℕ) → IsOpenLayer word → Unbegun (a ∷ b ∷ c ∷ rest) → bytes_eq (a ∷ b ∷ c ∷ []) word ≡ true → ⊥
not_open a b c rest word is unbegun e =
    unbegun (subst (λ w. BeginsAsLayer (w ++ rest)) (sym (same_bytes (a ∷ b ∷ c ∷ []) word e)) (with_open_layer is rest))

not_ceiling : (a b c : ℕ) (rest word : List ℕ) → IsCeiling word → Unbegun (a ∷ b ∷ c ∷ rest) → bytes_eq (a ∷ b ∷ c ∷ []) word ≡ true → ⊥
not_ceiling a b c rest word is unbegun e =
    unbegun (subst (λ w. BeginsAsLayer (w ++ rest)) (sym (same_bytes (a ∷ b ∷ c ∷ []) word e)) (with_ceiling is rest))

not_vertical : (a b : ℕ) (rest : List ℕ) → Unbegun (a ∷ b ∷ rest) → ((a == 86) && (b == 86)) ≡ true → ⊥
not_vertical a b rest unbegun e =
    let both = and_parts (a == 86) (b == 86) e in
    unbegun (rw (eqb-true a 86 both.0, eqb-true b 86 both.1) (with_vertical rest))

neither : (x y : Bool) → (x ≡ true → ⊥) → (y ≡ true → ⊥) → (x || y) ≡ true → ⊥
neither x y not_first not_second e = elim (or_cases x y e) [ inl is ↦ not_first is | inr is ↦ not_second is ]

not_word : (group word : List ℕ) (value : Named) → InSky word value → Missed group → bytes_eq group word ≡ true → ⊥
not_word group word value is missed e = missed value (subst (λ g. InSky g value) (sym (same_bytes group word e)) is)

no_sky_word : (group : List ℕ) → Missed group → sky_word group ≡ Nothing
no_sky_word group missed =
    otherwise (bytes_eq group (codes "SKC")) _ _ (not_word group (codes "SKC") _ table.sky_clear missed)
    ∙ otherwise (bytes_eq group (codes "CLR")) _ _ (not_word group (codes "CLR") _ table.clear_below_12_000 missed)
    ∙ otherwise (bytes_eq group (codes "NSC") || bytes_eq group (codes "NCD") || bytes_eq group (codes "CAVOK")) _ _
    (neither (bytes_eq group (codes "NSC") || bytes_eq group (codes "NCD")) (bytes_eq group (codes "CAVOK"))
    (neither (bytes_eq group (codes "NSC")) (bytes_eq group (codes "NCD")) (not_word group (codes "NSC") _ table.none_significant missed) (not_word group (codes "NCD") _ table.none_detected missed))
    (not_word group (codes "CAVOK") _ table.cavok missed))

no_layer_after : (a b c : ℕ) (rest : List ℕ) → Unbegun (a ∷ b ∷ c ∷ rest) → Missed (a ∷ b ∷ c ∷ rest) → layer_after (a ∷ b ∷ c ∷ []) rest (a ∷ b ∷ c ∷ rest) ≡ Nothing
no_layer_after a b c rest unbegun missed =
    otherwise (bytes_eq (a ∷ b ∷ c ∷ []) (codes "FEW") || bytes_eq (a ∷ b ∷ c ∷ []) (codes "SCT")) _ _
    (neither (bytes_eq (a ∷ b ∷ c ∷ []) (codes "FEW")) (bytes_eq (a ∷ b ∷ c ∷ []) (codes "SCT")) (not_open a b c rest (codes "FEW") few unbegun) (not_open a b c rest (codes "SCT") scattered unbegun))
    ∙ otherwise (bytes_eq (a ∷ b ∷ c ∷ []) (codes "BKN") || bytes_eq (a ∷ b ∷ c ∷ []) (codes "OVC")) _ _
    (neither (bytes_eq (a ∷ b ∷ c ∷ []) (codes "BKN")) (bytes_eq (a ∷ b ∷ c ∷ []) (codes "OVC")) (not_ceiling a b c rest (codes "BKN") broken unbegun) (not_ceiling a b c rest (codes "OVC") overcast unbegun))
    ∙ no_sky_word (a ∷ b ∷ c ∷ rest) missed

other_is_named : (group : List ℕ) → Unbegun group → Missed group → sky group ≡ Nothing
unfolding sky
other_is_named [] unbegun missed = refl
other_is_named (a ∷ []) unbegun missed = refl
other_is_named (a ∷ b ∷ []) unbegun missed = otherwise ((a == 86) && (b == 86)) _ _ (not_vertical a b [] unbegun)
other_is_named (a ∷ b ∷ c ∷ rest) unbegun missed =
    otherwise ((a == 86) && (b == 86)) _ _ (not_vertical a b (c ∷ rest) unbegun) ∙ no_layer_after a b c rest unbegun missed

tabled : (group : List ℕ) → IsTabledSky group (sky group)
tabled group = record {
  in_sky = in_sky_is_named group;
  bad = bad_is_named group;
  other = other_is_named group;
}

pub sky_is_tabled : (group : List ℕ) (named : Named) → named ≡ sky group → IsTabledSky group named
sky_is_tabled group named e = rw e (tabled group)
