-- Ids that rise, each once, name exactly the releases that pass a test.
use Rattle.std.proofs.Common.{◌≡◌, ℕ, ◌+◌, ◌<◌, ◌≤◌, zero, suc, get_or, Bool, true, false, cond, eqb, nat_lt, ◌||◌, List, [], ◌∷◌, length, filter, None, Some, refl, ap, sym, ◌∙◌, arith, eq-eqb}
use Rattle.std.proofs.lemmas.Bool.{ne_eqb, ltb-true, ltb-false}
use Rattle.std.specs.List.{AllByRecursion, AllPairs, filter_map, cons_option}
use Rattle.std.specs.List.Sorted.{IsStrictlyIncreasing}
use Rattle.std.proofs.lemmas.List.Kept.{AllPairs-from_increasing}
use Rattle.plan.specs.declared.release.Release.{Release}
use Rattle.release_index.specs.Touched.{is_among}
use Rattle.desk_state.specs.State.{release_at}
use Rattle.desk_state.specs.Sound.{Rise}

-- ids that rise from one number on
Climbs : ℕ → List ℕ → Type 0
Climbs low [] = Unit {0}
Climbs low (i ∷ ids) = (low ≤ i) × Climbs (i + 1) ids

climbs_from : (low : ℕ) (ids : List ℕ) → AllPairs (λ a b. a < b) ids → ((k : ℕ) (d : ℕ) → k < length ids → low ≤ get_or ids k d) → Climbs low ids
unfolding Climbs
climbs_from low [] pairs above = tt
climbs_from low (i ∷ ids) pairs above = (
  above zero i (omega arith),
  climbs_from (i + 1) ids (λ a b d before within. pairs (suc a) (suc b) d (omega (arith, before)) (omega (arith, within)))
      (λ k d within. let less = pairs zero (suc k) d (omega arith) (omega (arith, within)) in omega (arith, less)),
)

climbs : (ids : List ℕ) → IsStrictlyIncreasing ids → Climbs 0 ids
climbs ids up = climbs_from 0 ids (AllPairs-from_increasing ids up) (λ k d within. omega arith)

-- none stands below the first
pub above_none : (id low : ℕ) (rs : List Release) (next : ℕ) → id < low → Rise low rs next → release_at id rs ≡ None
above_none id low [] next less rise = refl
above_none id low (r ∷ rs) next less rise =
    let first = rise.0 in
    rw (ne_eqb r.id id (λ e. absurd (omega (arith, less, first, e)))) (above_none id (r.id + 1) rs next (omega (arith, less, first)) rise.1)

-- the releases of some ids
abbrev pub named : List Release → List ℕ → List Release
named rs ids = filter_map (λ id. release_at id rs) ids

none_named : (ids : List ℕ) → named [] ids ≡ []
none_named [] = refl
none_named (i ∷ ids) = none_named ids

-- a release below all ids is named by none
past_first : (r : Release) (rs : List Release) (low : ℕ) (ids : List ℕ) → r.id < low → Climbs low ids → named (r ∷ rs) ids ≡ named rs ids
unfolding Climbs
past_first r rs low [] less up = refl
past_first r rs low (i ∷ ids) less up =
    let first = up.0 in
    rw (ne_eqb r.id i (λ e. absurd (omega (arith, less, first, e)))) (ap (λ more. cons_option (release_at i rs) more) (past_first r rs (i + 1) ids (omega (arith, less, first)) up.1))

not_among : (ids : List ℕ) (low id : ℕ) → id < low → Climbs low ids → is_among ids id ≡ false
unfolding Climbs
not_among [] low id less up = refl
not_among (i ∷ ids) low id less up =
    let first = up.0 in
    rw (ne_eqb i id (λ e. absurd (omega (arith, less, first, e)))) (not_among ids (i + 1) id (omega (arith, less, first)) up.1)

module _ (p : Release → Bool) where
  -- the ids name a release exactly where it passes the test
  abbrev pub Fits : List ℕ → Release → Type 0
  Fits ids r = is_among ids r.id ≡ p r

  -- an id below all releases names none of them
  fits_past : (i : ℕ) (ids : List ℕ) (low : ℕ) (rs : List Release) (next : ℕ) → i < low → Rise low rs next → AllByRecursion (Fits (i ∷ ids)) rs → AllByRecursion (Fits ids) rs
  fits_past i ids low [] next less rise fits = tt
  fits_past i ids low (r ∷ rs) next less rise fits =
      let first = rise.0 in
      let other : eqb i r.id ≡ false = ne_eqb i r.id (λ e. absurd (omega (arith, less, first, e))) in
      (sym (ap (λ b. b || is_among ids r.id) other) ∙ fits.0, fits_past i ids (r.id + 1) rs next (omega (arith, less, first)) rise.1 fits.1)

  none_pass : (rs : List Release) → AllByRecursion (Fits []) rs → [] ≡ filter p rs
  none_pass [] fits = refl
  none_pass (r ∷ rs) fits = rw (sym fits.0) (none_pass rs fits.1)

  go : (k : ℕ) (ids : List ℕ) (low : ℕ) (rs : List Release) (from next : ℕ) → length ids + length rs ≤ k → Climbs low ids → Rise from rs next → AllByRecursion (Fits ids) rs
      → named rs ids ≡ filter p rs
  unfolding Climbs
  go k [] low rs from next few up rise fits = none_pass rs fits
  go k (i ∷ ids) low [] from next few up rise fits = none_named (i ∷ ids)
  go zero (i ∷ ids) low (r ∷ rs) from next few up rise fits = absurd (omega (arith, few))
  go (suc k) (i ∷ ids) low (r ∷ rs) from next few up rise fits =
      elim (nat_lt i r.id) as (λ b. nat_lt i r.id ≡ b → named (r ∷ rs) (i ∷ ids) ≡ filter p (r ∷ rs)) [
        | true ↦ λ t. let less = ltb-true i r.id t in
            let rises : Rise r.id (r ∷ rs) next = (omega arith, rise.1) in
            ap (λ o. cons_option o (named (r ∷ rs) ids)) (above_none i r.id (r ∷ rs) next less rises)
            ∙ go k ids (i + 1) (r ∷ rs) r.id next (omega (arith, few)) up.1 rises (fits_past i ids r.id (r ∷ rs) next less rises fits)
        | false ↦ λ t. elim (nat_lt r.id i) as (λ b. nat_lt r.id i ≡ b → named (r ∷ rs) (i ∷ ids) ≡ filter p (r ∷ rs)) [
          | true ↦ λ u. let less = ltb-true r.id i u in
              let climbs_on : Climbs i (i ∷ ids) = (omega arith, up.1) in
              let fails : p r ≡ false = sym fits.0 ∙ not_among (i ∷ ids) i r.id less climbs_on in
              past_first r rs i (i ∷ ids) less climbs_on
              ∙ go k (i ∷ ids) i rs (r.id + 1) next (omega (arith, few)) climbs_on rise.1 fits.1
              ∙ sym (ap (λ b. cond b (r ∷ filter p rs) (filter p rs)) fails)
          | false ↦ λ u. let above = ltb-false i r.id t in let below = ltb-false r.id i u in
              let same : i ≡ r.id = omega (arith, above, below) in
              let passes : p r ≡ true = sym fits.0 ∙ ap (λ b. b || is_among ids r.id) (eq-eqb i r.id same) in
              ap (λ b. cons_option (cond b (Some r) (release_at i rs)) (named (r ∷ rs) ids)) (eq-eqb r.id i (sym same))
              ∙ ap (λ more. r ∷ more) (past_first r rs (i + 1) ids (omega (arith, same)) up.1
              ∙ go k ids (i + 1) rs (r.id + 1) next (omega (arith, few)) up.1 rise.1 (fits_past i ids (r.id + 1) rs next (omega (arith, same)) rise.1 fits.1))
              ∙ sym (ap (λ b. cond b (r ∷ filter p rs) (filter p rs)) passes)
        ] refl
      ] refl

  -- Ids that rise and that name a release exactly where it passes a test give those that pass.
  pub named_pass : (ids : List ℕ) (rs : List Release) (next : ℕ) → IsStrictlyIncreasing ids → Rise 0 rs next → AllByRecursion (Fits ids) rs → named rs ids ≡ filter p rs
  named_pass ids rs next up rise fits = go (length ids + length rs) ids 0 rs 0 next (omega arith) (climbs ids up) rise fits
