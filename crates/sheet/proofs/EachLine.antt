-- What holds of each line of a sheet, by the lists of which it is made.
use Rattle.std.proofs.Common.{◌≡◌, ℕ, zero, suc, ◌+◌, Bool, true, false, List, [], ◌∷◌, map, Option, None, Some, refl, subst, eq-eqb, arith}
use Rattle.std.specs.Prelude.{IfSome}
use Rattle.std.specs.List.{AllByRecursion, filter_map, cons_option, slice_get}
use Rattle.std.proofs.lemmas.Bool.{ne_eqb}
use Rattle.desk_io.proofs.Each.{each_append}
use Rattle.plan.specs.declared.findings.Rule.{Rule}
use Rattle.plan.specs.declared.flights.Alternate.{Alternate}
use Rattle.plan.specs.declared.flights.Leg.{Leg}
use Rattle.plan.specs.declared.flights.TakeoffAlternate.{TakeoffAlternate}
use Rattle.rules.specs.Judgement.{leg_numbered}
use Rattle.sheet.specs.declared.lines.Line.{Line}
use Rattle.sheet.specs.Lines.{line_if, numbered}
use Rattle.sheet.specs.Needs.{of_only}
use Rattle.sheet.specs.Sheet.{lines_from, lines_by}
use Rattle.sheet.specs.Weather.{of_takeoff}

-- the leg at a place has the number after it
numbered_is : (start : ℕ) (legs : List Leg) (k : ℕ) (leg : Leg) → slice_get legs k ≡ Some leg → leg_numbered (start + k) start legs ≡ Some leg
numbered_is start [] k leg is = absurd (cc)
numbered_is start (x ∷ legs) zero leg is = let same : start + 0 ≡ start = omega arith in rw (eq-eqb (start + 0) start same) is
numbered_is start (x ∷ legs) (suc k) leg is =
    let differ : start + suc k ≡ start → ⊥ = λ e. absurd (omega (arith, e)) in
    let same : (start + 1) + k ≡ start + suc k = omega arith in
    rw (ne_eqb (start + suc k) start differ) (subst (λ m. leg_numbered m (start + 1) legs ≡ Some leg) same (numbered_is (start + 1) legs k leg is))

module _ (Of : Line → Type 0) where
  abbrev pub Each : List Line → Type 0
  Each lines = AllByRecursion Of lines

  pub in_map : {A : Type 0} (P : A → Type 0) (at : A → Line) → ((a : A) → P a → Of (at a)) → (xs : List A) → AllByRecursion P xs → Each (map at xs)
  in_map P at each [] all = tt
  in_map P at each (a ∷ xs) all = (each a all.0, in_map P at each xs all.1)

  in_option : (o : Option Line) (rest : List Line) → IfSome o Of → Each rest → Each (cons_option o rest)
  in_option None rest one all = all
  in_option (Some l) rest one all = (one, all)

  pub in_filter_map : {A : Type 0} (P : A → Type 0) (at : A → Option Line) → ((a : A) → P a → IfSome (at a) Of) → (xs : List A) → AllByRecursion P xs → Each (filter_map at xs)
  in_filter_map P at each [] all = tt
  in_filter_map P at each (a ∷ xs) all = in_option (at a) (filter_map at xs) (each a all.0) (in_filter_map P at each xs all.1)

  pub in_numbered : {A : Type 0} (at : ℕ → A → Line) (i : ℕ) (xs : List A) → ((k : ℕ) (a : A) → slice_get xs k ≡ Some a → Of (at (i + k) a)) → Each (numbered at i xs)
  in_numbered at i [] each = tt
  in_numbered at i (a ∷ xs) each =
      let here : i + 0 ≡ i = omega arith in (
        subst (λ j. Of (at j a)) here (each 0 a refl),
        in_numbered at (i + 1) xs (λ k b is. let later : i + suc k ≡ (i + 1) + k = omega arith in subst (λ j. Of (at j b)) later (each (suc k) b is)),
      )

  pub in_one : (b : Bool) (l : Line) → (b ≡ true → Of l) → Each (line_if b l)
  in_one true l is = (is refl, tt)
  in_one false l is = tt

  pub in_takeoff : (at : TakeoffAlternate → Line) (needed : Bool) (listed : Option TakeoffAlternate) → ((it : TakeoffAlternate) → needed ≡ true → listed ≡ Some it → Of (at it)) → Each (of_takeoff at needed listed)
  in_takeoff at false listed each = tt
  in_takeoff at true None each = tt
  in_takeoff at true (Some it) each = (each it refl refl, tt)

  pub in_only : (at : Alternate → Line) (applies : Bool) (listed : List Alternate) → ((it : Alternate) → applies ≡ true → listed ≡ it ∷ [] → Of (at it)) → Each (of_only at applies listed)
  in_only at false listed each = tt
  in_only at true [] each = tt
  in_only at true (it ∷ []) each = (each it refl refl, tt)
  in_only at true (it ∷ other ∷ rest) each = tt

  -- the legs of a plan, and its rules
  module _ (lines : Rule → ℕ → Leg → List Line) (all : List Leg) (each : (rule : Rule) (n : ℕ) (leg : Leg) → leg_numbered n 1 all ≡ Some leg → Each (lines rule n leg)) where
    in_legs : (rule : Rule) (n : ℕ) (legs : List Leg) → ((k : ℕ) (leg : Leg) → slice_get legs k ≡ Some leg → leg_numbered (n + k) 1 all ≡ Some leg) → Each (lines_from lines rule n legs)
    in_legs rule n [] stand = tt
    in_legs rule n (leg ∷ legs) stand =
        let here : n + 0 ≡ n = omega arith in
        each_append Of (lines rule n leg) (lines_from lines rule (n + 1) legs)
        (each rule n leg (subst (λ m. leg_numbered m 1 all ≡ Some leg) here (stand 0 leg refl)))
        (in_legs rule (n + 1) legs (λ k other found. let later : n + suc k ≡ (n + 1) + k = omega arith in subst (λ m. leg_numbered m 1 all ≡ Some other) later (stand (suc k) other found)))

    pub in_rules : (rules : List Rule) → Each (lines_by lines rules all)
    in_rules [] = tt
    in_rules (rule ∷ rules) =
        each_append Of (lines_from lines rule 1 all) (lines_by lines rules all)
        (in_legs rule 1 all (λ k leg found. numbered_is 1 all k leg found)) (in_rules rules)
