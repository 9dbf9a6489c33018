use Rattle.std.proofs.Common.{◌≡◌, ◌∙◌, ◌≤◌, ◌<◌, sym, ap, refl, ℕ, List, [], ◌∷◌, length, get_or, Some, true, arith}
use Rattle.ops_tables.specs.Forms.{are_names}
use Rattle.table_files.specs.Records.{approach_row, approach_terms}
use Rattle.table_files.proofs.records.approach_row.Goals as goal

-- seven fields
seven : (fields : List (List ℕ)) (a b c d e f g : List ℕ) → 7 ≤ length fields → length fields < 8
    → a ≡ get_or fields 0 a → b ≡ get_or fields 1 b → c ≡ get_or fields 2 c → d ≡ get_or fields 3 d → e ≡ get_or fields 4 e → f ≡ get_or fields 5 f → g ≡ get_or fields 6 g
    → fields ≡ a ∷ b ∷ c ∷ d ∷ e ∷ f ∷ g ∷ []
seven [] a b c d e f g least below pa pb pc pd pe pf pg = absurd (omega (arith, least))
seven (x0 ∷ []) a b c d e f g least below pa pb pc pd pe pf pg = absurd (omega (arith, least))
seven (x0 ∷ x1 ∷ []) a b c d e f g least below pa pb pc pd pe pf pg = absurd (omega (arith, least))
seven (x0 ∷ x1 ∷ x2 ∷ []) a b c d e f g least below pa pb pc pd pe pf pg = absurd (omega (arith, least))
seven (x0 ∷ x1 ∷ x2 ∷ x3 ∷ []) a b c d e f g least below pa pb pc pd pe pf pg = absurd (omega (arith, least))
seven (x0 ∷ x1 ∷ x2 ∷ x3 ∷ x4 ∷ []) a b c d e f g least below pa pb pc pd pe pf pg = absurd (omega (arith, least))
seven (x0 ∷ x1 ∷ x2 ∷ x3 ∷ x4 ∷ x5 ∷ []) a b c d e f g least below pa pb pc pd pe pf pg = absurd (omega (arith, least))
seven (x0 ∷ x1 ∷ x2 ∷ x3 ∷ x4 ∷ x5 ∷ x6 ∷ []) a b c d e f g least below pa pb pc pd pe pf pg = cc
seven (x0 ∷ x1 ∷ x2 ∷ x3 ∷ x4 ∷ x5 ∷ x6 ∷ x7 ∷ more) a b c d e f g least below pa pb pc pd pe pf pg = absurd (omega (arith, below))

pub returns-clause-value : goal.returns-clause-value
returns-clause-value c =
    let a : List ℕ = c.station-item.result in
    let b : List ℕ = c.name-item.result in
    let r : List ℕ = c.runway-item.result in
    let d : List ℕ = c.capability-item.result in
    let e : List ℕ = c.height-item.result in
    let f : List ℕ = c.ceiling-item.result in
    let g : List ℕ = c.vis16-item.result in
    let all = seven c.args.fields.now a b r d e f g c.in-len7.len_at_least c.in-len7.len_below c.station-item.is c.name-item.is c.runway-item.is c.capability-item.is c.height-item.is c.ceiling-item.is c.vis16-item.is in
    let h : are_names b r d ≡ true = sym c.are_names.ensures.value ∙ c.if-not-are_names.false in
    let t : approach_terms a e f g ≡ Some c.in_ok-terms.terms = sym c.approach_terms.ensures.value ∙ c.in_ok-terms.was in
    ap Some c.named_approach.ensures ∙ sym (ap approach_row all ∙ rw (h, t) refl)
