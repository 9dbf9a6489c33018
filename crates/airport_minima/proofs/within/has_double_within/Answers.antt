use Rattle.std.proofs.Common.{◌≡◌, ◌∙◌, ◌+◌, sym, subst, Bool, true, Option, Some, List, ◌∷◌, drop, filter, Bor}
use Rattle.std.specs.Option.{option_copied}
use Rattle.ops_tables.specs.declared.rows.Approach.{Approach}
use Rattle.airport_minima.specs.Minima.{is_usable, doubles}
use Rattle.airport_minima.specs.Within.{has_within}
use Rattle.airport_minima.proofs.DoubleWithin.{left_after, passed, missed, begun, same}
use Rattle.airport_minima.proofs.within.has_double_within.Goals as goal
use Rattle.airport_minima.proofs.within.has_double_within.Goals.{then-is_usable+then-is_single_within+in-None, then-is_usable+then-is_single_within+in-Some+else-are_apart, else-is_usable, else-is_usable-via-then-is_usable+else-is_single_within, else-is_usable-via-else-is_usable}

pub loop-place-preserved : goal.loop-place-preserved
loop-place-preserved c =
    let bounds = c.args.bounds in
    let addend = c.args.addend in
    let flown : Approach → Bool = λ a. is_usable c.args.kind.now c.args.lost.now a in
    let all : List Approach = c.args.approaches.now in
    let x = c.row-approach.result.now in
    let rest = drop (c.loop-place.place + 1) all in
    let found = has_within bounds (doubles addend (filter flown all)) in
    let at = λ (f : Option (Bor Approach)) (xs : List Approach). left_after bounds addend (option_copied f) (filter flown xs) ≡ found in
    let old = c.loop-place.first in
    let now = c.if-is_usable.first in
    let before : at old (x ∷ rest) = subst (at old) c.row-approach.ensures c.loop-place.invariant in
    elim c.if-is_usable.branch [
      | then-is_usable+then-is_single_within+in-None w ↦
          let flies : flown x ≡ true = sym c.is_usable.ensures ∙ w.if-is_usable.true in
          let first : left_after bounds addend (Some x) (filter flown rest) ≡ found =
          sym (begun bounds addend flown x rest flies (sym w.is_single_within.ensures ∙ w.if-is_single_within.true)) ∙ subst (λ f. at f (x ∷ rest)) w.in-None.is before in
          subst (λ f. at f rest) (sym w.first-is) first
      | then-is_usable+then-is_single_within+in-Some+else-are_apart w ↦
          let flies : flown x ≡ true = sym c.is_usable.ensures ∙ w.if-is_usable.true in
          let one = w.in-Some.one in
          let on : at (Some one) rest = sym (same bounds addend flown one.now x rest flies (sym w.are_apart.ensures ∙ w.if-are_apart.false)) ∙ subst (λ f. at f (x ∷ rest)) w.in-Some.is before in
          subst (λ f. at f rest) (sym (w.first-is ∙ w.in-Some.is)) on
      | else-is_usable w ↦ elim w.else-is_usable.branch [
        | else-is_usable-via-then-is_usable+else-is_single_within v ↦
            let flies : flown x ≡ true = sym c.is_usable.ensures ∙ v.if-is_usable.true in
            let on : at old rest = sym (missed bounds addend flown (option_copied old) x rest flies (sym v.is_single_within.ensures ∙ v.if-is_single_within.false)) ∙ before in
            subst (λ f. at f rest) (sym w.first-is) on
        | else-is_usable-via-else-is_usable v ↦
            let on : at old rest = sym (passed bounds addend flown (option_copied old) x rest (sym c.is_usable.ensures ∙ v.if-is_usable.false)) ∙ before in
            subst (λ f. at f rest) (sym w.first-is) on
      ]
    ]
