-- The lines of a rule on a leg hold exactly if no finding names the rule for the leg.
use Rattle.std.proofs.Common.{◌≡◌, ℕ, zero, suc, ◌<◌, Bool, true, false, not, cond, List, [], ◌∷◌, length, get_or, refl, ap, sym, ◌∙◌, arith}
use Rattle.std.specs.Prelude.{map, filter}
use Rattle.std.specs.List.{AllByRecursion}
use Rattle.std.proofs.lemmas.List.Elements.{Contains-append_right}
use Rattle.plan.specs.declared.findings.Finding.{Finding}
use Rattle.plan.specs.declared.findings.Rule.{Rule}
use Rattle.plan.specs.declared.flights.Plan.{Plan}
use Rattle.plan.specs.declared.release.Phase.{Phase}
use Rattle.rules.specs.Grounds.{Grounds}
use Rattle.rules.specs.Judgement.{finding}
use Rattle.rules.specs.Regulation.{FollowRegulation, IsSilent}
use Rattle.sheet.specs.declared.lines.Line.{Line}
use Rattle.sheet.specs.Applies.{HoldsOn, HoldByRegulation}
use Rattle.sheet.specs.Lines.{holds, fails, key, failing}

module _ (rule : Rule) (n : ℕ) where
  abbrev IsOther : Finding → Type 0
  IsOther f = f.rule ≡ rule → f.leg ≡ n → ⊥

  abbrev Holds : Line → Type 0
  Holds l = l.rule ≡ rule → l.leg ≡ n → holds l ≡ true

  fails_by : (b : Bool) (l : Line) (ls : List Line) → holds l ≡ b → Holds l → AllByRecursion IsOther (map key ls) → AllByRecursion IsOther (map key (cond (not b) (l ∷ ls) ls))
  fails_by true l ls is each others = others
  fails_by false l ls is each others = (λ same leg. absurd (let h : false ≡ true = sym is ∙ each same leg in cc), others)

  others : (ls : List Line) → HoldsOn ls rule n → AllByRecursion IsOther (failing ls)
  others [] all = tt
  others (l ∷ ls) all = fails_by (holds l) l (filter fails ls) refl all.0 (others ls all.1)

  other_at : (fs : List Finding) (f : Finding) (k : ℕ) → AllByRecursion IsOther fs → k < length fs → get_or fs k f ≡ f → IsOther f
  other_at [] f k all within is = absurd (omega (arith, within))
  other_at (g ∷ fs) f zero all within is = λ same leg. all.0 (ap (λ (h : Finding). h.rule) is ∙ same) (ap (λ (h : Finding). h.leg) is ∙ leg)
  other_at (g ∷ fs) f (suc k) all within is = other_at fs f k all.1 (omega (arith, within)) is

  silent : (ls : List Line) → HoldsOn ls rule n → IsSilent (failing ls) rule n
  silent ls all place there = other_at (failing ls) (finding rule n place) there.0 (others ls all) there.1 there.2 refl refl

  key_is : (l : Line) → l.rule ≡ rule → l.leg ≡ n → key l ≡ finding rule n l.place
  key_is l same leg = ap (λ r. finding r l.leg l.place) same ∙ ap (λ k. finding rule k l.place) leg

  holds_by : (b : Bool) (l : Line) (ls : List Line) → IsSilent (map key (cond (not b) (l ∷ ls) ls)) rule n → l.rule ≡ rule → l.leg ≡ n → b ≡ true
  holds_by true l ls quiet same leg = refl
  holds_by false l ls quiet same leg = absurd (quiet l.place (0, omega arith, key_is l same leg))

  quiet_by : (b : Bool) (l : Line) (ls : List Line) → IsSilent (map key (cond (not b) (l ∷ ls) ls)) rule n → IsSilent (map key ls) rule n
  quiet_by true l ls quiet = quiet
  quiet_by false l ls quiet = λ place there. quiet place (Contains-append_right (key l ∷ []) (map key ls) (finding rule n place) there)

  hold : (ls : List Line) → IsSilent (failing ls) rule n → HoldsOn ls rule n
  hold [] quiet = tt
  hold (l ∷ ls) quiet = (holds_by (holds l) l (filter fails ls) quiet, hold ls (quiet_by (holds l) l (filter fails ls) quiet))

pub hold_by_regulation : (plan : Plan) (phase : Phase) (g : Grounds) (lines : List Line) → FollowRegulation plan phase g (failing lines) → HoldByRegulation plan phase g lines
hold_by_regulation plan phase g lines follow = record {
  lines_hold = λ rule n. (silent rule n lines, hold rule n lines);
  sections = follow;
}
