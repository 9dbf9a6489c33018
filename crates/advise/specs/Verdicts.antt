-- What the rules find on the leg with some alternates.
use Rattle.std.specs.Prelude.{ℕ, ◌==◌, nat_le, Bool, true, false, not, ◌&&◌, List}
use Rattle.std.specs.List.{list_any}
use Rattle.plan.specs.declared.findings.Finding.{Finding}
use Rattle.plan.specs.declared.findings.Rule.{Rule}
use Rattle.plan.specs.declared.findings.Rule.TheVariants.{No7, No8, No9, No10, No13}
use Rattle.plan.specs.declared.flights.Alternate.{Alternate}
use Rattle.plan.specs.declared.flights.Plan.{Plan}
use Rattle.plan.specs.declared.release.Phase.{Phase}
use Rattle.rules.specs.Grounds.{Grounds, grounds_held}
use Rattle.rules.specs.Judgement.{findings_of}
use Rattle.rules.specs.Required.{required_of}
use Rattle.advise.specs.declared.search.Verdict.{Verdict}
use Rattle.advise.specs.declared.verdicts.Inquiry.{Inquiry}
use Rattle.advise.specs.Listing.{plan_with}

-- the rule asks for an alternate, or for one more
abbrev pub asks_for_more : Rule → Bool
asks_for_more No7 = true
asks_for_more No8 = true
asks_for_more No9 = true
asks_for_more _ = false

-- the rule is against the listed alternate at this place
abbrev pub is_against : Rule → ℕ → Bool
is_against No10 place = true
is_against No13 place = nat_le 1 place && nat_le place 3
is_against _ place = false

-- the finding is on this leg and meets the test
abbrev pub is_on : ℕ → (Rule → ℕ → Bool) → Finding → Bool
is_on leg test f = (f.leg == leg) && test f.rule f.place

abbrev pub verdict_by : List Finding → ℕ → ℕ → Verdict
verdict_by fs leg required =
    record { are_enough = not (list_any (is_on leg (λ rule place. asks_for_more rule)) fs); are_usable = not (list_any (is_on leg is_against) fs); required = required }

-- what the rules find with these alternates on the leg
abbrev pub verdict_of : Plan → Phase → ℕ → Grounds → List Alternate → Verdict
verdict_of plan phase leg g listed = verdict_by (findings_of (plan_with plan leg listed) phase g) leg (required_of (plan_with plan leg listed) phase leg g)

abbrev pub verdict_in : Inquiry → List Alternate → Verdict
verdict_in i listed = verdict_of i.plan.now i.phase i.leg (grounds_held i.tables.now i.facts.now.reports i.deferrals.now.list i.moment) listed
