-- The lines on whether the destination needs an alternate (14 CFR 121.619, 121.621).
use Rattle.std.specs.Prelude.{ℕ, ◌+◌, ◌-◌, Bool, true, false, ◌&&◌, List, [], ◌∷◌, length, None, Some}
use Rattle.airport_minima.specs.Floor.{flag_floor}
use Rattle.plan.specs.AlternateNeeds.{domestic_floor}
use Rattle.plan.specs.declared.findings.Rule.{Rule}
use Rattle.plan.specs.declared.findings.Rule.TheVariants.{No7, No8, No9}
use Rattle.plan.specs.declared.flights.Alternate.{Alternate}
use Rattle.plan.specs.declared.flights.Kind.{Kind}
use Rattle.plan.specs.declared.flights.Kind.TheVariants.{Domestic, Flag}
use Rattle.plan.specs.declared.flights.Leg.{Leg}
use Rattle.rules.specs.Circumstances.{Case}
use Rattle.rules.specs.DestinationAlternates.{is_domestic, is_flag, arrival_weather, needs_alternate, margin, is_free}
use Rattle.sheet.specs.declared.lines.AlternateNeed.{AlternateNeed}
use Rattle.sheet.specs.declared.lines.Compared.TheVariants as compared
use Rattle.sheet.specs.declared.lines.Line.{Line}
use Rattle.sheet.specs.declared.lines.Second.{Second}
use Rattle.sheet.specs.Lines.{line, line_if}
use Rattle.sheet.specs.Weather.{at_landing, at_alternate}

-- Why a leg needs an alternate. A domestic leg depends on the weather alone. A flag leg also depends on its scheduled
-- time, and may go without an alternate on some routes.
abbrev pub need_by : Kind → Case → Leg → AlternateNeed
need_by Domestic c leg = record {
  station = leg.to;
  from = leg.eta - 60;
  to = leg.eta + 60;
  minutes = leg.eta - leg.etd;
  longest = None;
  weather = arrival_weather c leg;
  floor = Some domestic_floor;
  listed = length leg.alternates;
  is_free = None;
}
need_by Flag c leg = record {
  station = leg.to;
  from = leg.eta - 60;
  to = leg.eta + 60;
  minutes = leg.eta - leg.etd;
  longest = Some 360;
  weather = arrival_weather c leg;
  floor = flag_floor c.grounds.tables c.aircraft leg.to c.limits.lost;
  listed = length leg.alternates;
  is_free = Some (is_free c leg);
}

abbrev pub need_line : Rule → Case → ℕ → Leg → Line
need_line rule c n leg = line rule n 0 (compared.Need (need_by c.flight c leg))

-- whether a domestic leg has the alternate that it needs (14 CFR 121.619(a))
abbrev pub domestic_needs : Case → ℕ → Leg → List Line
domestic_needs c n leg = line_if (is_domestic c.flight) (need_line No7 c n leg)

-- whether a flag leg has the alternate that it needs (14 CFR 121.621(a))
abbrev pub flag_needs : Case → ℕ → Leg → List Line
flag_needs c n leg = line_if (is_flag c.flight) (need_line No9 c n leg)

-- the destination and the one alternate, with the margin by which one of them must be above its minima
abbrev pub second : Case → Leg → Alternate → Second
second c leg it = record {
  destination = at_landing c leg.to leg.eta;
  alternate = at_alternate c it.station (leg.eta + it.minutes);
  margin = margin c.grounds.tables.settings;
}

abbrev pub second_line : Case → ℕ → Leg → Alternate → Line
second_line c n leg it = line No8 n 0 (compared.Margin (second c leg it))

-- the line of the only alternate, if the rule applies
abbrev pub of_only : (Alternate → Line) → Bool → List Alternate → List Line
of_only at false listed = []
of_only at true [] = []
of_only at true (it ∷ []) = at it ∷ []
of_only at true (it ∷ other ∷ rest) = []

-- whether a domestic leg that needs an alternate and lists one needs a second (14 CFR 121.619(a))
abbrev pub second_lines : Case → ℕ → Leg → List Line
second_lines c n leg = of_only (second_line c n leg) (is_domestic c.flight && needs_alternate c leg) leg.alternates
