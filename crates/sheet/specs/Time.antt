-- The lines of the rules of time (14 CFR 121.593, 121.595, and the desk's own).
use Rattle.std.specs.Prelude.{ℕ, ◌-◌, ◌==◌, List, [], ◌∷◌, Option, None, Some}
use Rattle.ops_tables.specs.declared.rows.Settings.{Settings}
use Rattle.plan.specs.declared.findings.Rule.{Rule}
use Rattle.plan.specs.declared.findings.Rule.TheVariants.{No1, No2, No17, No18}
use Rattle.plan.specs.declared.flights.Kind.{Kind}
use Rattle.plan.specs.declared.flights.Leg.{Leg}
use Rattle.plan.specs.declared.release.Phase.{Phase}
use Rattle.plan.specs.declared.release.Phase.TheVariants.{Drafted, Ready, Flying, Stopped, Completed, Cancelled}
use Rattle.plan.specs.Phases.{is_flying}
pub use Rattle.rules.specs.DestinationAlternates.{is_domestic, is_flag}
pub use Rattle.rules.specs.Time.{only_if, unless_again, departs_next}
use Rattle.sheet.specs.declared.lines.Line.{Line}
use Rattle.sheet.specs.declared.lines.Compared.TheVariants as compared
use Rattle.sheet.specs.declared.lines.Elapsed.{Elapsed}
use Rattle.sheet.specs.Lines.{line}

-- since when the aircraft has stopped before leg n, unless the flight was released again
abbrev pub stopped_since : Phase → ℕ → Option ℕ
stopped_since Drafted n = None
stopped_since Ready n = None
stopped_since (Flying in_flight) n = None
stopped_since (Stopped next since again) n = only_if (n == next) (unless_again again since)
stopped_since (Completed at) n = None
stopped_since (Cancelled at) n = None

-- Since when a rule of time counts on leg n: the last arrival, the ETD of the leg that departs next, or the ETA of the
-- leg in flight.
abbrev pub counts_since : Rule → Kind → Phase → ℕ → Leg → Option ℕ
counts_since No1 flight phase n leg = only_if (is_domestic flight) (stopped_since phase n)
counts_since No2 flight phase n leg = only_if (is_flag flight) (stopped_since phase n)
counts_since No17 flight phase n leg = only_if (departs_next phase n) (Some leg.etd)
counts_since No18 flight phase n leg = only_if (is_flying phase n) (Some leg.eta)
counts_since _ flight phase n leg = None

-- how many minutes a rule of time allows
abbrev pub allowed : Rule → Settings → ℕ
allowed No1 settings = 60
allowed No2 settings = 360
allowed No17 settings = settings.late_off
allowed No18 settings = settings.late_on
allowed _ settings = 0

-- the minutes that have passed at the moment; 0 before the beginning
abbrev pub elapsed : ℕ → ℕ → ℕ → Elapsed
elapsed since allowed moment = record { since = since; moment = moment; minutes = moment - since; allowed = allowed }

abbrev pub lines_since : Rule → ℕ → Option ℕ → ℕ → ℕ → List Line
lines_since rule n None allowed moment = []
lines_since rule n (Some since) allowed moment = line rule n 0 (compared.Time (elapsed since allowed moment)) ∷ []

-- the line of a rule of time on leg n, if the rule counts there
abbrev pub time_lines : Rule → Settings → Kind → Phase → ℕ → Leg → ℕ → List Line
time_lines rule settings flight phase n leg moment = lines_since rule n (counts_since rule flight phase n leg) (allowed rule settings) moment
