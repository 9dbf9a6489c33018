-- Limits of the rules of time: stops (14 CFR 121.593, 121.595), and late departures and arrivals (the desk's own).
use Rattle.std.specs.Prelude.{ℕ, ◌+◌, ◌==◌, nat_lt, Bool, true, false, List, Option, None, Some}
use Rattle.ops_tables.specs.declared.rows.Settings.{Settings}
use Rattle.plan.specs.declared.flights.Kind.{Kind}
use Rattle.plan.specs.declared.flights.Leg.{Leg}
use Rattle.plan.specs.declared.findings.Rule.{Rule}
use Rattle.plan.specs.declared.findings.Rule.TheVariants.{No1, No2, No17, No18}
use Rattle.plan.specs.declared.release.Phase.{Phase}
use Rattle.plan.specs.Phases.{is_flying}
use Rattle.plan.specs.declared.release.Phase.TheVariants.{Drafted, Ready, Flying, Stopped, Completed, Cancelled}
use Rattle.rules.specs.DestinationAlternates.{is_domestic, is_flag, place_if}

abbrev pub only_if : Bool → Option ℕ → Option ℕ
only_if true limit = limit
only_if false limit = None

abbrev pub unless_again : Bool → ℕ → Option ℕ
unless_again true limit = None
unless_again false limit = Some limit

-- the limit of a stop of this many minutes before the leg, unless the flight was released again
abbrev pub stop_limit : ℕ → Phase → ℕ → Option ℕ
stop_limit minutes Drafted leg = None
stop_limit minutes Ready leg = None
stop_limit minutes (Flying in_flight) leg = None
stop_limit minutes (Stopped next since again) leg = only_if (leg == next) (unless_again again (since + minutes))
stop_limit minutes (Completed at) leg = None
stop_limit minutes (Cancelled at) leg = None

-- the leg departs next
abbrev pub departs_next : Phase → ℕ → Bool
departs_next Drafted leg = leg == 1
departs_next Ready leg = leg == 1
departs_next (Flying in_flight) leg = false
departs_next (Stopped next since again) leg = leg == next
departs_next (Completed at) leg = false
departs_next (Cancelled at) leg = false

-- The last minute at which leg n doesn't fail a rule of time. There is none if the rule doesn't judge the leg. A
-- domestic flight may stop for an hour, a flag flight for six.
abbrev pub limit_of : Rule → Settings → Kind → Phase → ℕ → Leg → Option ℕ
limit_of No1 settings flight phase n leg = only_if (is_domestic flight) (stop_limit 60 phase n)
limit_of No2 settings flight phase n leg = only_if (is_flag flight) (stop_limit 360 phase n)
limit_of No17 settings flight phase n leg = only_if (departs_next phase n) (Some (leg.etd + settings.late_off))
limit_of No18 settings flight phase n leg = only_if (is_flying phase n) (Some (leg.eta + settings.late_on))
limit_of _ settings flight phase n leg = None

-- the moment is after the limit
abbrev pub is_past : Option ℕ → ℕ → Bool
is_past None moment = false
is_past (Some limit) moment = nat_lt limit moment

-- leg n fails the rule of time at the moment
abbrev pub is_late : Rule → Settings → Kind → Phase → ℕ → Leg → ℕ → Bool
is_late rule settings flight phase n leg moment = is_past (limit_of rule settings flight phase n leg) moment

abbrev pub late_places : Rule → Settings → Kind → Phase → ℕ → Leg → ℕ → List ℕ
late_places rule settings flight phase n leg moment = place_if (is_late rule settings flight phase n leg moment) 0
