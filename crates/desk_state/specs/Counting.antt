-- How many plans a step of the desk judges at most.
use Rattle.std.specs.Prelude.{ℕ, Bool, List, length, filter, find, Option, None, Some, Result, Ok, Err}
use Rattle.asks.specs.declared.call.Ask.{Ask}
use Rattle.asks.specs.declared.call.Ask.TheVariants as ask
use Rattle.codes.specs.declared.fault.BadReport.{BadReport}
use Rattle.deferrals.specs.Held.{has_id}
use Rattle.deferrals.specs.declared.items.Deferral.{Deferral}
use Rattle.facts.specs.Reading.{read_of}
use Rattle.facts.specs.Same.{station_of_read}
use Rattle.facts.specs.declared.report.Read.{Read}
use Rattle.plan.specs.declared.release.Release.{Release}
use Rattle.desk_state.specs.declared.effect.Effect.{Effect}
use Rattle.desk_state.specs.Events.{effected}
use Rattle.desk_state.specs.State.{State}
use Rattle.desk_state.specs.Touched.{touched_at, touched_on, touched_by, is_touched}

-- the number of releases that pass a test
abbrev pub count : (Release → Bool) → List Release → ℕ
count test releases = length (filter test releases)

-- the number of releases that an event touches
abbrev pub count_touched : State → Effect → ℕ
count_touched s e = count (is_touched s e) (effected e s).releases

-- the number of plans judged to decide an ask: one for a signature, a concurrence or a departure
abbrev pub to_decide : Ask → ℕ
to_decide (ask.Admit text) = 0
to_decide (ask.Defer tail item found) = 0
to_decide (ask.Clear deferral) = 0
to_decide (ask.Draft plan) = 0
to_decide (ask.Prepare release) = 0
to_decide (ask.Sign release revision digest) = 1
to_decide (ask.Concur release revision digest) = 1
to_decide (ask.Amend release plan) = 0
to_decide (ask.Cancel release) = 0
to_decide (ask.Depart release leg) = 1
to_decide (ask.Arrive release leg) = 0
to_decide (ask.Acknowledge release version) = 0
to_decide (ask.Purge release) = 0
to_decide (ask.Sweep before) = 0
to_decide ask.ViewBoard = 0
to_decide ask.ViewAlerts = 0
to_decide (ask.ViewRelease release) = 0
to_decide (ask.ViewWeather station) = 0
to_decide (ask.ViewDeferred tail) = 0

-- the number of releases that a report touches: the active plan names its station in a leg that isn't flown
abbrev pub most_by_reading : Result Read BadReport → List Release → ℕ
most_by_reading (Err bad) releases = 0
most_by_reading (Ok read) releases = count (touched_at (station_of_read read)) releases

-- the number of active releases that a cleared deferral touches by its aircraft
abbrev pub most_by_cleared : Option Deferral → List Release → ℕ
most_by_cleared None releases = 0
most_by_cleared (Some d) releases = count (touched_on d.tail) releases

-- The maximum number of plans that an ask makes the desk judge. For a report, it is the number of active releases
-- that its station touches. For a deferral and its clearing, it is the number that the aircraft touches. For every
-- other ask, it is two.
abbrev pub most_judged : State → Ask → ℕ
most_judged s (ask.Admit text) = most_by_reading (read_of text s.moment) s.releases
most_judged s (ask.Defer tail item found) = count (touched_on tail) s.releases
most_judged s (ask.Clear deferral) = most_by_cleared (find (has_id deferral) s.deferrals) s.releases
most_judged s (ask.Draft plan) = 2
most_judged s (ask.Prepare release) = 2
most_judged s (ask.Sign release revision digest) = 2
most_judged s (ask.Concur release revision digest) = 2
most_judged s (ask.Amend release plan) = 2
most_judged s (ask.Cancel release) = 2
most_judged s (ask.Depart release leg) = 2
most_judged s (ask.Arrive release leg) = 2
most_judged s (ask.Acknowledge release version) = 2
most_judged s (ask.Purge release) = 2
most_judged s (ask.Sweep before) = 2
most_judged s ask.ViewBoard = 2
most_judged s ask.ViewAlerts = 2
most_judged s (ask.ViewRelease release) = 2
most_judged s (ask.ViewWeather station) = 2
most_judged s (ask.ViewDeferred tail) = 2

-- the maximum for a tick: the number of active releases for which a time rule begins to fail by then
abbrev pub most_ticked : State → ℕ → ℕ
most_ticked s to = count (touched_by s.tables.settings s.moment to) s.releases
