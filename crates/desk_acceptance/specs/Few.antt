-- How many plans a step judges at most, in numbers and by the active releases alone.
use Rattle.std.specs.Prelude.{ℕ, length, filter}
use Rattle.asks.specs.declared.call.Ask.{Ask}
use Rattle.asks.specs.declared.call.Ask.TheVariants as ask
use Rattle.plan.specs.Phases.{is_active}
use Rattle.desk_state.specs.State.{State}

-- how many releases one may fly by
abbrev pub active_releases : State → ℕ
active_releases s = length (filter (λ r. is_active r.phase) s.releases)

-- For a report, a deferral and its clearing each active release once at most. For every other ask two: the plan that is
-- decided about, and the one by which its release may fly.
abbrev pub few_for : Ask → ℕ → ℕ
few_for (ask.Admit text) active = active
few_for (ask.Defer tail item found) active = active
few_for (ask.Clear deferral) active = active
few_for (ask.Draft plan) active = 2
few_for (ask.Prepare release) active = 2
few_for (ask.Sign release revision digest) active = 2
few_for (ask.Concur release revision digest) active = 2
few_for (ask.Amend release plan) active = 2
few_for (ask.Cancel release) active = 2
few_for (ask.Depart release leg) active = 2
few_for (ask.Arrive release leg) active = 2
few_for (ask.Acknowledge release version) active = 2
few_for (ask.Purge release) active = 2
few_for (ask.Sweep before) active = 2
few_for ask.ViewBoard active = 2
few_for ask.ViewAlerts active = 2
few_for (ask.ViewRelease release) active = 2
few_for (ask.ViewWeather station) active = 2
few_for (ask.ViewDeferred tail) active = 2
