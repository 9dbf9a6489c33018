-- Which roles may make which ask.
use Rattle.std.specs.Prelude.{ℕ, Bool, true, false, not, ◌||◌, List, Option, None, Some}
use Rattle.std.specs.Str.{bytes_eq}
use Rattle.ops_tables.specs.Rows.{Actor}
use Rattle.ops_tables.specs.declared.rows.Role.{Role}
use Rattle.ops_tables.specs.declared.rows.Role.TheVariants.{D, C, F, M, S}
use Rattle.ops_tables.specs.Tables.{is_captain_role}
use Rattle.asks.specs.declared.call.Ask.{Ask}
use Rattle.asks.specs.declared.call.Ask.TheVariants as ask
use Rattle.asks.specs.declared.reply.Refusal.{Refusal}
use Rattle.asks.specs.declared.reply.Refusal.TheVariants.{UnknownActor, WrongKey, NotYourRole}
use Rattle.desk_state.specs.Chain.{refused_if}

abbrev pub is_dispatcher : Role → Bool
is_dispatcher D = true
is_dispatcher C = false
is_dispatcher F = false
is_dispatcher M = false
is_dispatcher S = false

abbrev pub is_feed : Role → Bool
is_feed D = false
is_feed C = false
is_feed F = true
is_feed M = false
is_feed S = false

abbrev pub is_maintenance : Role → Bool
is_maintenance D = false
is_maintenance C = false
is_maintenance F = false
is_maintenance M = true
is_maintenance S = false

abbrev pub is_records : Role → Bool
is_records D = false
is_records C = false
is_records F = false
is_records M = false
is_records S = true

-- A feed or a dispatcher admits reports, and maintenance defers and clears items. Dispatchers draft, prepare, sign,
-- amend and cancel releases, and acknowledge alerts. Captains concur. Dispatchers and captains report departures and
-- arrivals (14 CFR 121.593, 121.595, 121.663). The records role removes what need no longer be kept (14 CFR 121.695).
-- Everyone may view.
abbrev pub may_ask : Ask → Role → Bool
may_ask (ask.Admit text) role = is_feed role || is_dispatcher role
may_ask (ask.Defer tail item found) role = is_maintenance role
may_ask (ask.Clear deferral) role = is_maintenance role
may_ask (ask.Draft plan) role = is_dispatcher role
may_ask (ask.Prepare release) role = is_dispatcher role
may_ask (ask.Sign release revision digest) role = is_dispatcher role
may_ask (ask.Concur release revision digest) role = is_captain_role role
may_ask (ask.Amend release plan) role = is_dispatcher role
may_ask (ask.Cancel release) role = is_dispatcher role
may_ask (ask.Depart release leg) role = is_dispatcher role || is_captain_role role
may_ask (ask.Arrive release leg) role = is_dispatcher role || is_captain_role role
may_ask (ask.Acknowledge release version) role = is_dispatcher role
may_ask (ask.Purge release) role = is_records role
may_ask (ask.Sweep before) role = is_records role
may_ask ask.ViewBoard role = true
may_ask ask.ViewAlerts role = true
may_ask (ask.ViewRelease release) role = true
may_ask (ask.ViewWeather station) role = true
may_ask (ask.ViewDeferred tail) role = true

-- nobody has this name (1), or the key is wrong (2)
abbrev pub mistaken : Option Actor → List ℕ → Option Refusal
mistaken None key = Some UnknownActor
mistaken (Some person) key = refused_if (not (bytes_eq person.key key)) WrongKey

-- the person's role doesn't permit the ask (3)
abbrev pub not_his_role : Option Actor → Ask → Option Refusal
not_his_role None a = Some NotYourRole
not_his_role (Some person) a = refused_if (not (may_ask a person.role)) NotYourRole
