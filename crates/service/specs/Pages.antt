-- The pages of a service that stays: whether the desk is well, and what it holds.
use Rattle.std.specs.Prelude.{ℕ, ◌-◌, ◌*◌, Bool, true, false, List, [], ◌∷◌, ◌++◌, length, filter, codes, decimal, slice_get, Option, None, Some}
use Rattle.std.specs.List.{concat}
use Rattle.std.specs.Option.{option_map}
use Rattle.alerts.specs.declared.alert.Alert.{Alert}
use Rattle.asks.specs.declared.call.Ask.TheVariants.{ViewBoard}
use Rattle.asks.specs.declared.call.Call.{Call}
use Rattle.desk_state.specs.State.{State}
use Rattle.desk_time.specs.Moments.{shown}
use Rattle.facts.specs.declared.report.Report.{Report}
use Rattle.service.specs.declared.gauges.Gauges.{Gauges}
use Rattle.service.specs.declared.pages.Page.{Page}
use Rattle.service.specs.declared.pages.Page.TheVariants.{Health, Metrics}
use Rattle.service.specs.declared.responses.Media.TheVariants as media
use Rattle.service.specs.declared.responses.Response.{Response}

-- A page is asked for by this call, and so is each minute's tick: a view, by a person whom no desk knows. The desk ticks
-- if a minute has begun, and refuses the call.
abbrev pub nobodys_call : Call
nobodys_call = record { actor = []; key = []; number = 0; ask = ViewBoard }

-- ---- what is measured

-- the moment at which the newest report was received
abbrev pub last_received : List Report → Option ℕ
last_received reports = option_map (λ r. r.received) (slice_get reports (length reports - 1))

abbrev pub acknowledged_in : List Alert → ℕ
acknowledged_in alerts = length (filter (λ a. a.acknowledged) alerts)

-- what a desk holds in a state, and whether its rows can be kept
abbrev pub gauges_of : State → Bool → Gauges
gauges_of s kept = record {
  at = s.moment;
  received = last_received s.reports;
  keeps = kept;
  reports = length s.reports;
  deferrals = length s.deferrals;
  releases = length s.releases;
  replies = length s.kept;
  events = s.counters.events;
  entries = length s.entries;
  alerts = length s.alerts;
  acknowledged = acknowledged_in s.alerts;
}

-- ---- health

unfoldable pub wellness : Bool → List ℕ
wellness true = codes "ok"
wellness false = codes "unkept"

-- a number of whole minutes in seconds, or null
unfoldable pub age_text : ℕ → Option ℕ → List ℕ
age_text at None = codes "null"
age_text at (Some received) = decimal (60 * (at - received))

abbrev pub health_status : Bool → ℕ
health_status true = 200
health_status false = 503

unfoldable pub health_front : List ℕ → List ℕ → List ℕ
health_front word at = concat (codes "{\"health\":\"" ∷ word ∷ codes "\",\"at\":\"" ∷ at ∷ codes "\",\"seconds_since_report\":" ∷ [])

unfoldable pub health_rest : List ℕ → List ℕ → List ℕ
health_rest age name = concat (age ∷ codes ",\"program\":\"" ∷ name ∷ codes "\"}" ∷ [])

abbrev pub health_text : List ℕ → Gauges → List ℕ
health_text name g = health_front (wellness g.keeps) (shown g.at) ++ health_rest (age_text g.at g.received) name

-- The desk is well if its rows could be kept when they were to change last. `name` is that of the program.
abbrev pub health_response : List ℕ → Gauges → Response
health_response name g = record { status = health_status g.keeps; media = media.Json; body = health_text name g }

-- ---- metrics

-- a metric in the text format of Prometheus: its name, its kind, what it is, and its value
unfoldable pub metric : List ℕ → List ℕ → List ℕ → ℕ → List ℕ
metric name kind help value =
    concat (codes "# HELP " ∷ name ∷ codes " " ∷ help ∷ codes "\n" ∷ [])
    ++ (concat (codes "# TYPE " ∷ name ∷ codes " " ∷ kind ∷ codes "\n" ∷ [])
    ++ concat (name ∷ codes " " ∷ decimal value ∷ codes "\n" ∷ []))

unfoldable pub gauge : List ℕ → List ℕ → ℕ → List ℕ
gauge name help value = metric name (codes "gauge") help value

unfoldable pub counter : List ℕ → List ℕ → ℕ → List ℕ
counter name help value = metric name (codes "counter") help value

-- how much of each limit is held
unfoldable pub held_text : Gauges → List ℕ
held_text g =
    gauge (codes "desk_reports") (codes "Weather reports held.") g.reports
    ++ gauge (codes "desk_deferrals") (codes "Open deferrals held.") g.deferrals
    ++ gauge (codes "desk_releases") (codes "Releases held.") g.releases
    ++ gauge (codes "desk_replies") (codes "Replies kept for retries.") g.replies

unfoldable pub limits_text : List ℕ
limits_text =
    gauge (codes "desk_reports_limit") (codes "Most weather reports held.") 200_000
    ++ gauge (codes "desk_deferrals_limit") (codes "Most open deferrals held.") 50_000
    ++ gauge (codes "desk_releases_limit") (codes "Most releases held.") 20_000
    ++ gauge (codes "desk_replies_limit") (codes "Most replies kept for retries.") 400_000

unfoldable pub flag : Bool → ℕ
flag true = 1
flag false = 0

unfoldable pub kept_text : Bool → List ℕ
kept_text kept = gauge (codes "desk_rows_kept") (codes "1 if rows could be kept when they were to change last, else 0.") (flag kept)

unfoldable pub desk_text : Gauges → List ℕ
desk_text g =
    gauge (codes "desk_alerts_open") (codes "Open alerts.") g.alerts
    ++ gauge (codes "desk_alerts_acknowledged") (codes "Open alerts that their dispatchers have acknowledged.") g.acknowledged
    ++ kept_text g.keeps
    ++ gauge (codes "desk_moment_seconds") (codes "The moment of the desk, since 1970.") (60 * g.at)

unfoldable pub done_text : Gauges → List ℕ
done_text g =
    counter (codes "desk_commits_total") (codes "Ticks and accepted calls since the desk was opened, each stored by one commit.") g.entries
    ++ gauge (codes "desk_events") (codes "Events since the first opening.") g.events

abbrev pub metrics_text : List ℕ → Gauges → List ℕ
metrics_text meters g = held_text g ++ limits_text ++ desk_text g ++ done_text g ++ meters

abbrev pub metrics_response : List ℕ → Gauges → Response
metrics_response meters g = record { status = 200; media = media.Metrics; body = metrics_text meters g }

-- ---- a page

-- What a page shows: the desk after its turn, whether rows can be kept, the name of the program, and what the service
-- has counted. Contracts know nothing of the last two.
pub record View : Type 0 where
  pub state : State
  pub keeps : Bool
  pub name : List ℕ
  pub meters : List ℕ

abbrev pub page_of : Page → List ℕ → List ℕ → Gauges → Response
page_of Health name meters g = health_response name g
page_of Metrics name meters g = metrics_response meters g

abbrev pub page_response : Page → View → Response
page_response page v = page_of page v.name v.meters (gauges_of v.state v.keeps)
