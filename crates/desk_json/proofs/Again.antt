-- What is written of a call or a line is read again.
use Rattle.std.proofs.Common.{◌≡◌, ℕ, List, true, Result, Ok, refl, ap, ◌∙◌}
use Rattle.std.specs.Prelude.{is_some}
use Rattle.std.proofs.lemmas.Str.{utf8_lossy-IsUtf8}
use Rattle.serde_json.specs.Find.{as_object}
use Rattle.desk_time.specs.Limits.{IsMoment}
use Rattle.asks.specs.declared.call.Call.{Call}
use Rattle.asks.specs.declared.call.Ask.{Ask}
use Rattle.asks.specs.declared.call.Ask.TheVariants.{Admit, Defer, Clear, Draft, Prepare, Sign, Concur, Amend, Cancel, Depart, Arrive, Acknowledge, Purge, Sweep, ViewBoard, ViewAlerts, ViewRelease, ViewWeather, ViewDeferred}
use Rattle.asks.specs.Canonical.{ask_data}
use Rattle.asks.specs.Forms.{AskHasForms, CallHasForms}
use Rattle.asks.proofs.DigestLaws.{digest_again}
use Rattle.asks.proofs.Again.{small_again, amount_again, short_again, station_again, moment_again, id_again, plan_again}
use Rattle.desk_json.specs.declared.bad_call.CallFault.{CallFault}
use Rattle.desk_json.specs.Canonical.{line_data, posted_data, IsLineAgain, IsCallAgain}
use Rattle.desk_json.specs.Faults.{ask_or_fault, call_in, line_in, read_as, call_or_fault, line_or_fault, Answers}
use Rattle.desk_json.proofs.Results.{gives}

-- the ask that is written is read
pub ask_again : (a : Ask) → AskHasForms a → ask_or_fault (ask_data a) ≡ Ok a
unfolding ask_data
ask_again (Admit text) is = rw (utf8_lossy-IsUtf8 text is) refl
ask_again (Defer tail item found) is = rw (short_again tail is.0, short_again item is.1, moment_again found is.2) refl
ask_again (Clear deferral) is = rw (id_again deferral is) refl
ask_again (Draft plan) is = rw (plan_again plan is) refl
ask_again (Prepare release) is = rw (id_again release is) refl
ask_again (Sign release revision digest) is = rw (id_again release is.0, id_again revision is.1, digest_again digest is.2) refl
ask_again (Concur release revision digest) is = rw (id_again release is.0, id_again revision is.1, digest_again digest is.2) refl
ask_again (Amend release plan) is = rw (id_again release is.0, plan_again plan is.1) refl
ask_again (Cancel release) is = rw (id_again release is) refl
ask_again (Depart release leg) is = rw (id_again release is.0, amount_again leg is.1) refl
ask_again (Arrive release leg) is = rw (id_again release is.0, amount_again leg is.1) refl
ask_again (Acknowledge release version) is = rw (id_again release is.0, id_again version is.1) refl
ask_again (Purge release) is = rw (id_again release is) refl
ask_again (Sweep before) is = rw (moment_again before is) refl
ask_again ViewBoard is = refl
ask_again ViewAlerts is = refl
ask_again (ViewRelease release) is = rw (id_again release is) refl
ask_again (ViewWeather station) is = rw (station_again station is) refl
ask_again (ViewDeferred tail) is = rw (short_again tail is) refl

pub ask_is_object : (a : Ask) → is_some (as_object (ask_data a)) ≡ true
unfolding ask_data
ask_is_object a = refl

line_data_again : (at : ℕ) (c : Call) → IsMoment at → CallHasForms c → line_in (line_data at c) ≡ Ok (at, c)
unfolding line_data
line_data_again at c moment is =
    rw (ask_is_object c.ask, ask_again c.ask is.ask, moment_again at moment, short_again c.actor is.actor, short_again c.key is.key, small_again c.number 1_000_000_000_000 is.number) refl

posted_again : (c : Call) → CallHasForms c → call_in (posted_data c) ≡ Ok c
unfolding posted_data
posted_again c is =
    rw (ask_is_object c.ask, ask_again c.ask is.ask, short_again c.actor is.actor, short_again c.key is.key, small_again c.number 1_000_000_000_000 is.number) refl

-- a line whose JSON is that of a moment and a call is read as these
pub line_again : (line : List ℕ) (r : Result (ℕ × Call) CallFault) → Answers (line_or_fault line) r → IsLineAgain line r
unfolding line_or_fault
line_again line r is = λ at c moment forms same. gives (at, c) (line_or_fault line) r (ap (read_as line_in) same ∙ line_data_again at c moment forms) is

-- a text whose JSON is that of a call is read as it
pub call_again : (text : List ℕ) (r : Result Call CallFault) → Answers (call_or_fault text) r → IsCallAgain text r
unfolding call_or_fault
call_again text r is = λ c forms same. gives c (call_or_fault text) r (ap (read_as call_in) same ∙ posted_again c forms) is
