-- An ask whose fields have their forms.
use Rattle.asks.specs.Ranges.{IsCall}
use Rattle.asks.specs.declared.call.Ask.{Ask}
use Rattle.asks.specs.declared.call.Ask.TheVariants.{Admit, Defer, Clear, Draft, Prepare, Sign, Concur, Amend, Cancel, Depart, Arrive, Acknowledge, Purge, Sweep, ViewBoard, ViewAlerts, ViewRelease, ViewWeather, ViewDeferred}
use Rattle.asks.specs.Forms.{AskHasForms}
use Rattle.asks.proofs.PlanForms.{plan_from_forms}

-- its text can be made
pub call_from_forms : (a : Ask) → AskHasForms a → IsCall a
call_from_forms (Admit text) is = tt
call_from_forms (Defer tail item found) is = is.2
call_from_forms (Clear deferral) is = tt
call_from_forms (Draft plan) is = plan_from_forms plan is
call_from_forms (Prepare release) is = tt
call_from_forms (Sign release revision digest) is = tt
call_from_forms (Concur release revision digest) is = tt
call_from_forms (Amend release plan) is = plan_from_forms plan is.1
call_from_forms (Cancel release) is = tt
call_from_forms (Depart release leg) is = tt
call_from_forms (Arrive release leg) is = tt
call_from_forms (Acknowledge release version) is = tt
call_from_forms (Purge release) is = tt
call_from_forms (Sweep before) is = is
call_from_forms ViewBoard is = tt
call_from_forms ViewAlerts is = tt
call_from_forms (ViewRelease release) is = tt
call_from_forms (ViewWeather station) is = tt
call_from_forms (ViewDeferred tail) is = tt
