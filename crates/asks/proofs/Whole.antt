-- No JSON here has a number with a fraction.
use Rattle.std.proofs.Common.{◌≡◌, false, List, [], ◌∷◌, map, Option, None, Some, refl, ap, ◌∙◌}
use Rattle.serde_json.specs.Data.{Data}
use Rattle.serde_json.specs.View.{items_of}
use Rattle.serde_json.specs.Written.{has_float, items_have_float}
use Rattle.plan.specs.declared.flights.Alternate.{Alternate}
use Rattle.plan.specs.declared.flights.TakeoffAlternate.{TakeoffAlternate}
use Rattle.plan.specs.declared.flights.Leg.{Leg}
use Rattle.plan.specs.declared.flights.Plan.{Plan}
use Rattle.asks.specs.declared.call.Ask.{Ask}
use Rattle.asks.specs.declared.call.Ask.TheVariants.{Admit, Defer, Clear, Draft, Prepare, Sign, Concur, Amend, Cancel, Depart, Arrive, Acknowledge, Purge, Sweep, ViewBoard, ViewAlerts, ViewRelease, ViewWeather, ViewDeferred}
use Rattle.asks.specs.declared.reply.Done.{Done}
use Rattle.asks.specs.declared.reply.Done.TheVariants.{Report, Deferral, Filed, Prepared, Release, Swept}
use Rattle.asks.specs.Canonical.{option_data, alternate_data, takeoff_data, leg_data, plan_data, ask_data, done_data}

-- no list of such things has one
pub list_whole : {A : Type 0} (written : A → Data) → ((x : A) → has_float (written x) ≡ false) → (xs : List A) → items_have_float (items_of (map written xs)) ≡ false
list_whole written whole [] = refl
list_whole written whole (x ∷ xs) = rw (whole x) (list_whole written whole xs)

alternate_whole : (a : Alternate) → has_float (alternate_data a) ≡ false
alternate_whole a = refl

takeoff_whole : (t : Option TakeoffAlternate) → has_float (option_data takeoff_data t) ≡ false
takeoff_whole None = refl
takeoff_whole (Some t) = refl

leg_whole : (l : Leg) → has_float (leg_data l) ≡ false
leg_whole l = rw (list_whole alternate_data alternate_whole l.alternates, takeoff_whole l.takeoff_alternate) refl

pub plan_whole : (p : Plan) → has_float (plan_data p) ≡ false
unfolding plan_data
plan_whole p = rw (list_whole leg_data leg_whole p.legs) refl

pub ask_whole : (a : Ask) → has_float (ask_data a) ≡ false
unfolding ask_data
ask_whole (Admit text) = refl
ask_whole (Defer tail item found) = refl
ask_whole (Clear deferral) = refl
ask_whole (Draft plan) = rw (plan_whole plan) refl
ask_whole (Prepare release) = refl
ask_whole (Sign release revision digest) = refl
ask_whole (Concur release revision digest) = refl
ask_whole (Amend release plan) = rw (plan_whole plan) refl
ask_whole (Cancel release) = refl
ask_whole (Depart release leg) = refl
ask_whole (Arrive release leg) = refl
ask_whole (Acknowledge release version) = refl
ask_whole (Purge release) = refl
ask_whole (Sweep before) = refl
ask_whole ViewBoard = refl
ask_whole ViewAlerts = refl
ask_whole (ViewRelease release) = refl
ask_whole (ViewWeather station) = refl
ask_whole (ViewDeferred tail) = refl

pub done_whole : (d : Done) → has_float (done_data d) ≡ false
done_whole (Report id) = refl
done_whole (Deferral id) = refl
done_whole (Filed release revision) = refl
done_whole (Prepared release revision digest) = refl
done_whole (Release id) = refl
done_whole (Swept reports kept) = refl

pub plan_is_whole : (p : Plan) (d : Data) → d ≡ plan_data p → has_float d ≡ false
plan_is_whole p d is = ap has_float is ∙ plan_whole p

pub ask_is_whole : (a : Ask) (d : Data) → d ≡ ask_data a → has_float d ≡ false
ask_is_whole a d is = ap has_float is ∙ ask_whole a
