-- Why a view shows nothing can be written.
use Rattle.std.proofs.Common.{Bool, true, false, Option, None, Some, Result, Ok, Err, IfErr, not, subst, sym}
use Rattle.serde_json.specs.Data.{Members}
use Rattle.asks.specs.Ranges.{RefusalHasMoment}
use Rattle.asks.specs.declared.reply.Refusal.{Refusal}
use Rattle.asks.specs.declared.reply.Refusal.TheVariants.{NoSuchRelease, NoSuchStation, UnknownTail}
use Rattle.desk_state.specs.Chain.{◌>>-◌, refused_if, some_or, unless}
use Rattle.desk_state.specs.State.{State, release_at}
use Rattle.ops_tables.specs.Tables.{has_airport, type_of}
use Rattle.views.specs.Shown.{deferred_shown, detail_shown, weather_shown}
use Rattle.views.specs.Views.{Deferred, Detail, Shown, Shows, Weather, shown}
use Rattle.views.specs.declared.view.View.{View}
use Rattle.views.specs.declared.view.View.TheVariants as view

over : {A : Type 0} (o : Option A) (e : Refusal) (f : A → Shown) → RefusalHasMoment e → IfErr (some_or e o >>- λ a. Ok (f a)) RefusalHasMoment
over None e f has = has
over (Some a) e f has = tt

past : (b : Bool) (e : Refusal) (x : Shown) → RefusalHasMoment e → IfErr (unless (refused_if b e) (Ok x)) RefusalHasMoment
past true e x has = has
past false e x has = tt

refused : (s : State) (v : View) → IfErr (shown s v) RefusalHasMoment
refused s view.Board = tt
refused s view.Alerts = tt
refused s (view.Release id) = over (release_at id s.releases) NoSuchRelease (λ r. Detail (detail_shown s r)) tt
refused s (view.Weather station) = past (not (has_airport s.tables station)) NoSuchStation (Weather (weather_shown s station)) tt
refused s (view.Deferred tail) = over (type_of s.tables tail) UnknownTail (λ kind. Deferred (deferred_shown s tail kind.kind)) tt

by_refusal : {A : Type 0} (seen : A → Members) (m : Result Shown Refusal) (e : Refusal) → IfErr m RefusalHasMoment → Shows seen m (Err e) → RefusalHasMoment e
by_refusal seen (Ok x) e has shows = absurd shows
by_refusal seen (Err why) e has shows = subst RefusalHasMoment (sym shows) has

pub shows_moment : {A : Type 0} (seen : A → Members) (s : State) (v : View) (e : Refusal) → Shows seen (shown s v) (Err e) → RefusalHasMoment e
shows_moment seen s v e shows = by_refusal seen (shown s v) e (refused s v) shows
