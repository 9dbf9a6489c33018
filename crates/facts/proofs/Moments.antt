-- Each moment that a report writes lies from 2000 to 2099.
use Rattle.std.proofs.Common.{◌≡◌, ℕ, ◌+◌, ◌*◌, ◌/◌, ◌-◌, Bool, true, false, cond, ◌&&◌, ◌==◌, List, [], ◌∷◌, length, Option, None, Some, IfSome, Result, Ok, Err, refl, subst, IfOk, nat_le, nat_lt}
use Rattle.std.proofs.lemmas.Bool.{and_parts, leb-true}
use Rattle.codes.specs.Cond.{is_period, stretch_of}
use Rattle.codes.specs.Groups.{first_of}
use Rattle.codes.specs.Moment.{written_moment, moment_or, time_of}
use Rattle.codes.specs.Period.{end_of, ends, period_of}
use Rattle.desk_io.specs.Station.{Station, station_of}
use Rattle.codes.specs.declared.cond.Stretch.{Stretch}
use Rattle.codes.specs.declared.fault.BadReport.{BadReport}
use Rattle.codes.specs.declared.fault.Form.TheVariants.{Report}
use Rattle.codes.specs.declared.fault.Why.{Why}
use Rattle.codes.specs.declared.fault.Why.TheVariants.{NotTime, BadPeriod}
use Rattle.desk_time.specs.Digits.{pair}
use Rattle.desk_time.specs.Limits.{first_moment, last_moment, IsMoment}
use Rattle.desk_time.specs.Moments.{in_reach, at_time, is_time, day_named, resolved}
use Rattle.desk_time.specs.declared.moments.BadDay.{BadDay}
use Rattle.desk_time.specs.declared.moments.BadDay.TheVariants.{BadTime, OutOfReach}
use Rattle.weather_reports.specs.MetarReading.{is_cor, is_nil, is_speci, after_word, after_words, body_of, number_of, nil_report, with_stretch, after_time, observed_at, after_station, at_station, from_station, reading}
use Rattle.weather_reports.specs.declared.metar.Metar.{Metar}
use Rattle.desk_time.proofs.Chains.{bind_any}

-- on either side of a test
pub either_ok : {A E : Type 0} (b : Bool) (r q : Result A E) (P : A → Type 0) → IfOk r P → IfOk q P → IfOk (cond b r q) P
either_ok true r q P one two = one
either_ok false r q P one two = two

-- what holds of an answer that is none of the faults
pub ok_has : {A E : Type 0} (r : Result A E) (x : A) (P : A → Type 0) → r ≡ Ok x → IfOk r P → P x
ok_has r x P e held = subst (λ q. IfOk q P) e held

-- ---- the moments of groups

reached_by : (at : ℕ) (b : Bool) → (nat_le first_moment at && nat_le at last_moment) ≡ b → IfOk (cond b (Ok at) (Err OutOfReach)) IsMoment
reached_by at true e = let parts = and_parts (nat_le first_moment at) (nat_le at last_moment) e in (leb-true first_moment at parts.0, leb-true at last_moment parts.1)
reached_by at false e = tt

reached : (at : ℕ) → IfOk (in_reach at) IsMoment
reached at = reached_by at (nat_le first_moment at && nat_le at last_moment) refl

day_within : (o : Option ℕ) (hour minute : ℕ) → IfOk (at_time o hour minute) IsMoment
day_within None hour minute = tt
day_within (Some day) hour minute = reached (1440 * day + 60 * hour + minute)

resolved_within : (first_day day hour minute : ℕ) → IfOk (resolved first_day day hour minute) IsMoment
resolved_within first_day day hour minute =
    either_ok (is_time day hour minute) (at_time (day_named 5 first_day day) hour minute) (Err BadTime) IsMoment (day_within (day_named 5 first_day day) hour minute) tt

abbrev IfReached : Result ℕ BadDay → Type 0
IfReached r = IfOk r IsMoment

written_within : (digits : List ℕ) (first_day : ℕ) → IfSome (written_moment digits first_day) IfReached
written_within [] first_day = tt
written_within (a ∷ []) first_day = tt
written_within (a ∷ b ∷ []) first_day = tt
written_within (a ∷ b ∷ c ∷ []) first_day = tt
written_within (a ∷ b ∷ c ∷ d ∷ []) first_day = tt
written_within (a ∷ b ∷ c ∷ d ∷ e ∷ []) first_day = tt
written_within (a ∷ b ∷ c ∷ d ∷ e ∷ f ∷ []) first_day =
    bind_any (pair a b) _ IfReached (λ day. bind_any (pair c d) _ IfReached (λ hour. bind_any (pair e f) _ IfReached (λ minute. resolved_within first_day day hour minute)))
written_within (a ∷ b ∷ c ∷ d ∷ e ∷ f ∷ g ∷ more) first_day = tt

or_within : (miss : Why) (o : Option (Result ℕ BadDay)) → IfSome o IfReached → IfOk (moment_or miss o) IsMoment
or_within miss None within = tt
or_within miss (Some (Ok at)) within = within
or_within miss (Some (Err BadTime)) within = tt
or_within miss (Some (Err OutOfReach)) within = tt

pub time_within : (g : List ℕ) (first_day : ℕ) → IfOk (time_of g first_day) IsMoment
unfolding time_of
time_within [] first_day = tt
time_within (a ∷ []) first_day = tt
time_within (a ∷ b ∷ []) first_day = tt
time_within (a ∷ b ∷ c ∷ []) first_day = tt
time_within (a ∷ b ∷ c ∷ d ∷ []) first_day = tt
time_within (a ∷ b ∷ c ∷ d ∷ e ∷ []) first_day = tt
time_within (a ∷ b ∷ c ∷ d ∷ e ∷ f ∷ []) first_day = tt
time_within (a ∷ b ∷ c ∷ d ∷ e ∷ f ∷ z ∷ []) first_day =
    either_ok (z == 90) (moment_or NotTime (written_moment (a ∷ b ∷ c ∷ d ∷ e ∷ f ∷ []) first_day)) (Err NotTime) IsMoment
    (or_within NotTime (written_moment (a ∷ b ∷ c ∷ d ∷ e ∷ f ∷ []) first_day) (written_within (a ∷ b ∷ c ∷ d ∷ e ∷ f ∷ []) first_day)) tt
time_within (a ∷ b ∷ c ∷ d ∷ e ∷ f ∷ z ∷ y ∷ more) first_day = tt

pub end_within : (digits : List ℕ) (first_day : ℕ) → IfOk (end_of digits first_day) IsMoment
end_within digits first_day = or_within BadPeriod (written_moment digits first_day) (written_within digits first_day)

-- both ends of a period
abbrev pub AreMoments : ℕ × ℕ → Type 0
AreMoments p = IsMoment p.0 × IsMoment p.1

ends_within : (r q : Result ℕ Why) → IfOk r IsMoment → IfOk q IsMoment → IfOk (ends r q) AreMoments
ends_within (Err why) q one two = tt
ends_within (Ok from) (Err why) one two = tt
ends_within (Ok from) (Ok to) one two = either_ok (nat_lt from to) (Ok (from, to)) (Err BadPeriod) AreMoments (one, two) tt

pub period_within : (g : List ℕ) (first_day : ℕ) → IfOk (period_of g first_day) AreMoments
unfolding period_of
period_within [] first_day = tt
period_within (a ∷ []) first_day = tt
period_within (a ∷ b ∷ []) first_day = tt
period_within (a ∷ b ∷ c ∷ []) first_day = tt
period_within (a ∷ b ∷ c ∷ d ∷ []) first_day = tt
period_within (a ∷ b ∷ c ∷ d ∷ s ∷ []) first_day = tt
period_within (a ∷ b ∷ c ∷ d ∷ s ∷ e ∷ []) first_day = tt
period_within (a ∷ b ∷ c ∷ d ∷ s ∷ e ∷ f ∷ []) first_day = tt
period_within (a ∷ b ∷ c ∷ d ∷ s ∷ e ∷ f ∷ g ∷ []) first_day = tt
period_within (a ∷ b ∷ c ∷ d ∷ s ∷ e ∷ f ∷ g ∷ h ∷ []) first_day =
    either_ok (is_period (a ∷ b ∷ c ∷ d ∷ s ∷ e ∷ f ∷ g ∷ h ∷ []))
    (ends (end_of (a ∷ b ∷ c ∷ d ∷ 48 ∷ 48 ∷ []) first_day) (end_of (e ∷ f ∷ g ∷ h ∷ 48 ∷ 48 ∷ []) first_day)) (Err BadPeriod) AreMoments
    (ends_within (end_of (a ∷ b ∷ c ∷ d ∷ 48 ∷ 48 ∷ []) first_day) (end_of (e ∷ f ∷ g ∷ h ∷ 48 ∷ 48 ∷ []) first_day)
    (end_within (a ∷ b ∷ c ∷ d ∷ 48 ∷ 48 ∷ []) first_day) (end_within (e ∷ f ∷ g ∷ h ∷ 48 ∷ 48 ∷ []) first_day)) tt
period_within (a ∷ b ∷ c ∷ d ∷ s ∷ e ∷ f ∷ g ∷ h ∷ i ∷ more) first_day = tt

-- ---- the moment of a METAR or SPECI

abbrev pub HasObserved : Metar → Type 0
HasObserved m = IsMoment m.observed

stretch_observed : (h : _) (body : List (List ℕ)) (r : Result Stretch BadReport) → HasObserved (nil_report h) → IfOk (with_stretch h body r) HasObserved
stretch_observed h body (Err bad) is = tt
stretch_observed h body (Ok stretch) is = is

after_observed : (count : ℕ) (rest : List (List ℕ)) (h : _) → HasObserved (nil_report h) → IfOk (after_time count rest h) HasObserved
after_observed count rest h is =
    either_ok (is_nil (first_of rest)) (Ok (nil_report h)) (with_stretch h (body_of rest) (stretch_of Report (number_of count rest) (body_of rest))) HasObserved
    is (stretch_observed h (body_of rest) (stretch_of Report (number_of count rest) (body_of rest)) is)

time_observed : (count : ℕ) (at rest : List (List ℕ)) (special corrected : Bool) (station : Station) (r : Result ℕ Why) → IfOk r IsMoment
    → IfOk (observed_at count at rest special corrected station r) HasObserved
time_observed count at rest special corrected station (Err why) is = tt
time_observed count at rest special corrected station (Ok observed) is =
    after_observed count rest (record { special = special; corrected = corrected; station = station; observed = observed }) is

station_observed : (count : ℕ) (gs : List (List ℕ)) (special corrected : Bool) (station : Station) (first_day : ℕ) → IfOk (after_station count gs special corrected station first_day) HasObserved
station_observed count [] special corrected station first_day = tt
station_observed count (t ∷ rest) special corrected station first_day = time_observed count (t ∷ rest) rest special corrected station (time_of t first_day) (time_within t first_day)

named_observed : (count : ℕ) (at rest : List (List ℕ)) (special corrected : Bool) (o : Option Station) (first_day : ℕ) → IfOk (at_station count at rest special corrected o first_day) HasObserved
named_observed count at rest special corrected None first_day = tt
named_observed count at rest special corrected (Some station) first_day = station_observed count rest special corrected station first_day

groups_observed : (count : ℕ) (gs : List (List ℕ)) (special corrected : Bool) (first_day : ℕ) → IfOk (from_station count gs special corrected first_day) HasObserved
groups_observed count [] special corrected first_day = tt
groups_observed count (g ∷ gs) special corrected first_day = named_observed count (g ∷ gs) gs special corrected (station_of g) first_day

-- what is read of a METAR or SPECI was observed at such a moment
pub observed_within : (gs : List (List ℕ)) (receipt : ℕ) → IfOk (reading gs receipt) HasObserved
unfolding reading
observed_within gs receipt = groups_observed (length gs) (after_words gs) (is_speci (first_of gs)) (is_cor (first_of (after_word gs))) (receipt / 1440 - 3)
