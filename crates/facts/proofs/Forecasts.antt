-- Each moment of a forecast lies from 2000 to 2099.
use Rattle.std.proofs.Common.{◌≡◌, ℕ, ◌-◌, ◌/◌, List, [], ◌∷◌, Ok, All, sym, subst}
use Rattle.std.specs.List.{AllByRecursion}
use Rattle.std.proofs.lemmas.List.Elements.{All-nil, All-from_recursion}
use Rattle.codes.specs.Moment.{time_of}
use Rattle.codes.specs.Period.{end_of, period_of}
use Rattle.facts.specs.Reading.{TafHasMoments}
use Rattle.facts.proofs.Moments.{ok_has, time_within, end_within, period_within, AreMoments}
use Rattle.weather_reports.specs.Forecast.{SaysChanges, nothing, remarks_follow, at, during, likely, likely_at_times, SaysAfterTime, none, cancelled, normal, SaysParts, ReadsTaf}
use Rattle.weather_reports.specs.Parts.{HasMoments}
use Rattle.desk_time.specs.Limits.{IsMoment}
use Rattle.weather_reports.specs.declared.forecast.Part.{Part}
use Rattle.weather_reports.specs.declared.forecast.Taf.{Taf}

-- ---- parts

part_within : (period : List ℕ) (first_day : ℕ) (part : Part) → period_of period first_day ≡ Ok (part.from, part.to) → HasMoments part
part_within period first_day part e =
    let both : AreMoments (part.from, part.to) = ok_has (period_of period first_day) (part.from, part.to) AreMoments e (period_within period first_day) in
    record { from = both.0; to = both.1 }

-- changes within a forecast that ends at a moment
changes_within : {first_day until : ℕ} {gs : List (List ℕ)} {parts : List Part} → SaysChanges first_day until gs parts → IsMoment until → AllByRecursion HasMoments parts
changes_within nothing last = tt
changes_within (remarks_follow rest) last = tt
changes_within (at {first_day = first_day} {digits = digits} {part = part} word start end says more) last =
    (record { from = ok_has (end_of digits first_day) part.from IsMoment start (end_within digits first_day); to = subst IsMoment (sym end) last }, changes_within more last)
changes_within (during {first_day = first_day} {period = period} {part = part} word ends says more) last = (part_within period first_day part ends, changes_within more last)
changes_within (likely {first_day = first_day} {period = period} {part = part} word ends says more) last = (part_within period first_day part ends, changes_within more last)
changes_within (likely_at_times {first_day = first_day} {period = period} {part = part} word ends says more) last = (part_within period first_day part ends, changes_within more last)

-- ---- the whole

validity_within : (group : List ℕ) (taf : Taf) → period_of group (taf.issued / 1440 - 1) ≡ Ok (taf.from, taf.to) → IsMoment taf.from × IsMoment taf.to
validity_within group taf e = ok_has (period_of group (taf.issued / 1440 - 1)) (taf.from, taf.to) AreMoments e (period_within group (taf.issued / 1440 - 1))

no_parts : (parts : List Part) → parts ≡ [] → All HasMoments parts
no_parts parts e = subst (All HasMoments) (sym e) (All-nil HasMoments)

parts_within : (gs : List (List ℕ)) (taf : Taf) → IsMoment taf.from → IsMoment taf.to → SaysParts gs taf → All HasMoments taf.parts
parts_within gs taf first last says =
    subst (All HasMoments) (sym says.parts)
    (All-from_recursion HasMoments (says.base ∷ says.changes)
    (record { from = subst IsMoment (sym says.from) first; to = subst IsMoment (sym says.to) last }, changes_within says.says_changes last))

after_within : {gs : List (List ℕ)} {taf : Taf} → SaysAfterTime gs taf → IsMoment taf.issued → TafHasMoments taf
after_within (none {taf = taf} says) issued = record {
  issued = issued;
  from = subst IsMoment (sym says.from) issued;
  to = subst IsMoment (sym says.to) issued;
  parts = no_parts taf.parts says.parts;
}
after_within (cancelled {validity = validity} {taf = taf} ends state parts) issued =
    let both = validity_within validity taf ends in record { issued = issued; from = both.0; to = both.1; parts = no_parts taf.parts parts }
after_within (normal {validity = validity} {rest = rest} {taf = taf} ends state goes_on says) issued =
    let both = validity_within validity taf ends in record { issued = issued; from = both.0; to = both.1; parts = parts_within rest taf both.0 both.1 says }

-- what is read of a TAF has such moments
pub forecast_within : (gs : List (List ℕ)) (receipt : ℕ) (taf : Taf) → ReadsTaf gs receipt taf → TafHasMoments taf
forecast_within gs receipt taf reads =
    after_within reads.says (ok_has (time_of reads.time (receipt / 1440 - 3)) taf.issued IsMoment reads.issued (time_within reads.time (receipt / 1440 - 3)))
