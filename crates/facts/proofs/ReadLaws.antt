-- What is read of a report has moments, and its canonical text is read as it is.
use Rattle.std.proofs.Common.{◌≡◌, ℕ, Bool, true, false, cond, List, length, Result, Ok, Err, codes, refl, ap, sym, ◌∙◌, arith, IfOk, nat_lt, le-ltb, ltb-false}
use Rattle.codes.specs.Answers.{too_long}
use Rattle.codes.specs.Groups.{groups_of, canonical, first_of}
use Rattle.codes.specs.declared.fault.BadReport.{BadReport}
use Rattle.codes.proofs.CanonicalLaws.{groups_are_groups, groups_of_canonical}
use Rattle.codes.proofs.LengthLaws.{length-canonical}
use Rattle.facts.specs.Reading.{observes, forecasts, is_forecast, read_as, reading, read_of, ReadHasMoments}
use Rattle.facts.specs.declared.report.Read.{Read}
use Rattle.facts.proofs.Moments.{ok_has, HasObserved, observed_within}
use Rattle.facts.proofs.Forecasts.{forecast_within}
use Rattle.weather_reports.specs.MetarReading as observation
use Rattle.weather_reports.specs.declared.metar.Metar.{Metar}
use Rattle.weather_reports.specs.TafReading as forecast
use Rattle.weather_reports.specs.declared.forecast.Taf.{Taf}
use Rattle.weather_reports.proofs.TafLaws.{reads}
use Rattle.desk_io.proofs.Bytes.{same_bytes}

-- ---- what is read has moments

observed_has : (r : Result Metar BadReport) (read : Read) → IfOk r HasObserved → observes r ≡ Ok read → ReadHasMoments read
observed_has (Ok metar) read is e = ok_has (observes (Ok metar)) read ReadHasMoments e is
observed_has (Err bad) read is e = absurd (cc)

forecast_has : (gs : List (List ℕ)) (receipt : ℕ) (r : Result Taf BadReport) (read : Read) → first_of gs ≡ codes "TAF" → forecast.reading gs receipt ≡ r
    → forecasts r ≡ Ok read → ReadHasMoments read
forecast_has gs receipt (Ok taf) read first is e = ok_has (forecasts (Ok taf)) read ReadHasMoments e (forecast_within gs receipt taf (reads gs receipt taf first is))
forecast_has gs receipt (Err bad) read first is e = absurd (cc)

read_has : (b : Bool) (gs : List (List ℕ)) (receipt : ℕ) (read : Read) → is_forecast gs ≡ b → read_as b gs receipt ≡ Ok read → ReadHasMoments read
read_has true gs receipt read is e = forecast_has gs receipt (forecast.reading gs receipt) read (same_bytes (first_of gs) (codes "TAF") is) refl e
read_has false gs receipt read is e = observed_has (observation.reading gs receipt) read (observed_within gs receipt) e

groups_has : (gs : List (List ℕ)) (receipt : ℕ) (read : Read) → reading gs receipt ≡ Ok read → ReadHasMoments read
unfolding reading
groups_has gs receipt read e = read_has (is_forecast gs) gs receipt read refl e

text_by : (long : Bool) (text : List ℕ) (receipt : ℕ) (read : Read) → cond long (Err too_long) (reading (groups_of text) receipt) ≡ Ok read → ReadHasMoments read
text_by true text receipt read e = absurd (cc)
text_by false text receipt read e = groups_has (groups_of text) receipt read e

-- what is read of a text has moments
pub read_moments : (text : List ℕ) (receipt : ℕ) (read : Read) → read_of text receipt ≡ Ok read → ReadHasMoments read
unfolding read_of
read_moments text receipt read e = text_by (nat_lt 2048 (length text)) text receipt read e

-- ---- the canonical text is read as the text is

again_by : (long : Bool) (text : List ℕ) (receipt : ℕ) (read : Read) → nat_lt 2048 (length text) ≡ long → cond long (Err too_long) (reading (groups_of text) receipt) ≡ Ok read
    → cond (nat_lt 2048 (length (canonical (groups_of text)))) (Err too_long) (reading (groups_of (canonical (groups_of text))) receipt) ≡ Ok read
again_by true text receipt read long e = absurd (cc)
again_by false text receipt read long e =
    let fits = ltb-false 2048 (length text) long in
    let shorter = length-canonical text in
    let short : nat_lt 2048 (length (canonical (groups_of text))) ≡ false = le-ltb 2048 (length (canonical (groups_of text))) (omega (arith, fits, shorter)) in
    rw (short, groups_of_canonical (groups_of text) (groups_are_groups text)) e

read_again : (text : List ℕ) (receipt : ℕ) (read : Read) → read_of text receipt ≡ Ok read → read_of (canonical (groups_of text)) receipt ≡ Ok read
unfolding read_of
read_again text receipt read e = again_by (nat_lt 2048 (length text)) text receipt read refl e

pub same_canonical : (text received : List ℕ) → received ≡ canonical (groups_of text) → canonical (groups_of received) ≡ received
same_canonical text received e =
    ap (λ t. canonical (groups_of t)) e ∙ ap (λ gs. canonical gs) (groups_of_canonical (groups_of text) (groups_are_groups text)) ∙ sym e

pub same_reading : (text received : List ℕ) (at receipt : ℕ) (read : Read) → received ≡ canonical (groups_of text) → receipt ≡ at → read_of text at ≡ Ok read → read_of received receipt ≡ Ok read
same_reading text received at receipt read e f is = (λ i. read_of (e i) (f i)) ∙ read_again text at read is
