-- What is read of a METAR or SPECI is what its groups say.
use Rattle.std.proofs.Common.{◌≡◌, ◌↔◌, inl, inr, ℕ, ◌+◌, ◌-◌, ◌/◌, ◌||◌, Bool, true, false, cond, List, [], ◌∷◌, ◌++◌, length, take, Option, None, Some, Result, Ok, Err, All, codes, bytes_eq, refl, ap, sym, ◌∙◌, subst, add-one, arith}
use Rattle.std.proofs.lemmas.Bool.{or_cases, or_parts, cond-false, false_from_ne_true}
use Rattle.std.proofs.lemmas.Bool.Decides.{Decides-or, same_from_decides}
use Rattle.std.proofs.lemmas.List.Elements.{All-nil, All-cons, All-head, All-tail}
use Rattle.desk_io.specs.Station.{is_station}
use Rattle.codes.specs.Groups.{first_of}
use Rattle.codes.specs.Moment.{time_of}
use Rattle.codes.specs.Cond.{stretch_of, stretch_with, cond_of, cond_unless, first_fault, shape_fault, named_cond}
use Rattle.codes.specs.declared.cond.Cond.{Cond}
use Rattle.codes.specs.declared.cond.Stretch.{Stretch}
use Rattle.codes.specs.Class.{unread_count}
use Rattle.codes.specs.declared.fault.Why.{Why}
use Rattle.codes.specs.declared.fault.BadReport.{BadReport}
use Rattle.codes.specs.declared.fault.Form.TheVariants.{Report}
use Rattle.codes.proofs.WordLaws.{has_decides}
use Rattle.codes.proofs.ShapedLaws.{each_is_shaped}
use Rattle.weather_reports.specs.declared.metar.Metar.{Metar}
use Rattle.weather_reports.specs.declared.metar.Head.{Head}
use Rattle.weather_reports.specs.MetarReading.{is_speci, is_cor, is_nil, after, after_word, after_words, is_report_word, ends_body, body_length, body_of, has, number_of, nil_report, report_with, with_stretch, after_time, observed_at, after_station, at_station, from_station, reading}
use Rattle.weather_reports.specs.MetarReport as report
use Rattle.weather_reports.specs.MetarReport.{IsReportWord, unnamed, metar, speci, IsCorrection, uncorrected, corrected, EndsBody, remarks, no_change, temporary, becoming, FollowsBody, IsBodyOf, SaysBody, SaysNone, SaysAfterTime, ReadsMetar}
use Rattle.desk_io.proofs.Bytes.{same_bytes}
use Rattle.codes.proofs.LengthLaws.{station_length}

-- the words in front

record Front (groups rest : List (List ℕ)) (special : Bool) : Type 0 where
  word : List (List ℕ)
  is : IsReportWord word special
  split : groups ≡ word ++ rest

front_at : (g : List ℕ) (gs : List (List ℕ)) (plain special : Bool) → bytes_eq g (codes "METAR") ≡ plain → is_speci g ≡ special
    → Front (g ∷ gs) (cond (plain || special) gs (g ∷ gs)) special
front_at g gs true true e f = record { word = codes "SPECI" ∷ []; is = speci; split = ap (λ w. w ∷ gs) (same_bytes g (codes "SPECI") f) }
front_at g gs true false e f = record { word = codes "METAR" ∷ []; is = metar; split = ap (λ w. w ∷ gs) (same_bytes g (codes "METAR") e) }
front_at g gs false true e f = record { word = codes "SPECI" ∷ []; is = speci; split = ap (λ w. w ∷ gs) (same_bytes g (codes "SPECI") f) }
front_at g gs false false e f = record { word = []; is = unnamed; split = refl }

front : (groups : List (List ℕ)) → Front groups (after_word groups) (is_speci (first_of groups))
front [] = record { word = []; is = unnamed; split = refl }
front (g ∷ gs) = front_at g gs (bytes_eq g (codes "METAR")) (is_speci g) refl refl

record Corrects (groups rest : List (List ℕ)) (in_front : Bool) : Type 0 where
  word : List (List ℕ)
  is : IsCorrection word in_front
  split : groups ≡ word ++ rest

corrects_at : (g : List ℕ) (gs : List (List ℕ)) (in_front : Bool) → is_cor g ≡ in_front → Corrects (g ∷ gs) (cond in_front gs (g ∷ gs)) in_front
corrects_at g gs true e = record { word = codes "COR" ∷ []; is = corrected; split = ap (λ w. w ∷ gs) (same_bytes g (codes "COR") e) }
corrects_at g gs false e = record { word = []; is = uncorrected; split = refl }

corrects : (groups : List (List ℕ)) → Corrects groups (after is_cor groups) (is_cor (first_of groups))
corrects [] = record { word = []; is = uncorrected; split = refl }
corrects (g ∷ gs) = corrects_at g gs (is_cor g) refl

-- the body

ending : (g : List ℕ) → ends_body g ≡ true → EndsBody g
ending g e =
    elim (or_cases (bytes_eq g (codes "RMK") || bytes_eq g (codes "NOSIG") || bytes_eq g (codes "TEMPO")) (bytes_eq g (codes "BECMG")) e) [
      | inl first ↦ elim (or_cases (bytes_eq g (codes "RMK") || bytes_eq g (codes "NOSIG")) (bytes_eq g (codes "TEMPO")) first) [
        | inl second ↦ elim (or_cases (bytes_eq g (codes "RMK")) (bytes_eq g (codes "NOSIG")) second) [
          | inl is ↦ subst (λ w. EndsBody w) (sym (same_bytes g (codes "RMK") is)) remarks
          | inr is ↦ subst (λ w. EndsBody w) (sym (same_bytes g (codes "NOSIG") is)) no_change
        ]
        | inr is ↦ subst (λ w. EndsBody w) (sym (same_bytes g (codes "TEMPO") is)) temporary
      ]
      | inr is ↦ subst (λ w. EndsBody w) (sym (same_bytes g (codes "BECMG") is)) becoming
    ]

is_ending : (g : List ℕ) → EndsBody g → ends_body g ≡ true
is_ending _ remarks = refl
is_ending _ no_change = refl
is_ending _ temporary = refl
is_ending _ becoming = refl

going_on : (g : List ℕ) → ends_body g ≡ false → EndsBody g → ⊥
going_on g e is = let ends = is_ending g is in cc

body_step : (ends : Bool) (g : List ℕ) (gs : List (List ℕ)) → ends_body g ≡ ends → IsBodyOf gs (body_of gs)
    → IsBodyOf (g ∷ gs) (take (cond ends 0 (body_length gs + 1)) (g ∷ gs))
body_step true g gs e is = record { rest = g ∷ gs; split = refl; goes_on = All-nil (λ w. EndsBody w → ⊥); ends = report.end (ending g e) gs }
body_step false g gs e is = rw add-one (record {
  rest = is.rest;
  split = ap (λ all. g ∷ all) is.split;
  goes_on = All-cons (λ w. EndsBody w → ⊥) g (body_of gs) (going_on g e) is.goes_on;
  ends = is.ends;
})

body_is : (groups : List (List ℕ)) → IsBodyOf groups (body_of groups)
body_is [] = record { rest = []; split = refl; goes_on = All-nil (λ w. EndsBody w → ⊥); ends = report.nothing }
body_is (g ∷ gs) = body_step (ends_body g) g gs refl (body_is gs)

-- the condition of the body

record Named (groups : List (List ℕ)) (stretch : Stretch) : Type 0 where
  shaped : All (λ g. shape_fault Report g ≡ None) groups
  named : stretch.cond ≡ named_cond groups
  counted : stretch.unread ≡ unread_count groups

abbrev stretch_by : List (List ℕ) → Cond → Stretch
stretch_by groups cond = record { cond = cond; unread = unread_count groups }

named_unless : (n : ℕ) (groups : List (List ℕ)) (fault : Option BadReport) (stretch : Stretch) → first_fault Report n groups ≡ fault
    → stretch_with (cond_unless fault groups) (unread_count groups) ≡ Ok stretch → Named groups stretch
named_unless n groups None stretch e f =
    let same : stretch_by groups (named_cond groups) ≡ stretch = cc in
    subst (λ s. Named groups s) same (record { shaped = each_is_shaped Report n groups e; named = refl; counted = refl })
named_unless n groups (Some bad) stretch e f = absurd cc

stretch_named : (n : ℕ) (groups : List (List ℕ)) (stretch : Stretch) → stretch_of Report n groups ≡ Ok stretch → Named groups stretch
unfolding stretch_of cond_of
stretch_named n groups stretch e = named_unless n groups (first_fault Report n groups) stretch refl e

-- what stands after the time

record Says (rest : List (List ℕ)) (head : Head) (m : Metar) : Type 0 where
  says : SaysAfterTime rest head.corrected m
  special : m.special ≡ head.special
  station : m.station ≡ head.station
  observed : m.observed ≡ head.observed

says_none : (head : Head) (rest : List (List ℕ)) → is_nil (first_of rest) ≡ true → Says rest head (nil_report head)
says_none head [] e = absurd cc
says_none head (g ∷ gs) e =
    let none : SaysNone head.corrected (nil_report head) = record { is_not_there = refl; names_no_ceiling = refl; names_no_visibility = refl; corrects = refl; is_not_automatic = refl; counts_none = refl } in
    let nil = sym (same_bytes g (codes "NIL") e) in
    record { says = subst (λ w. SaysAfterTime (w ∷ gs) head.corrected (nil_report head)) nil (report.none none); special = refl; station = refl; observed = refl }

not_nil : (rest : List (List ℕ)) → is_nil (first_of rest) ≡ false → (more : List (List ℕ)) → rest ≡ codes "NIL" ∷ more → ⊥
not_nil rest e more f = let nil : is_nil (first_of rest) ≡ true = ap (λ gs. is_nil (first_of gs)) f in cc

says_body : (head : Head) (rest : List (List ℕ)) (stretch : Stretch) → is_nil (first_of rest) ≡ false → Named (body_of rest) stretch → Says rest head (report_with head (body_of rest) stretch)
says_body head rest stretch e is = record {
  says = report.some (not_nil rest e) (body_is rest) (record {
    is_there = refl;
    shaped = is.shaped;
    names = is.named;
    corrects = Decides-or head.corrected (has (codes "COR") (body_of rest)) ((λ h. h), (λ h. h)) (has_decides (codes "COR") (body_of rest));
    is_automatic = has_decides (codes "AUTO") (body_of rest);
    counts = is.counted;
  });
  special = refl;
  station = refl;
  observed = refl;
}

says_with : (head : Head) (rest : List (List ℕ)) (n : ℕ) (read : Result Stretch BadReport) (m : Metar)
    → stretch_of Report n (body_of rest) ≡ read → is_nil (first_of rest) ≡ false → with_stretch head (body_of rest) read ≡ Ok m → Says rest head m
says_with head rest n (Err bad) m c e f = absurd cc
says_with head rest n (Ok stretch) m c e f =
    let same : report_with head (body_of rest) stretch ≡ m = cc in
    subst (λ r. Says rest head r) same (says_body head rest stretch e (stretch_named n (body_of rest) stretch c))

says_if : (count : ℕ) (rest : List (List ℕ)) (head : Head) (nil : Bool) (m : Metar) → is_nil (first_of rest) ≡ nil
    → cond nil (Ok (nil_report head)) (with_stretch head (body_of rest) (stretch_of Report (number_of count rest) (body_of rest))) ≡ Ok m → Says rest head m
says_if count rest head true m e f = let same : nil_report head ≡ m = cc in subst (λ r. Says rest head r) same (says_none head rest e)
says_if count rest head false m e f = says_with head rest (number_of count rest) (stretch_of Report (number_of count rest) (body_of rest)) m refl e f

says : (count : ℕ) (rest : List (List ℕ)) (head : Head) (m : Metar) → after_time count rest head ≡ Ok m → Says rest head m
says count rest head m e = says_if count rest head (is_nil (first_of rest)) m refl e

-- the station and the time

record Stationed (groups : List (List ℕ)) (special in_front : Bool) (first_day : ℕ) (m : Metar) : Type 0 where
  time : List ℕ
  rest : List (List ℕ)
  split : groups ≡ m.station ∷ time ∷ rest
  is_special : m.special ≡ special
  station : is_station m.station ≡ true
  observed : time_of time first_day ≡ Ok m.observed
  says : SaysAfterTime rest in_front m

timed : (count : ℕ) (station time : List ℕ) (rest : List (List ℕ)) (special in_front : Bool) (first_day : ℕ) (read : Result ℕ Why) (m : Metar)
    → is_station station ≡ true → time_of time first_day ≡ read → observed_at count (time ∷ rest) rest special in_front station read ≡ Ok m
    → Stationed (station ∷ time ∷ rest) special in_front first_day m
timed count station time rest special in_front first_day (Err why) m is t e = absurd cc
timed count station time rest special in_front first_day (Ok observed) m is t e =
    let all = says count rest (record { special = special; corrected = in_front; station = station; observed = observed }) m e in
    record {
      time = time;
      rest = rest;
      split = ap (λ s. s ∷ time ∷ rest) (sym all.station);
      is_special = all.special;
      station = subst (λ s. is_station s ≡ true) (sym all.station) is;
      observed = t ∙ ap (λ n. Ok n) (sym all.observed);
      says = all.says;
    }

stationed_after : (count : ℕ) (station : List ℕ) (rest : List (List ℕ)) (special in_front : Bool) (first_day : ℕ) (m : Metar)
    → is_station station ≡ true → after_station count rest special in_front station first_day ≡ Ok m → Stationed (station ∷ rest) special in_front first_day m
stationed_after count station [] special in_front first_day m is e = absurd cc
stationed_after count station (time ∷ rest) special in_front first_day m is e = timed count station time rest special in_front first_day (time_of time first_day) m is refl e

stationed_if : (count : ℕ) (group : List ℕ) (rest : List (List ℕ)) (special in_front named : Bool) (first_day : ℕ) (m : Metar)
    → is_station group ≡ named → at_station count (group ∷ rest) rest special in_front (cond named (Some group) None) first_day ≡ Ok m
    → Stationed (group ∷ rest) special in_front first_day m
stationed_if count group rest special in_front true first_day m is e = stationed_after count group rest special in_front first_day m is e
stationed_if count group rest special in_front false first_day m is e = absurd cc

stationed : (count : ℕ) (groups : List (List ℕ)) (special in_front : Bool) (first_day : ℕ) (m : Metar)
    → from_station count groups special in_front first_day ≡ Ok m → Stationed groups special in_front first_day m
stationed count [] special in_front first_day m e = absurd cc
stationed count (group ∷ rest) special in_front first_day m e = stationed_if count group rest special in_front (is_station group) first_day m refl e

pub reads : (groups : List (List ℕ)) (receipt : ℕ) (m : Metar) → reading groups receipt ≡ Ok m → ReadsMetar groups receipt m
unfolding reading
reads groups receipt m e =
    let first = front groups in
    let second = corrects (after_word groups) in
    let third = stationed (length groups) (after_words groups) (is_speci (first_of groups)) (is_cor (first_of (after_word groups))) (receipt / 1440 - 3) m e in
    record {
      word = first.word;
      correction = second.word;
      in_front = is_cor (first_of (after_word groups));
      time = third.time;
      rest = third.rest;
      split = first.split ∙ ap (λ gs. first.word ++ gs) (second.split ∙ ap (λ gs. second.word ++ gs) third.split);
      is_special = subst (λ b. IsReportWord first.word b) (sym third.is_special) first.is;
      is_correction = second.is;
      has_station = third.station;
      observed = third.observed;
      says = third.says;
    }

-- and what groups say is read

after_none : (p : List ℕ → Bool) (groups : List (List ℕ)) → p (first_of groups) ≡ false → after p groups ≡ groups
after_none p [] e = refl
after_none p (g ∷ gs) e = cond-false (p g) gs (g ∷ gs) e

front_read : (word tail : List (List ℕ)) (special : Bool) → IsReportWord word special → is_report_word (first_of tail) ≡ false
    → (after_word (word ++ tail) ≡ tail) × (is_speci (first_of (word ++ tail)) ≡ special)
front_read _ tail _ unnamed e = (after_none is_report_word tail e, (or_parts (bytes_eq (first_of tail) (codes "METAR")) (is_speci (first_of tail)) e).1)
front_read _ tail _ metar e = (refl, refl)
front_read _ tail _ speci e = (refl, refl)

correction_read : (word tail : List (List ℕ)) (in_front : Bool) → IsCorrection word in_front → is_cor (first_of tail) ≡ false
    → (after is_cor (word ++ tail) ≡ tail) × (is_cor (first_of (word ++ tail)) ≡ in_front)
correction_read _ tail _ uncorrected e = (after_none is_cor tail e, e)
correction_read _ tail _ corrected e = (refl, refl)

correction_is_no_word : (word tail : List (List ℕ)) (in_front : Bool) → IsCorrection word in_front → is_report_word (first_of tail) ≡ false → is_report_word (first_of (word ++ tail)) ≡ false
correction_is_no_word _ tail _ uncorrected e = e
correction_is_no_word _ tail _ corrected e = refl

no_word : (station word : List ℕ) → is_station station ≡ true → (length word ≡ 4 → ⊥) → bytes_eq station word ≡ false
no_word station word is other =
    false_from_ne_true (bytes_eq station word) (λ e. other (ap length (sym (same_bytes station word e)) ∙ station_length station is))

no_report_word : (station : List ℕ) → is_station station ≡ true → is_report_word station ≡ false
no_report_word station is =
    rw (no_word station (codes "METAR") is (λ e. omega arith), no_word station (codes "SPECI") is (λ e. omega arith)) refl

body_found : (body rest : List (List ℕ)) → All (λ g. EndsBody g → ⊥) body → FollowsBody rest → body_of (body ++ rest) ≡ body
body_found [] _ on report.nothing = refl
body_found [] _ on (report.end {word} is more) = rw (is_ending word is) refl
body_found (g ∷ body) rest on follows =
    let here = false_from_ne_true (ends_body g) (λ e. All-head (λ h. EndsBody h → ⊥) g body on (ending g e)) in
    rw (here, add-one) (ap (λ all. g ∷ all) (body_found body rest (All-tail (λ h. EndsBody h → ⊥) g body on) follows))

body_read : (groups body : List (List ℕ)) → IsBodyOf groups body → body_of groups ≡ body
body_read groups body is = ap body_of is.split ∙ body_found body is.rest is.goes_on is.ends

no_fault : (n : ℕ) (groups : List (List ℕ)) → All (λ g. shape_fault Report g ≡ None) groups → first_fault Report n groups ≡ None
no_fault n [] all = refl
no_fault n (g ∷ gs) all =
    rw (All-head (λ h. shape_fault Report h ≡ None) g gs all) (no_fault (n + 1) gs (All-tail (λ h. shape_fault Report h ≡ None) g gs all))

stretch_read : (n : ℕ) (groups : List (List ℕ)) → All (λ g. shape_fault Report g ≡ None) groups → stretch_of Report n groups ≡ Ok (stretch_by groups (named_cond groups))
unfolding stretch_of cond_of
stretch_read n groups all = rw (no_fault n groups all) refl

abbrev head_of : Bool → Metar → Head
head_of in_front m = record { special = m.special; corrected = in_front; station = m.station; observed = m.observed }

none_read : (in_front : Bool) (m : Metar) → SaysNone in_front m → nil_report (head_of in_front m) ≡ m
none_read in_front m is = λ i. record m {
  corrected = sym is.corrects i;
  auto = sym is.is_not_automatic i;
  nil = sym is.is_not_there i;
  cond = record m.cond { ceiling = sym is.names_no_ceiling i; vis = sym is.names_no_visibility i };
  unread = sym is.counts_none i;
}

body_report_read : (in_front : Bool) (body : List (List ℕ)) (m : Metar) → SaysBody body in_front m → report_with (head_of in_front m) body (stretch_by body (named_cond body)) ≡ m
body_report_read in_front body m is =
    let read = Decides-or in_front (has (codes "COR") body) ((λ h. h), (λ h. h)) (has_decides (codes "COR") body) in
    let corrects = same_from_decides (in_front || has (codes "COR") body) m.corrected read is.corrects in
    let auto = same_from_decides (has (codes "AUTO") body) m.auto (has_decides (codes "AUTO") body) is.is_automatic in
    λ i. record m { corrected = corrects i; auto = auto i; nil = sym is.is_there i; cond = sym is.names i; unread = sym is.counts i }

is_not_nil : (rest : List (List ℕ)) → ((more : List (List ℕ)) → rest ≡ codes "NIL" ∷ more → ⊥) → is_nil (first_of rest) ≡ false
is_not_nil [] other = refl
is_not_nil (g ∷ gs) other = false_from_ne_true (is_nil g) (λ e. other gs (ap (λ w. w ∷ gs) (same_bytes g (codes "NIL") e)))

after_time_read : (count : ℕ) (rest : List (List ℕ)) (in_front : Bool) (m : Metar) → SaysAfterTime rest in_front m → after_time count rest (head_of in_front m) ≡ Ok m
after_time_read count _ _ _ (report.none {in_front = in_front} {report = m} is) = ap Ok (none_read in_front m is)
after_time_read count _ _ _ (report.some {rest = rest} {body = body} {in_front = in_front} {report = m} other is what) =
    rw (is_not_nil rest other, body_read rest body is, stretch_read (number_of count rest) body what.shaped) (ap Ok (body_report_read in_front body m what))

read_from_station : (count : ℕ) (time : List ℕ) (rest : List (List ℕ)) (in_front : Bool) (first_day : ℕ) (m : Metar)
    → is_station m.station ≡ true → time_of time first_day ≡ Ok m.observed → SaysAfterTime rest in_front m
    → from_station count (m.station ∷ time ∷ rest) m.special in_front first_day ≡ Ok m
read_from_station count time rest in_front first_day m is t says = rw (is, t) (after_time_read count rest in_front m says)

read_split : (word correction : List (List ℕ)) (in_front : Bool) (time : List ℕ) (rest : List (List ℕ)) (receipt : ℕ) (m : Metar)
    → IsReportWord word m.special → IsCorrection correction in_front → is_station m.station ≡ true → time_of time (receipt / 1440 - 3) ≡ Ok m.observed → SaysAfterTime rest in_front m
    → reading (word ++ (correction ++ (m.station ∷ time ∷ rest))) receipt ≡ Ok m
unfolding reading
read_split word correction in_front time rest receipt m first second is t says =
    let plain = no_report_word m.station is in
    let one = front_read word (correction ++ (m.station ∷ time ∷ rest)) m.special first (correction_is_no_word correction (m.station ∷ time ∷ rest) in_front second plain) in
    let two = correction_read correction (m.station ∷ time ∷ rest) in_front second (no_word m.station (codes "COR") is (λ e. omega arith)) in
    rw (one.0, one.1, two.0, two.1) (read_from_station (length (word ++ (correction ++ (m.station ∷ time ∷ rest)))) time rest in_front (receipt / 1440 - 3) m is t says)

pub is_read : (groups : List (List ℕ)) (receipt : ℕ) (m : Metar) → ReadsMetar groups receipt m → reading groups receipt ≡ Ok m
is_read groups receipt m is =
    ap (λ gs. reading gs receipt) is.split
    ∙ read_split is.word is.correction is.in_front is.time is.rest receipt m is.is_special is.is_correction is.has_station is.observed is.says

pub reads_exactly : (groups : List (List ℕ)) (receipt : ℕ) (result : Result Metar BadReport) → result ≡ reading groups receipt → (m : Metar) → ReadsMetar groups receipt m ↔ (result ≡ Ok m)
reads_exactly groups receipt result e m = ((λ is. e ∙ is_read groups receipt m is), (λ f. reads groups receipt m (sym e ∙ f)))
