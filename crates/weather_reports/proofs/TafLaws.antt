-- What is read of a TAF is what its groups say.
use Rattle.std.proofs.Common.{◌≡◌, ℕ, zero, suc, ◌+◌, ◌-◌, ◌/◌, ◌≤◌, ◌==◌, ◌&&◌, ◌||◌, Bool, true, false, cond, nat_le, bytes_eq, codes, is_some, List, [], ◌∷◌, ◌++◌, length, take, drop, map, All, Contains, Decides, Option, None, Some, Result, Ok, Err, IfOk, refl, ap, sym, ◌∙◌, subst, arith}
use Rattle.std.specs.List.{position_or_len}
use Rattle.std.proofs.lemmas.List.{take-append-drop}
use Rattle.std.proofs.lemmas.Bool.{and_parts, ne_eqb, leb-true, false_from_ne_true}
use Rattle.std.proofs.lemmas.List.Elements.{All-nil, All-cons, All-head, All-tail}
use Rattle.std.proofs.lemmas.Bool.Decides.{same_from_decides}
use Rattle.std.proofs.Math.Seq.{take-append_seam, drop-append_seam}
use Rattle.codes.specs.Answers.{Answers}
use Rattle.codes.proofs.WordLaws.{has_decides}
use Rattle.desk_io.specs.Station.{is_station}
use Rattle.codes.specs.Groups.{first_of}
use Rattle.codes.specs.Moment.{time_of}
use Rattle.codes.specs.Shapes.{is_digit, are_digits}
use Rattle.codes.specs.Cond.{is_period, shape_fault, first_fault, cond_unless, cond_of, named_cond}
use Rattle.codes.specs.Period.{end_of, ends, period_of, numbered, period_due}
use Rattle.codes.specs.declared.cond.Cond.{Cond}
use Rattle.codes.specs.declared.fault.Why.{Why}
use Rattle.codes.specs.declared.fault.Why.TheVariants.{BadPeriod}
use Rattle.codes.specs.declared.fault.BadReport.{BadReport}
use Rattle.codes.specs.declared.fault.ReportFault.{ReportFault}
use Rattle.codes.specs.declared.fault.Form.TheVariants.{Forecast}
use Rattle.weather_reports.specs.declared.change.Change.{Change}
use Rattle.weather_reports.specs.declared.change.Change.TheVariants.{At, During, Chance, Misshaped}
use Rattle.weather_reports.specs.declared.forecast.Part.{Part}
use Rattle.weather_reports.specs.declared.forecast.PartKind.{PartKind}
use Rattle.weather_reports.specs.declared.forecast.PartKind.TheVariants.{Base, From, Prob}
use Rattle.weather_reports.specs.declared.forecast.Taf.{Taf}
use Rattle.weather_reports.specs.declared.forecast.TafState.TheVariants.{Normal, Nil, Cancelled}
use Rattle.weather_reports.specs.declared.reader.Head.{Head}
use Rattle.weather_reports.specs.Words.{is_amended, is_corrected, is_modifier, is_remarks, is_tempo, is_cancelled, is_nil, change_of, is_chance, change_after}
use Rattle.weather_reports.specs.Parts.{◌>>=◌, turns, noted, all_or_fault, ends_stretch, stretch, part_of, part_during, part_from, part_at, part_of_turn, parts_of}
use Rattle.weather_reports.specs.TafReading.{station_or_not, head_of, are_amended, are_corrected, forecast, with_parts, after_validity, after_time, after_station, after_modifiers, modifier_count, reading}
use Rattle.weather_reports.specs.Forecast as report
use Rattle.weather_reports.specs.Forecast.{IsModifier, EndsStretch, SaysPart, SaysChanges, SaysParts, SaysNone, SaysAfterTime, ReadsTaf}
use Rattle.weather_reports.proofs.ForecastLaws.{steps, inner, part_is, made, if_answered}
use Rattle.desk_io.proofs.Bytes.{same_bytes}
use Rattle.codes.proofs.ShapedLaws.{no_fault_or}
use Rattle.codes.proofs.LengthLaws.{station_length}

other_length : (group word : List ℕ) → (length group ≡ length word → ⊥) → bytes_eq group word ≡ false
other_length group word other = false_from_ne_true (bytes_eq group word) (λ e. other (ap length (same_bytes group word e)))

-- a period is no word

chosen : {A E : Type 0} (b : Bool) (r : Result A E) (why : E) (x : A) → cond b r (Err why) ≡ Ok x → b ≡ true
chosen true r why x e = refl
chosen false r why x e = absurd cc

is_there : (t : Bool) (x : ℕ) → is_some (cond t (Some x) None) ≡ true → t ≡ true
is_there true x e = refl
is_there false x e = absurd cc

no_letter : (a n : ℕ) → is_digit a ≡ true → 58 ≤ n → (a == n) ≡ false
no_letter a n e high =
    let within = and_parts (nat_le 48 a) (nat_le a 57) (is_there (nat_le 48 a && nat_le a 57) (a - 48) e) in
    let most = leb-true a 57 within.1 in
    ne_eqb a n (λ same. omega (arith, most, same, high))

record IsPlain (group : List ℕ) : Type 0 where
  no_remarks : is_remarks group ≡ false
  no_tempo : is_tempo group ≡ false
  no_nil : is_nil group ≡ false
  no_change : change_of group ≡ None

plain_digits : (a b c d s e f g h : ℕ) → is_digit a ≡ true → IsPlain (a ∷ b ∷ c ∷ d ∷ s ∷ e ∷ f ∷ g ∷ h ∷ [])
unfolding change_of
plain_digits a b c d s e f g h is =
    let group = a ∷ b ∷ c ∷ d ∷ s ∷ e ∷ f ∷ g ∷ h ∷ [] in
    let tempo : is_tempo group ≡ false = other_length group (codes "TEMPO") (λ l. omega (arith, l)) in
    let becoming : bytes_eq group (codes "BECMG") ≡ false = other_length group (codes "BECMG") (λ l. omega (arith, l)) in
    let likely : bytes_eq (a ∷ b ∷ c ∷ d ∷ []) (codes "PROB") ≡ false = rw (no_letter a 80 is (omega arith)) refl in
    record {
      no_remarks = other_length group (codes "RMK") (λ l. omega (arith, l));
      no_tempo = tempo;
      no_nil = other_length group (codes "NIL") (λ l. omega (arith, l));
      no_change = rw (no_letter a 70 is (omega arith), likely, becoming, tempo) refl;
    }

plain_if : (a b c d s e f g h : ℕ) → is_period (a ∷ b ∷ c ∷ d ∷ s ∷ e ∷ f ∷ g ∷ h ∷ []) ≡ true → IsPlain (a ∷ b ∷ c ∷ d ∷ s ∷ e ∷ f ∷ g ∷ h ∷ [])
plain_if a b c d s e f g h is =
    let one = and_parts ((s == 47) && are_digits (a ∷ b ∷ c ∷ d ∷ [])) (are_digits (e ∷ f ∷ g ∷ h ∷ [])) is in
    let two = and_parts (s == 47) (are_digits (a ∷ b ∷ c ∷ d ∷ [])) one.0 in
    let three = and_parts (is_digit a) (are_digits (b ∷ c ∷ d ∷ [])) two.1 in
    plain_digits a b c d s e f g h three.0

period_is_plain : (group : List ℕ) (first_day : ℕ) (period : ℕ × ℕ) → period_of group first_day ≡ Ok period → IsPlain group
unfolding period_of
period_is_plain [] first_day period is = absurd cc
period_is_plain (a ∷ []) first_day period is = absurd cc
period_is_plain (a ∷ b ∷ []) first_day period is = absurd cc
period_is_plain (a ∷ b ∷ c ∷ []) first_day period is = absurd cc
period_is_plain (a ∷ b ∷ c ∷ d ∷ []) first_day period is = absurd cc
period_is_plain (a ∷ b ∷ c ∷ d ∷ s ∷ []) first_day period is = absurd cc
period_is_plain (a ∷ b ∷ c ∷ d ∷ s ∷ e ∷ []) first_day period is = absurd cc
period_is_plain (a ∷ b ∷ c ∷ d ∷ s ∷ e ∷ f ∷ []) first_day period is = absurd cc
period_is_plain (a ∷ b ∷ c ∷ d ∷ s ∷ e ∷ f ∷ g ∷ []) first_day period is = absurd cc
period_is_plain (a ∷ b ∷ c ∷ d ∷ s ∷ e ∷ f ∷ g ∷ h ∷ []) first_day period is =
    plain_if a b c d s e f g h (chosen (is_period (a ∷ b ∷ c ∷ d ∷ s ∷ e ∷ f ∷ g ∷ h ∷ [])) (ends (end_of (a ∷ b ∷ c ∷ d ∷ 48 ∷ 48 ∷ []) first_day) (end_of (e ∷ f ∷ g ∷ h ∷ 48 ∷ 48 ∷ []) first_day)) BadPeriod period is)
period_is_plain (a ∷ b ∷ c ∷ d ∷ s ∷ e ∷ f ∷ g ∷ h ∷ i ∷ more) first_day period is = absurd cc

-- a stretch

or_true : (b : Bool) → (b || true) ≡ true
or_true true = refl
or_true false = refl

ending : (group : List ℕ) → EndsStretch group → ends_stretch group ≡ true
ending _ report.remarks = refl
ending group (report.change is) = rw is (or_true (is_remarks group))

one_more : (n : ℕ) → 1 + n ≡ suc n
one_more n = omega arith

stretch_on : (g : List ℕ) (gs : List (List ℕ)) → ends_stretch g ≡ false → stretch (g ∷ gs) ≡ g ∷ stretch gs
stretch_on g gs e = rw (e, one_more (position_or_len ends_stretch gs)) refl

stretch_end : (g : List ℕ) (gs : List (List ℕ)) → ends_stretch g ≡ true → stretch (g ∷ gs) ≡ []
stretch_end g gs e = rw e refl

abbrev GoesOn : List (List ℕ) → Type 0
GoesOn gs = All (λ g. EndsStretch g → ⊥) gs

going_on : (g : List ℕ) → ends_stretch g ≡ false → EndsStretch g → ⊥
going_on g e is = let there = ending g is in cc

goes_step : (b : Bool) (g : List ℕ) (gs : List (List ℕ)) → ends_stretch g ≡ b → GoesOn (stretch gs) → GoesOn (stretch (g ∷ gs))
goes_step true g gs e on = subst (λ s. GoesOn s) (sym (stretch_end g gs e)) (All-nil (λ h. EndsStretch h → ⊥))
goes_step false g gs e on = subst (λ s. GoesOn s) (sym (stretch_on g gs e)) (All-cons (λ h. EndsStretch h → ⊥) g (stretch gs) (going_on g e) on)

goes_on : (gs : List (List ℕ)) → GoesOn (stretch gs)
goes_on [] = All-nil (λ h. EndsStretch h → ⊥)
goes_on (g ∷ gs) = goes_step (ends_stretch g) g gs refl (goes_on gs)

-- the condition of a part

shaped : (n : ℕ) (groups : List (List ℕ)) → first_fault Forecast n groups ≡ None → All (λ g. shape_fault Forecast g ≡ None) groups
shaped n [] e = All-nil (λ g. shape_fault Forecast g ≡ None)
shaped n (g ∷ gs) e =
    let each = no_fault_or (shape_fault Forecast g) n (first_fault Forecast (n + 1) gs) e in
    All-cons (λ h. shape_fault Forecast h ≡ None) g gs each.0 (shaped (n + 1) gs each.1)

abbrev Named : List (List ℕ) → Cond → Type 0
Named groups cond = All (λ g. shape_fault Forecast g ≡ None) groups × (cond ≡ named_cond groups)

named_unless : (n : ℕ) (groups : List (List ℕ)) (fault : Option BadReport) (cond : Cond) → first_fault Forecast n groups ≡ fault → cond_unless fault groups ≡ Ok cond → Named groups cond
named_unless n groups None cond e f = (shaped n groups e, sym (inner f))
named_unless n groups (Some bad) cond e f = absurd cc

named : (n : ℕ) (groups : List (List ℕ)) (cond : Cond) → cond_of Forecast n groups ≡ Ok cond → Named groups cond
unfolding cond_of
named n groups cond e = named_unless n groups (first_fault Forecast n groups) cond refl e

part_says : (kind : PartKind) (from to n : ℕ) (gs : List (List ℕ)) (part : Part) → part_of kind from to n gs ≡ Ok part → SaysPart kind (stretch gs) part
part_says kind from to n gs part e =
    let s = steps (cond_of Forecast n (stretch gs)) (λ (cond : Cond). Ok (made kind from to cond)) part e in
    let is = named n (stretch gs) s.value s.is in
    subst (λ p. SaysPart kind (stretch gs) p) (inner s.next) (record { kind = refl; goes_on = goes_on gs; shaped = is.0; names = is.1 })

-- the changes

numbered_is : {A : Type 0} (n : ℕ) (r : Result A Why) (x : A) → numbered n r ≡ Ok x → r ≡ Ok x
numbered_is n (Ok y) x e = ap (λ z. Ok z) (inner e)
numbered_is n (Err why) x e = absurd cc

record Rest (first_day until : ℕ) (gs : List (List ℕ)) (parts : List Part) : Type 0 where
  rest : List (List ℕ)
  split : gs ≡ stretch gs ++ rest
  says : SaysChanges first_day until rest parts

abbrev Later : ℕ → ℕ → ℕ → Type 0
Later k first_day until =
    (before : List ℕ) (n : ℕ) (gs : List (List ℕ)) (parts : List Part) → length gs ≤ k → is_chance (change_of before) ≡ false
    → parts_of before n gs first_day until ≡ Ok parts → Rest first_day until gs parts

and_test : {A : Type 0} (a b : Bool) (x y : A) → b ≡ false → cond (a && b) x y ≡ y
and_test true b x y e = rw e refl
and_test false b x y e = refl

turns_at : (before g : List ℕ) (n : ℕ) (gs : List (List ℕ)) → is_remarks g ≡ false → is_chance (change_of before) ≡ false
    → turns before n (g ∷ gs) ≡ noted (change_of g) n gs (turns g (n + 1) gs)
turns_at before g n gs plain e =
    ap (λ b. cond b [] (noted (change_after before g) n gs (turns g (n + 1) gs))) plain
    ∙ ap (λ w. noted w n gs (turns g (n + 1) gs)) (and_test (is_tempo g) (is_chance (change_of before)) None (change_of g) e)

turns_after_period : (before g : List ℕ) (n : ℕ) (gs : List (List ℕ)) → IsPlain g → turns before n (g ∷ gs) ≡ turns g (n + 1) gs
turns_after_period before g n gs is = rw (is.no_remarks, is.no_tempo, is.no_change) refl

turns_after_tempo : (before : List ℕ) (n : ℕ) (gs : List (List ℕ)) → is_chance (change_of before) ≡ true → turns before n (codes "TEMPO" ∷ gs) ≡ turns (codes "TEMPO") (n + 1) gs
turns_after_tempo before n gs is = rw is refl

record Perioded (kind : PartKind) (first_day until : ℕ) (gs : List (List ℕ)) (part : Part) (parts : List Part) : Type 0 where
  period : List ℕ
  groups : List (List ℕ)
  rest : List (List ℕ)
  split : gs ≡ period ∷ (groups ++ rest)
  within : period_of period first_day ≡ Ok (part.from, part.to)
  says : SaysPart kind groups part
  later : SaysChanges first_day until rest parts

perioded : (k first_day until : ℕ) → Later k first_day until → (before : List ℕ) (n m : ℕ) (gs : List (List ℕ)) (kind : PartKind) (part : Part) (parts : List Part)
    → length gs ≤ k → part_during kind n gs first_day ≡ Ok part → parts_of before m gs first_day until ≡ Ok parts → Perioded kind first_day until gs part parts
perioded k first_day until later before n m [] kind part parts small e f = absurd cc
perioded k first_day until later before n m (g ∷ gs) kind part parts small e f =
    let s = steps (numbered n (period_of g first_day)) (λ period. part_of kind period.0 period.1 (n + 1) gs) part e in
    let period = numbered_is n (period_of g first_day) s.value s.is in
    let plain = period_is_plain g first_day s.value period in
    let is = part_is kind s.value.0 s.value.1 (n + 1) gs part s.next in
    let after = ap (λ ts. all_or_fault (map (part_of_turn first_day until) ts)) (sym (turns_after_period before g m gs plain)) ∙ f in
    let r = later g (m + 1) gs parts (omega (arith, small)) (ap is_chance plain.no_change) after in
    record {
      period = g;
      groups = stretch gs;
      rest = r.rest;
      split = ap (λ l. g ∷ l) r.split;
      within = period ∙ ap Ok (λ i. (sym is.from i, sym is.to i));
      says = part_says kind s.value.0 s.value.1 (n + 1) gs part s.next;
      later = r.says;
    }

by_from : (k first_day until : ℕ) → Later k first_day until → (g digits : List ℕ) (n : ℕ) (gs : List (List ℕ)) (part : Part) (parts : List Part)
    → length gs ≤ k → change_of g ≡ Some (At digits) → part_from digits n gs first_day until ≡ Ok part → parts_of g (n + 1) gs first_day until ≡ Ok parts
    → SaysChanges first_day until (g ∷ gs) (part ∷ parts)
by_from k first_day until later g digits n gs part parts small what e f =
    let s = steps (numbered n (end_of digits first_day)) (λ from. part_of From from until (n + 1) gs) part e in
    let is = part_is From s.value until (n + 1) gs part s.next in
    let r = later g (n + 1) gs parts small (ap is_chance what) f in
    subst (λ l. SaysChanges first_day until (g ∷ l) (part ∷ parts)) (sym r.split)
    (report.at what (numbered_is n (end_of digits first_day) s.value s.is ∙ ap Ok (sym is.from)) is.to (part_says From s.value until (n + 1) gs part s.next) r.says)

by_period : (k first_day until : ℕ) → Later k first_day until → (g : List ℕ) (kind : PartKind) (n : ℕ) (gs : List (List ℕ)) (part : Part) (parts : List Part)
    → length gs ≤ k → change_of g ≡ Some (During kind) → part_during kind (n + 1) gs first_day ≡ Ok part → parts_of g (n + 1) gs first_day until ≡ Ok parts
    → SaysChanges first_day until (g ∷ gs) (part ∷ parts)
by_period k first_day until later g kind n gs part parts small what e f =
    let p = perioded k first_day until later g (n + 1) (n + 1) gs kind part parts small e f in
    subst (λ l. SaysChanges first_day until (g ∷ l) (part ∷ parts)) (sym p.split) (report.during what p.within p.says p.later)

likely_now : (k first_day until : ℕ) → Later k first_day until → (g : List ℕ) (n : ℕ) (gs : List (List ℕ)) (part : Part) (parts : List Part)
    → length gs ≤ k → change_of g ≡ Some Chance → part_during Prob (n + 1) gs first_day ≡ Ok part → parts_of g (n + 1) gs first_day until ≡ Ok parts
    → SaysChanges first_day until (g ∷ gs) (part ∷ parts)
likely_now k first_day until later g n gs part parts small what e f =
    let p = perioded k first_day until later g (n + 1) (n + 1) gs Prob part parts small e f in
    subst (λ l. SaysChanges first_day until (g ∷ l) (part ∷ parts)) (sym p.split) (report.likely what p.within p.says p.later)

at_times : (first_day until : ℕ) (g : List ℕ) (gs : List (List ℕ)) (part : Part) (parts : List Part)
    → change_of g ≡ Some Chance → Perioded Prob first_day until gs part parts → SaysChanges first_day until (g ∷ codes "TEMPO" ∷ gs) (part ∷ parts)
at_times first_day until g gs part parts what p =
    subst (λ l. SaysChanges first_day until (g ∷ codes "TEMPO" ∷ l) (part ∷ parts)) (sym p.split) (report.likely_at_times what p.within p.says p.later)

likely_then : (k first_day until : ℕ) → Later k first_day until → (g : List ℕ) (n : ℕ) (gs : List (List ℕ)) (part : Part) (parts : List Part)
    → length gs ≤ k → change_of g ≡ Some Chance → is_tempo (first_of gs) ≡ true → part_during Prob (n + 1 + 1) (drop 1 gs) first_day ≡ Ok part → parts_of g (n + 1) gs first_day until ≡ Ok parts
    → SaysChanges first_day until (g ∷ gs) (part ∷ parts)
likely_then k first_day until later g n [] part parts small what tempo e f = absurd cc
likely_then k first_day until later g n (t ∷ gs) part parts small what tempo e f =
    let word = same_bytes t (codes "TEMPO") tempo in
    let after = ap (λ ts. all_or_fault (map (part_of_turn first_day until) ts)) (sym (turns_after_tempo g (n + 1) gs (ap is_chance what)))
    ∙ ap (λ w. parts_of g (n + 1) (w ∷ gs) first_day until) (sym word) ∙ f in
    subst (λ w. SaysChanges first_day until (g ∷ w ∷ gs) (part ∷ parts)) (sym word)
    (at_times first_day until g gs part parts what (perioded k first_day until later (codes "TEMPO") (n + 1 + 1) (n + 1 + 1) gs Prob part parts (omega (arith, small)) e after))

by_chance : (k first_day until : ℕ) → Later k first_day until → (g : List ℕ) (n : ℕ) (gs : List (List ℕ)) (part : Part) (parts : List Part) (tempo : Bool)
    → length gs ≤ k → change_of g ≡ Some Chance → is_tempo (first_of gs) ≡ tempo
    → cond tempo (part_during Prob (n + 1 + 1) (drop 1 gs) first_day) (part_during Prob (n + 1) gs first_day) ≡ Ok part → parts_of g (n + 1) gs first_day until ≡ Ok parts
    → SaysChanges first_day until (g ∷ gs) (part ∷ parts)
by_chance k first_day until later g n gs part parts true small what tempo e f = likely_then k first_day until later g n gs part parts small what tempo e f
by_chance k first_day until later g n gs part parts false small what tempo e f = likely_now k first_day until later g n gs part parts small what e f

by_change : (k first_day until : ℕ) → Later k first_day until → (g : List ℕ) (n : ℕ) (gs : List (List ℕ)) (change : Change) (part : Part) (parts : List Part)
    → length gs ≤ k → change_of g ≡ Some change → part_at change n gs first_day until ≡ Ok part → parts_of g (n + 1) gs first_day until ≡ Ok parts
    → SaysChanges first_day until (g ∷ gs) (part ∷ parts)
by_change k first_day until later g n gs (At digits) part parts small what e f = by_from k first_day until later g digits n gs part parts small what e f
by_change k first_day until later g n gs (During kind) part parts small what e f = by_period k first_day until later g kind n gs part parts small what e f
by_change k first_day until later g n gs Chance part parts small what e f = by_chance k first_day until later g n gs part parts (is_tempo (first_of gs)) small what refl e f
by_change k first_day until later g n gs Misshaped part parts small what e f = absurd cc

here : (first_day until : ℕ) (g : List ℕ) (gs : List (List ℕ)) (parts : List Part) → EndsStretch g → SaysChanges first_day until (g ∷ gs) parts → Rest first_day until (g ∷ gs) parts
here first_day until g gs parts end says = record { rest = g ∷ gs; split = ap (λ s. s ++ (g ∷ gs)) (sym (stretch_end g gs (ending g end))); says = says }

rest_by : (k first_day until : ℕ) → Later k first_day until → (g : List ℕ) (n : ℕ) (gs : List (List ℕ)) (parts : List Part) (change : Option Change)
    → length gs ≤ k → is_remarks g ≡ false → change_of g ≡ change
    → all_or_fault (map (part_of_turn first_day until) (noted change n gs (turns g (n + 1) gs))) ≡ Ok parts → Rest first_day until (g ∷ gs) parts
rest_by k first_day until later g n gs parts None small plain what e =
    let r = later g (n + 1) gs parts small (ap is_chance what) e in
    let on : ends_stretch g ≡ false = rw (plain, what) refl in
    record { rest = r.rest; split = ap (λ l. g ∷ l) r.split ∙ ap (λ s. s ++ r.rest) (sym (stretch_on g gs on)); says = r.says }
rest_by k first_day until later g n gs parts (Some change) small plain what e =
    let more = all_or_fault (map (part_of_turn first_day until) (turns g (n + 1) gs)) in
    let s = steps (part_at change n gs first_day until) (λ x. more >>= λ xs. Ok (x ∷ xs)) parts e in
    let r = steps more (λ xs. Ok (s.value ∷ xs)) parts s.next in
    here first_day until g gs parts (report.change what)
    (subst (λ ps. SaysChanges first_day until (g ∷ gs) ps) (inner r.next) (by_change k first_day until later g n gs change s.value r.value small what s.is r.is))

rest_at : (k first_day until : ℕ) → Later k first_day until → (before g : List ℕ) (n : ℕ) (gs : List (List ℕ)) (parts : List Part) (remarks : Bool)
    → length gs ≤ k → is_chance (change_of before) ≡ false → is_remarks g ≡ remarks
    → parts_of before n (g ∷ gs) first_day until ≡ Ok parts → Rest first_day until (g ∷ gs) parts
rest_at k first_day until later before g n gs parts true small plain is e =
    let word = same_bytes g (codes "RMK") is in
    let none = ap (λ b. all_or_fault (map (part_of_turn first_day until) (cond b [] (noted (change_after before g) n gs (turns g (n + 1) gs))))) (sym is) ∙ e in
    subst (λ w. Rest first_day until (w ∷ gs) parts) (sym word)
    (here first_day until (codes "RMK") gs parts report.remarks (subst (λ ps. SaysChanges first_day until (codes "RMK" ∷ gs) ps) (inner none) (report.remarks_follow gs)))
rest_at k first_day until later before g n gs parts false small plain is e =
    rest_by k first_day until later g n gs parts (change_of g) small is refl
    (ap (λ ts. all_or_fault (map (part_of_turn first_day until) ts)) (sym (turns_at before g n gs is plain)) ∙ e)

rest_is : (k first_day until : ℕ) → Later k first_day until
rest_is k first_day until before n [] parts small plain e = record { rest = []; split = refl; says = subst (λ ps. SaysChanges first_day until [] ps) (inner e) report.nothing }
rest_is zero first_day until before n (g ∷ gs) parts small plain e = absurd (omega (arith, small))
rest_is (suc k) first_day until before n (g ∷ gs) parts small plain e =
    rest_at k first_day until (rest_is k first_day until) before g n gs parts (is_remarks g) (omega (arith, small)) plain refl e

nothing_before : is_chance (change_of []) ≡ false
unfolding change_of
nothing_before = refl

-- what stands after the time

record Says (gs : List (List ℕ)) (head : Head) (taf : Taf) : Type 0 where
  says : SaysAfterTime gs taf
  station : taf.station ≡ head.station
  issued : taf.issued ≡ head.issued
  amended : taf.amended ≡ head.amended
  corrected : taf.corrected ≡ head.corrected

not_cancelled : (gs : List (List ℕ)) → is_cancelled (first_of gs) ≡ false → (more : List (List ℕ)) → gs ≡ codes "CNL" ∷ more → ⊥
not_cancelled gs e more f = let word : is_cancelled (first_of gs) ≡ true = ap (λ l. is_cancelled (first_of l)) f in cc

normal_says : (h : Head) (validity : List ℕ) (from to n : ℕ) (gs : List (List ℕ)) (taf : Taf)
    → period_of validity (h.issued / 1440 - 1) ≡ Ok (from, to) → is_cancelled (first_of gs) ≡ false → with_parts h from to n gs ≡ Ok taf → Says (validity ∷ gs) h taf
normal_says h validity from to n gs taf within other e =
    let first_day = h.issued / 1440 - 1 in
    let s = steps (part_of Base from to n gs) (λ base. parts_of [] n gs first_day to >>= λ parts. Ok (forecast h Normal from to (base ∷ parts))) taf e in
    let r = steps (parts_of [] n gs first_day to) (λ parts. Ok (forecast h Normal from to (s.value ∷ parts))) taf s.next in
    let is = part_is Base from to n gs s.value s.is in
    let rest = rest_is (length gs) first_day to [] n gs r.value (omega arith) nothing_before r.is in
    subst (λ t. Says (validity ∷ gs) h t) (inner r.next) (record {
      says = report.normal within refl (not_cancelled gs other) (record {
        stretch = stretch gs;
        rest = rest.rest;
        base = s.value;
        changes = r.value;
        split = rest.split;
        parts = refl;
        from = is.from;
        to = is.to;
        says_base = part_says Base from to n gs s.value s.is;
        says_changes = rest.says;
      });
      station = refl;
      issued = refl;
      amended = refl;
      corrected = refl;
    })

cancelled_says : (h : Head) (validity : List ℕ) (from to : ℕ) (gs : List (List ℕ)) → period_of validity (h.issued / 1440 - 1) ≡ Ok (from, to)
    → is_cancelled (first_of gs) ≡ true → Says (validity ∷ gs) h (forecast h Cancelled from to [])
cancelled_says h validity from to [] within e = absurd cc
cancelled_says h validity from to (g ∷ gs) within e =
    subst (λ w. Says (validity ∷ w ∷ gs) h (forecast h Cancelled from to [])) (sym (same_bytes g (codes "CNL") e))
    (record { says = report.cancelled within refl refl; station = refl; issued = refl; amended = refl; corrected = refl })

valid_says : (h : Head) (validity : List ℕ) (from to n : ℕ) (gs : List (List ℕ)) (taf : Taf) (cancelled : Bool) → period_of validity (h.issued / 1440 - 1) ≡ Ok (from, to)
    → is_cancelled (first_of gs) ≡ cancelled → cond cancelled (Ok (forecast h Cancelled from to [])) (with_parts h from to n gs) ≡ Ok taf → Says (validity ∷ gs) h taf
valid_says h validity from to n gs taf true within e f = subst (λ t. Says (validity ∷ gs) h t) (inner f) (cancelled_says h validity from to gs within e)
valid_says h validity from to n gs taf false within e f = normal_says h validity from to n gs taf within e f

period_says : (h : Head) (n : ℕ) (gs : List (List ℕ)) (taf : Taf)
    → (period_due n gs (h.issued / 1440 - 1) >>= λ validity. after_validity h validity.0 validity.1 (n + 1) (drop 1 gs)) ≡ Ok taf → Says gs h taf
period_says h n [] taf e = absurd cc
period_says h n (g ∷ gs) taf e =
    let first_day = h.issued / 1440 - 1 in
    let s = steps (numbered n (period_of g first_day)) (λ validity. after_validity h validity.0 validity.1 (n + 1) gs) taf e in
    valid_says h g s.value.0 s.value.1 (n + 1) gs taf (is_cancelled (first_of gs)) (numbered_is n (period_of g first_day) s.value s.is) refl s.next

none_says : (h : Head) (gs : List (List ℕ)) → is_nil (first_of gs) ≡ true → Says gs h (forecast h Nil h.issued h.issued [])
none_says h [] e = absurd cc
none_says h (g ∷ gs) e =
    subst (λ w. Says (w ∷ gs) h (forecast h Nil h.issued h.issued [])) (sym (same_bytes g (codes "NIL") e))
    (record { says = report.none (record { state = refl; from = refl; to = refl; parts = refl }); station = refl; issued = refl; amended = refl; corrected = refl })

says_if : (h : Head) (n : ℕ) (gs : List (List ℕ)) (taf : Taf) (nil : Bool) → is_nil (first_of gs) ≡ nil
    → cond nil (Ok (forecast h Nil h.issued h.issued [])) (period_due n gs (h.issued / 1440 - 1) >>= λ validity. after_validity h validity.0 validity.1 (n + 1) (drop 1 gs)) ≡ Ok taf → Says gs h taf
says_if h n gs taf true e f = subst (λ t. Says gs h t) (inner f) (none_says h gs e)
says_if h n gs taf false e f = period_says h n gs taf f

-- the words in front, the station and the time

modifier_by : (amended : Bool) (g : List ℕ) → is_amended g ≡ amended → (amended || is_corrected g) ≡ true → IsModifier g
modifier_by true g is e = subst (λ w. IsModifier w) (sym (same_bytes g (codes "AMD") is)) report.amended
modifier_by false g is e = subst (λ w. IsModifier w) (sym (same_bytes g (codes "COR") e)) report.corrected

modifier : (g : List ℕ) → is_modifier g ≡ true → IsModifier g
modifier g e = modifier_by (is_amended g) g refl e

word_step : (b : Bool) (g : List ℕ) (gs : List (List ℕ)) → is_modifier g ≡ b → All IsModifier (take (modifier_count gs) gs) → All IsModifier (take (cond b (1 + modifier_count gs) 0) (g ∷ gs))
word_step true g gs e all =
    subst (λ n. All IsModifier (take n (g ∷ gs))) (sym (one_more (modifier_count gs))) (All-cons IsModifier g (take (modifier_count gs) gs) (modifier g e) all)
word_step false g gs e all = All-nil IsModifier

words_are : (gs : List (List ℕ)) → All IsModifier (take (modifier_count gs) gs)
words_are [] = All-nil IsModifier
words_are (g ∷ gs) = word_step (is_modifier g) g gs refl (words_are gs)

record Stationed (modifiers gs : List (List ℕ)) (first_day : ℕ) (taf : Taf) : Type 0 where
  time : List ℕ
  rest : List (List ℕ)
  split : gs ≡ taf.station ∷ time ∷ rest
  station : is_station taf.station ≡ true
  issued : time_of time first_day ≡ Ok taf.issued
  amended : taf.amended ≡ are_amended modifiers
  corrected : taf.corrected ≡ are_corrected modifiers
  says : SaysAfterTime rest taf

timed : (modifiers : List (List ℕ)) (station : List ℕ) (n : ℕ) (gs : List (List ℕ)) (first_day : ℕ) (taf : Taf)
    → is_station station ≡ true → after_station modifiers station n gs first_day ≡ Ok taf → Stationed modifiers (station ∷ gs) first_day taf
timed modifiers station n [] first_day taf is e = absurd cc
timed modifiers station n (t ∷ gs) first_day taf is e =
    let s = steps (numbered n (time_of t first_day)) (λ issued. after_time (head_of modifiers station issued) (n + 1) gs) taf e in
    let all = says_if (head_of modifiers station s.value) (n + 1) gs taf (is_nil (first_of gs)) refl s.next in
    record {
      time = t;
      rest = gs;
      split = ap (λ w. w ∷ t ∷ gs) (sym all.station);
      station = subst (λ w. is_station w ≡ true) (sym all.station) is;
      issued = numbered_is n (time_of t first_day) s.value s.is ∙ ap Ok (sym all.issued);
      amended = all.amended;
      corrected = all.corrected;
      says = all.says;
    }

stationed_if : (named : Bool) (modifiers : List (List ℕ)) (n : ℕ) (g : List ℕ) (gs : List (List ℕ)) (first_day : ℕ) (taf : Taf) → is_station g ≡ named
    → (station_or_not n (cond named (Some g) None) >>= λ station. after_station modifiers station (n + 1) gs first_day) ≡ Ok taf → Stationed modifiers (g ∷ gs) first_day taf
stationed_if true modifiers n g gs first_day taf is e = timed modifiers g (n + 1) gs first_day taf is e
stationed_if false modifiers n g gs first_day taf is e = absurd cc

stationed : (modifiers : List (List ℕ)) (n : ℕ) (gs : List (List ℕ)) (first_day : ℕ) (taf : Taf) → after_modifiers modifiers n gs first_day ≡ Ok taf → Stationed modifiers gs first_day taf
stationed modifiers n [] first_day taf e = absurd cc
stationed modifiers n (g ∷ gs) first_day taf e = stationed_if (is_station g) modifiers n g gs first_day taf refl e

reads_words : (groups words : List (List ℕ)) (receipt : ℕ) (taf : Taf) → groups ≡ codes "TAF" ∷ words
    → Stationed (take (modifier_count words) words) (drop (modifier_count words) words) (receipt / 1440 - 3) taf → ReadsTaf groups receipt taf
reads_words groups words receipt taf first is =
    let modifiers = take (modifier_count words) words in
    record {
      words = modifiers;
      time = is.time;
      rest = is.rest;
      split = first ∙ ap (λ l. codes "TAF" ∷ l) (sym (take-append-drop (modifier_count words) words) ∙ ap (λ l. modifiers ++ l) is.split);
      are_modifiers = words_are words;
      amended = subst (λ b. Decides b (Contains modifiers (codes "AMD"))) (sym is.amended) (has_decides (codes "AMD") modifiers);
      corrected = subst (λ b. Decides b (Contains modifiers (codes "COR"))) (sym is.corrected) (has_decides (codes "COR") modifiers);
      has_station = is.station;
      issued = is.issued;
      says = is.says;
    }

pub reads : (groups : List (List ℕ)) (receipt : ℕ) (taf : Taf) → first_of groups ≡ codes "TAF" → reading groups receipt ≡ Ok taf → ReadsTaf groups receipt taf
unfolding reading
reads [] receipt taf first e = absurd cc
reads (g ∷ words) receipt taf first e =
    let count = modifier_count words in
    reads_words (g ∷ words) words receipt taf (ap (λ w. w ∷ words) first) (stationed (take count words) (2 + count) (drop count words) (receipt / 1440 - 3) taf e)

-- a forecast that is answered is what the groups say
pub answer_reads : (groups : List (List ℕ)) (receipt : ℕ) (result : Result Taf ReportFault) → Answers result (reading groups receipt) → first_of groups ≡ codes "TAF" → IfOk result (ReadsTaf groups receipt)
answer_reads groups receipt result is first = if_answered (ReadsTaf groups receipt) result (reading groups receipt) is (λ taf. reads groups receipt taf first)

-- and what groups say is read

remarks_announce : (what : Change) → change_of (codes "RMK") ≡ Some what → ⊥
unfolding change_of
remarks_announce what e = absurd cc

no_remarks_word : (g : List ℕ) (change : Change) → change_of g ≡ Some change → is_remarks g ≡ false
no_remarks_word g change e = false_from_ne_true (is_remarks g) (λ is. remarks_announce change (ap change_of (sym (same_bytes g (codes "RMK") is)) ∙ e))

no_change_in : (g : List ℕ) (change : Option Change) → (EndsStretch g → ⊥) → change_of g ≡ change → change_of g ≡ None
no_change_in g None on e = e
no_change_in g (Some what) on e = absurd (on (report.change e))

unended : (g : List ℕ) → (EndsStretch g → ⊥) → (is_remarks g ≡ false) × (change_of g ≡ None)
unended g on = (
  false_from_ne_true (is_remarks g) (λ is. on (subst (λ w. EndsStretch w) (sym (same_bytes g (codes "RMK") is)) report.remarks)),
  no_change_in g (change_of g) on refl,
)

both_none : (b : Bool) (change : Option Change) → change ≡ None → cond b None change ≡ None
both_none true change e = refl
both_none false change e = e

turns_on : (before g : List ℕ) (n : ℕ) (gs : List (List ℕ)) → is_remarks g ≡ false → change_of g ≡ None → turns before n (g ∷ gs) ≡ turns g (n + 1) gs
turns_on before g n gs plain none =
    ap (λ b. cond b [] (noted (change_after before g) n gs (turns g (n + 1) gs))) plain
    ∙ ap (λ w. noted w n gs (turns g (n + 1) gs)) (both_none (is_tempo g && is_chance (change_of before)) (change_of g) none)

abbrev AreRead : ℕ → ℕ → List (List ℕ) → List Part → Type 0
AreRead first_day until gs parts = (before : List ℕ) (n : ℕ) → is_chance (change_of before) ≡ false → parts_of before n gs first_day until ≡ Ok parts

read_on : (groups rest : List (List ℕ)) (first_day until : ℕ) (parts : List Part) → GoesOn groups → AreRead first_day until rest parts → AreRead first_day until (groups ++ rest) parts
read_on [] rest first_day until parts on read before n plain = read before n plain
read_on (g ∷ gs) rest first_day until parts on read before n plain =
    let is = unended g (All-head (λ h. EndsStretch h → ⊥) g gs on) in
    ap (λ ts. all_or_fault (map (part_of_turn first_day until) ts)) (turns_on before g n (gs ++ rest) is.0 is.1)
    ∙ read_on gs rest first_day until parts (All-tail (λ h. EndsStretch h → ⊥) g gs on) read g (n + 1) (ap is_chance is.1)

stretch_found : (groups rest : List (List ℕ)) → GoesOn groups → stretch rest ≡ [] → stretch (groups ++ rest) ≡ groups
stretch_found [] rest on end = end
stretch_found (g ∷ gs) rest on end =
    let is = unended g (All-head (λ h. EndsStretch h → ⊥) g gs on) in
    let goes : ends_stretch g ≡ false = rw (is.0, is.1) refl in
    stretch_on g (gs ++ rest) goes ∙ ap (λ l. g ∷ l) (stretch_found gs rest (All-tail (λ h. EndsStretch h → ⊥) g gs on) end)

changes_end : (first_day until : ℕ) (gs : List (List ℕ)) (parts : List Part) → SaysChanges first_day until gs parts → stretch gs ≡ []
changes_end _ _ _ _ report.nothing = refl
changes_end _ _ _ _ (report.remarks_follow rest) = stretch_end (codes "RMK") rest refl
changes_end _ _ _ _ (report.at {word = word} {stretch = groups} {rest = rest} what from to says later) = stretch_end word (groups ++ rest) (ending word (report.change what))
changes_end _ _ _ _ (report.during {word = word} {period = period} {stretch = groups} {rest = rest} what within says later) = stretch_end word (period ∷ (groups ++ rest)) (ending word (report.change what))
changes_end _ _ _ _ (report.likely {word = word} {period = period} {stretch = groups} {rest = rest} what within says later) = stretch_end word (period ∷ (groups ++ rest)) (ending word (report.change what))
changes_end _ _ _ _ (report.likely_at_times {word = word} {period = period} {stretch = groups} {rest = rest} what within says later) =
    stretch_end word (codes "TEMPO" ∷ period ∷ (groups ++ rest)) (ending word (report.change what))

no_fault : (n : ℕ) (groups : List (List ℕ)) → All (λ g. shape_fault Forecast g ≡ None) groups → first_fault Forecast n groups ≡ None
no_fault n [] all = refl
no_fault n (g ∷ gs) all =
    rw (All-head (λ h. shape_fault Forecast h ≡ None) g gs all) (no_fault (n + 1) gs (All-tail (λ h. shape_fault Forecast h ≡ None) g gs all))

cond_read : (n : ℕ) (groups : List (List ℕ)) → All (λ g. shape_fault Forecast g ≡ None) groups → cond_of Forecast n groups ≡ Ok (named_cond groups)
unfolding cond_of
cond_read n groups all = ap (λ fault. cond_unless fault groups) (no_fault n groups all)

part_read : (kind : PartKind) (n : ℕ) (groups rest : List (List ℕ)) (part : Part) → SaysPart kind groups part → stretch rest ≡ []
    → part_of kind part.from part.to n (groups ++ rest) ≡ Ok part
part_read kind n groups rest part is end =
    ap (λ s. cond_of Forecast n s >>= λ cond. Ok (made kind part.from part.to cond)) (stretch_found groups rest is.goes_on end)
    ∙ ap (λ r. r >>= λ cond. Ok (made kind part.from part.to cond)) (cond_read n groups is.shaped)
    ∙ ap Ok (λ i. record part { kind = sym is.kind i; cond = sym is.names i })

from_read : (digits : List ℕ) (n first_day until : ℕ) (groups rest : List (List ℕ)) (part : Part) → end_of digits first_day ≡ Ok part.from → part.to ≡ until
    → SaysPart From groups part → stretch rest ≡ [] → part_from digits n (groups ++ rest) first_day until ≡ Ok part
from_read digits n first_day until groups rest part from to is end =
    ap (λ r. numbered n r >>= λ first. part_of From first until (n + 1) (groups ++ rest)) from
    ∙ ap (λ last. part_of From part.from last (n + 1) (groups ++ rest)) (sym to)
    ∙ part_read From (n + 1) groups rest part is end

during_read : (kind : PartKind) (n first_day : ℕ) (period : List ℕ) (groups rest : List (List ℕ)) (part : Part) → period_of period first_day ≡ Ok (part.from, part.to)
    → SaysPart kind groups part → stretch rest ≡ [] → part_during kind n (period ∷ (groups ++ rest)) first_day ≡ Ok part
during_read kind n first_day period groups rest part within is end =
    ap (λ r. numbered n r >>= λ p. part_of kind p.0 p.1 (n + 1) (groups ++ rest)) within ∙ part_read kind (n + 1) groups rest part is end

one_more_read : {A E : Type 0} (r : Result A E) (rs : Result (List A) E) (x : A) (xs : List A) → r ≡ Ok x → rs ≡ Ok xs → (r >>= λ y. rs >>= λ ys. Ok (y ∷ ys)) ≡ Ok (x ∷ xs)
one_more_read r rs x xs e f = rw (e, f) refl

change_read : (first_day until : ℕ) (before word : List ℕ) (n : ℕ) (gs : List (List ℕ)) (change : Change) (part : Part) (parts : List Part)
    → change_of word ≡ Some change → is_chance (change_of before) ≡ false → part_at change n gs first_day until ≡ Ok part → parts_of word (n + 1) gs first_day until ≡ Ok parts
    → parts_of before n (word ∷ gs) first_day until ≡ Ok (part ∷ parts)
change_read first_day until before word n gs change part parts what plain e f =
    ap (λ ts. all_or_fault (map (part_of_turn first_day until) ts))
    (turns_at before word n gs (no_remarks_word word change what) plain ∙ ap (λ c. noted c n gs (turns word (n + 1) gs)) what)
    ∙ one_more_read (part_at change n gs first_day until) (all_or_fault (map (part_of_turn first_day until) (turns word (n + 1) gs))) part parts e f

period_read : (first_day until : ℕ) (before period : List ℕ) (n : ℕ) (groups rest : List (List ℕ)) (parts : List Part) → IsPlain period → GoesOn groups → AreRead first_day until rest parts
    → parts_of before n (period ∷ (groups ++ rest)) first_day until ≡ Ok parts
period_read first_day until before period n groups rest parts plain on read =
    ap (λ ts. all_or_fault (map (part_of_turn first_day until) ts)) (turns_after_period before period n (groups ++ rest) plain)
    ∙ read_on groups rest first_day until parts on read period (n + 1) (ap is_chance plain.no_change)

changes_read : (first_day until : ℕ) (gs : List (List ℕ)) (parts : List Part) → SaysChanges first_day until gs parts → AreRead first_day until gs parts
changes_read _ _ _ _ report.nothing before n plain = refl
changes_read _ _ _ _ (report.remarks_follow rest) before n plain = refl
changes_read _ _ _ _ (report.at {first_day = day} {until = until} {word = word} {digits = digits} {stretch = groups} {rest = rest} {part = part} {parts = parts} what from to says later) before n plain =
    change_read day until before word n (groups ++ rest) (At digits) part parts what plain
    (from_read digits n day until groups rest part from to says (changes_end day until rest parts later))
    (read_on groups rest day until parts says.goes_on (changes_read day until rest parts later) word (n + 1) (ap is_chance what))
changes_read _ _ _ _ (report.during {first_day = day} {until = until} {word = word} {period = period} {kind = kind} {stretch = groups} {rest = rest} {part = part} {parts = parts} what within says later) before n plain =
    change_read day until before word n (period ∷ (groups ++ rest)) (During kind) part parts what plain
    (during_read kind (n + 1) day period groups rest part within says (changes_end day until rest parts later))
    (period_read day until word period (n + 1) groups rest parts (period_is_plain period day (part.from, part.to) within) says.goes_on (changes_read day until rest parts later))
changes_read _ _ _ _ (report.likely {first_day = day} {until = until} {word = word} {period = period} {stretch = groups} {rest = rest} {part = part} {parts = parts} what within says later) before n plain =
    let is = period_is_plain period day (part.from, part.to) within in
    change_read day until before word n (period ∷ (groups ++ rest)) Chance part parts what plain
    (ap (λ b. cond b (part_during Prob (n + 1 + 1) (groups ++ rest) day) (part_during Prob (n + 1) (period ∷ (groups ++ rest)) day)) is.no_tempo
    ∙ during_read Prob (n + 1) day period groups rest part within says (changes_end day until rest parts later))
    (period_read day until word period (n + 1) groups rest parts is says.goes_on (changes_read day until rest parts later))
changes_read _ _ _ _ (report.likely_at_times {first_day = day} {until = until} {word = word} {period = period} {stretch = groups} {rest = rest} {part = part} {parts = parts} what within says later) before n plain =
    let is = period_is_plain period day (part.from, part.to) within in
    change_read day until before word n (codes "TEMPO" ∷ period ∷ (groups ++ rest)) Chance part parts what plain
    (during_read Prob (n + 1 + 1) day period groups rest part within says (changes_end day until rest parts later))
    (ap (λ ts. all_or_fault (map (part_of_turn day until) ts)) (turns_after_tempo word (n + 1) (period ∷ (groups ++ rest)) (ap is_chance what))
    ∙ period_read day until (codes "TEMPO") period (n + 1 + 1) groups rest parts is says.goes_on (changes_read day until rest parts later))

abbrev head_by : Taf → Head
head_by taf = record { station = taf.station; issued = taf.issued; amended = taf.amended; corrected = taf.corrected }

made_read : (h : Head) (from to : ℕ) (r : Result Part BadReport) (rs : Result (List Part) BadReport) (base : Part) (changes : List Part) → r ≡ Ok base → rs ≡ Ok changes
    → (r >>= λ b. rs >>= λ ps. Ok (forecast h Normal from to (b ∷ ps))) ≡ Ok (forecast h Normal from to (base ∷ changes))
made_read h from to r rs base changes e f = rw (e, f) refl

parts_read : (gs : List (List ℕ)) (taf : Taf) (n : ℕ) → taf.state ≡ Normal → SaysParts gs taf → with_parts (head_by taf) taf.from taf.to n gs ≡ Ok taf
parts_read gs taf n state is =
    let all = is.stretch ++ is.rest in
    let day = taf.issued / 1440 - 1 in
    let end = changes_end day taf.to is.rest is.changes is.says_changes in
    ap (λ l. with_parts (head_by taf) taf.from taf.to n l) is.split
    ∙ made_read (head_by taf) taf.from taf.to (part_of Base taf.from taf.to n all) (parts_of [] n all day taf.to) is.base is.changes
    (ap (λ first. part_of Base first taf.to n all) (sym is.from) ∙ ap (λ last. part_of Base is.base.from last n all) (sym is.to) ∙ part_read Base n is.stretch is.rest is.base is.says_base end)
    (read_on is.stretch is.rest day taf.to is.changes is.says_base.goes_on (changes_read day taf.to is.rest is.changes is.says_changes) [] n nothing_before)
    ∙ ap Ok (λ i. record taf { state = sym state i; parts = sym is.parts i })

is_not_cancelled : (gs : List (List ℕ)) → ((more : List (List ℕ)) → gs ≡ codes "CNL" ∷ more → ⊥) → is_cancelled (first_of gs) ≡ false
is_not_cancelled [] other = refl
is_not_cancelled (g ∷ gs) other = false_from_ne_true (is_cancelled g) (λ e. other gs (ap (λ w. w ∷ gs) (same_bytes g (codes "CNL") e)))

validity_read : (validity : List ℕ) (rest : List (List ℕ)) (taf : Taf) (n : ℕ) → report.IsValidity validity taf → after_validity (head_by taf) taf.from taf.to (n + 1) rest ≡ Ok taf
    → after_time (head_by taf) n (validity ∷ rest) ≡ Ok taf
validity_read validity rest taf n within e =
    let next = λ (p : ℕ × ℕ). after_validity (head_by taf) p.0 p.1 (n + 1) rest in
    ap (λ b. cond b (Ok (forecast (head_by taf) Nil taf.issued taf.issued [])) (numbered n (period_of validity (taf.issued / 1440 - 1)) >>= next))
    (period_is_plain validity (taf.issued / 1440 - 1) (taf.from, taf.to) within).no_nil
    ∙ ap (λ r. numbered n r >>= next) within
    ∙ e

after_time_read : (gs : List (List ℕ)) (taf : Taf) → SaysAfterTime gs taf → (n : ℕ) → after_time (head_by taf) n gs ≡ Ok taf
after_time_read _ _ (report.none {taf = taf} is) n = ap Ok (λ i. record taf { from = sym is.from i; to = sym is.to i; state = sym is.state i; parts = sym is.parts i })
after_time_read _ _ (report.cancelled {validity = validity} {rest = rest} {taf = taf} within state parts) n =
    validity_read validity (codes "CNL" ∷ rest) taf n within (ap Ok (λ i. record taf { state = sym state i; parts = sym parts i }))
after_time_read _ _ (report.normal {validity = validity} {rest = rest} {taf = taf} within state other is) n =
    validity_read validity rest taf n within
    (ap (λ b. cond b (Ok (forecast (head_by taf) Cancelled taf.from taf.to [])) (with_parts (head_by taf) taf.from taf.to (n + 1) rest)) (is_not_cancelled rest other)
    ∙ parts_read rest taf (n + 1) state is)

is_modifier_word : (g : List ℕ) → IsModifier g → is_modifier g ≡ true
is_modifier_word _ report.amended = refl
is_modifier_word _ report.corrected = refl

words_counted : (words tail : List (List ℕ)) → All IsModifier words → modifier_count tail ≡ 0 → modifier_count (words ++ tail) ≡ length words
words_counted [] tail all none = none
words_counted (g ∷ gs) tail all none =
    rw (is_modifier_word g (All-head IsModifier g gs all)) (ap (λ n. 1 + n) (words_counted gs tail (All-tail IsModifier g gs all) none) ∙ one_more (length gs))

no_modifier : (station : List ℕ) (rest : List (List ℕ)) → is_station station ≡ true → modifier_count (station ∷ rest) ≡ 0
no_modifier station rest is =
    let four = station_length station is in
    rw (other_length station (codes "AMD") (λ l. omega (arith, four, l)), other_length station (codes "COR") (λ l. omega (arith, four, l))) refl

station_read : (words : List (List ℕ)) (time : List ℕ) (rest : List (List ℕ)) (taf : Taf) (n first_day : ℕ)
    → are_amended words ≡ taf.amended → are_corrected words ≡ taf.corrected → is_station taf.station ≡ true → time_of time first_day ≡ Ok taf.issued → SaysAfterTime rest taf
    → after_modifiers words n (taf.station ∷ time ∷ rest) first_day ≡ Ok taf
station_read words time rest taf n first_day amended corrected station issued says =
    ap (λ b. station_or_not n (cond b (Some taf.station) None) >>= λ s. after_station words s (n + 1) (time ∷ rest) first_day) station
    ∙ ap (λ r. numbered (n + 1) r >>= λ at. after_time (head_of words taf.station at) (n + 1 + 1) rest) issued
    ∙ ap (λ h. after_time h (n + 1 + 1) rest) (λ i. record (head_by taf) { amended = amended i; corrected = corrected i })
    ∙ after_time_read rest taf says (n + 1 + 1)

counted_read : (words tail : List (List ℕ)) (count receipt : ℕ) (taf : Taf) → count ≡ length words
    → after_modifiers words (2 + length words) tail (receipt / 1440 - 3) ≡ Ok taf
    → after_modifiers (take count (words ++ tail)) (2 + count) (drop count (words ++ tail)) (receipt / 1440 - 3) ≡ Ok taf
counted_read words tail count receipt taf same e =
    ap (λ k. after_modifiers (take k (words ++ tail)) (2 + k) (drop k (words ++ tail)) (receipt / 1440 - 3)) same
    ∙ ap (λ ws. after_modifiers ws (2 + length words) (drop (length words) (words ++ tail)) (receipt / 1440 - 3)) (take-append_seam words tail)
    ∙ ap (λ gs. after_modifiers words (2 + length words) gs (receipt / 1440 - 3)) (drop-append_seam words tail)
    ∙ e

split_read : (words tail : List (List ℕ)) (receipt : ℕ) (taf : Taf) → All IsModifier words → modifier_count tail ≡ 0
    → after_modifiers words (2 + length words) tail (receipt / 1440 - 3) ≡ Ok taf → reading (codes "TAF" ∷ (words ++ tail)) receipt ≡ Ok taf
unfolding reading
split_read words tail receipt taf all none e = counted_read words tail (modifier_count (words ++ tail)) receipt taf (words_counted words tail all none) e

pub is_read : (groups : List (List ℕ)) (receipt : ℕ) (taf : Taf) → ReadsTaf groups receipt taf → reading groups receipt ≡ Ok taf
is_read groups receipt taf is =
    let tail = taf.station ∷ is.time ∷ is.rest in
    ap (λ gs. reading gs receipt) is.split
    ∙ split_read is.words tail receipt taf is.are_modifiers (no_modifier taf.station (is.time ∷ is.rest) is.has_station)
    (station_read is.words is.time is.rest taf (2 + length is.words) (receipt / 1440 - 3)
    (same_from_decides (are_amended is.words) taf.amended (has_decides (codes "AMD") is.words) is.amended)
    (same_from_decides (are_corrected is.words) taf.corrected (has_decides (codes "COR") is.words) is.corrected)
    is.has_station is.issued is.says)

-- what groups say is answered
pub said_is_answered : (groups : List (List ℕ)) (receipt : ℕ) (result : Result Taf ReportFault) → Answers result (reading groups receipt) → (taf : Taf) → ReadsTaf groups receipt taf → Answers result (Ok taf)
said_is_answered groups receipt result is taf said = subst (λ r. Answers result r) (is_read groups receipt taf said) is
