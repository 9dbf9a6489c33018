-- Where the controlling weather comes from: each named value is the controlling one, and its source is held and gives it.
use Rattle.std.proofs.Common.{◌≡◌, ℕ, zero, suc, ◌<◌, ◌≤◌, ◌+◌, min, Bool, true, false, ◌||◌, cond, List, [], ◌∷◌, length, Option, None, Some, refl, ap, sym, subst, ◌∙◌, arith}
use Rattle.std.specs.Prelude.{nat_lt, IfSome, option_to_list}
use Rattle.std.specs.List.{slice_get}
use Rattle.std.specs.Option.{option_map, option_and_then}
use Rattle.std.proofs.lemmas.Bool.{ltb-true, ltb-false}
use Rattle.desk_io.specs.Station.{Station}
use Rattle.desk_io.specs.declared.pair.Pair.{Pair}
use Rattle.desk_time.specs.Digits.{or_else}
use Rattle.codes.specs.Cond.{lesser}
use Rattle.weather_reports.specs.declared.metar.Metar.{Metar}
use Rattle.weather_reports.specs.declared.forecast.Part.{Part}
use Rattle.weather_reports.specs.declared.forecast.Taf.{Taf}
use Rattle.weather_window.specs.Values.{Element, ceiling, visibility, has_replaced, has_become, is_changing, may_hold, part_values, forecast_values, report_values}
use Rattle.weather_window.specs.Window.{least_of, value_at, cond_at}
use Rattle.weather_window.specs.Running.{role_of, and_value, held_after, only, least_held, least_at}
use Rattle.weather_window.proofs.LeastLaws.{least_of_option}
use Rattle.weather_window.proofs.PartsLaws.{least_at_law}
use Rattle.weather_window.proofs.WindowLaws.{value_at_law}
use Rattle.facts.specs.declared.report.Report.{Report}
use Rattle.facts.specs.Latest.{latest_metar, latest_taf, metar_latest, taf_latest}
use Rattle.facts.specs.Same.{metar_of_read, taf_of_read}
use Rattle.rules.specs.Circumstances.{Case}
use Rattle.rules.specs.Grounds.{Grounds}
use Rattle.sheet.specs.declared.lines.Origin.{Origin}
use Rattle.sheet.specs.declared.lines.Source.{Source}
use Rattle.sheet.specs.declared.sources.Named.{Named}
use Rattle.sheet.specs.declared.sources.Held.{Held}
use Rattle.sheet.specs.Sources.{by_report, by_part, is_valid, is_held, Lasts, base, replaced, became, Counts, lasts, changes, temporary, IsInForce, IsGivenBy, forecast, observation, named_by, lesser_named, or_named, and_named, with_part, held_from, only_named, least_named, parts_named, taf_named, metar_named, forecast_named, report_named, named_at, source_of, source_at}
use Rattle.sheet.specs.Weather.{weather_with}
use Rattle.sheet.specs.World.{IsFrom, IsWeatherAt}

abbrev val : Option Named → Option ℕ
val o = option_map (λ (n : Named). n.value) o

val_named : (v : Option ℕ) (s : Source) → val (named_by v s) ≡ v
val_named None s = refl
val_named (Some v) s = refl

lesser_by : (t : Bool) (a b : Named) → nat_lt b.value a.value ≡ t → val (cond t (Some b) (Some a)) ≡ Some (min a.value b.value)
lesser_by true a b e = let l = ltb-true b.value a.value e in let m : b.value ≡ min a.value b.value = omega (arith, l) in ap (λ n. Some n) m
lesser_by false a b e = let l = ltb-false b.value a.value e in let m : a.value ≡ min a.value b.value = omega (arith, l) in ap (λ n. Some n) m

val_lesser : (a b : Option Named) → val (lesser_named a b) ≡ lesser (val a) (val b)
val_lesser None b = refl
val_lesser (Some a) None = refl
val_lesser (Some a) (Some b) = lesser_by (nat_lt b.value a.value) a b refl

val_or : (a b : Option Named) → val (or_named a b) ≡ or_else (val a) (val b)
val_or None b = refl
val_or (Some a) b = refl

-- One more part is read. What is held changes as in one pass over the values alone.
module _ (e : Element) (m id n : ℕ) (h : Held) (p : Part) where
  abbrev part_named : Option Named
  part_named = named_by (e p.cond) (by_part id n)

  lasting_by : (x : _) (later : Option ℕ) → (and_value x (role_of m p) (e p.cond)).lasting ≡ later → val h.lasting ≡ x.lasting → val (with_part e m id n h p).lasting ≡ later
  lasting_by x later is same =
      elim (has_replaced m p) as (λ t. has_replaced m p ≡ t → val (with_part e m id n h p).lasting ≡ (and_value x (role_of m p) (e p.cond)).lasting) [
        | true ↦ λ r. rw r (val_named (e p.cond) (by_part id n))
        | false ↦ λ r.
            elim (has_become m p) as (λ t. has_become m p ≡ t → val (with_part e m id n h p).lasting ≡ (and_value x (role_of m p) (e p.cond)).lasting) [
              | true ↦ λ b.
                  rw (r, b) (val_or part_named h.lasting ∙ ap (λ v. or_else v (val h.lasting)) (val_named (e p.cond) (by_part id n)) ∙ ap (λ v. or_else (e p.cond) v) same)
              | false ↦ λ b.
                  elim (is_changing m p || may_hold m p) as (λ t. (is_changing m p || may_hold m p) ≡ t → val (with_part e m id n h p).lasting ≡ (and_value x (role_of m p) (e p.cond)).lasting) [
                    | true ↦ λ c. rw (r, b, c) same
                    | false ↦ λ c. rw (r, b, c) same
                  ] refl
            ] refl
      ] refl
      ∙ is

  passing_by : (x : _) (later : Option ℕ) → (and_value x (role_of m p) (e p.cond)).passing ≡ later → val h.passing ≡ x.passing → val (with_part e m id n h p).passing ≡ later
  passing_by x later is same =
      elim (has_replaced m p) as (λ t. has_replaced m p ≡ t → val (with_part e m id n h p).passing ≡ (and_value x (role_of m p) (e p.cond)).passing) [
        | true ↦ λ r. rw r refl
        | false ↦ λ r.
            elim (has_become m p) as (λ t. has_become m p ≡ t → val (with_part e m id n h p).passing ≡ (and_value x (role_of m p) (e p.cond)).passing) [
              | true ↦ λ b. rw (r, b) same
              | false ↦ λ b.
                  elim (is_changing m p || may_hold m p) as (λ t. (is_changing m p || may_hold m p) ≡ t → val (with_part e m id n h p).passing ≡ (and_value x (role_of m p) (e p.cond)).passing) [
                    | true ↦ λ c.
                        rw (r, b, c) (val_lesser h.passing part_named ∙ ap (λ v. lesser (val h.passing) v) (val_named (e p.cond) (by_part id n)) ∙ ap (λ v. lesser v (e p.cond)) same)
                    | false ↦ λ c. rw (r, b, c) same
                  ] refl
            ] refl
      ] refl
      ∙ is

val_from : (e : Element) (m id n : ℕ) (h : Held) (ps : List Part) (x : _) (later : Option ℕ) → least_held (held_after e m x ps) ≡ later → val h.lasting ≡ x.lasting → val h.passing ≡ x.passing
    → val (least_named (held_from e m id n h ps)) ≡ later
val_from e m id n h [] x later is lasting passing =
    val_lesser h.lasting h.passing ∙ ap (λ a. lesser a (val h.passing)) lasting ∙ ap (λ b. lesser x.lasting b) passing ∙ is
val_from e m id n h (p ∷ ps) x later is lasting passing =
    val_from e m id (n + 1) (with_part e m id n h p) ps (and_value x (role_of m p) (e p.cond)) later is
    (lasting_by e m id n h p x _ refl lasting) (passing_by e m id n h p x _ refl passing)

val_parts : (e : Element) (m id : ℕ) (ps : List Part) → val (parts_named e m id ps) ≡ least_at e m ps
unfolding least_at
val_parts e m id [] = refl
val_parts e m id (p ∷ ps) =
    val_from e m id 2 (only_named (named_by (e p.cond) (by_part id 1))) ps (only (e p.cond)) (least_held (held_after e m (only (e p.cond)) ps)) refl
    (val_named (e p.cond) (by_part id 1)) refl

taf_by : (b : Bool) (e : Element) (m id : ℕ) (ps : List Part) → val (cond b (parts_named e m id ps) None) ≡ least_of (cond b (part_values e m ps) [])
taf_by true e m id ps = val_parts e m id ps ∙ least_at_law e m ps
taf_by false e m id ps = refl

val_taf : (e : Element) (m id : ℕ) (o : Option Taf) → val (taf_named e m id o) ≡ least_of (forecast_values e m o)
val_taf e m id None = refl
val_taf e m id (Some taf) = taf_by (is_valid m taf) e m id taf.parts

metar_by : (b : Bool) (v : Option ℕ) (s : Source) → val (cond b (named_by v s) None) ≡ least_of (cond b (option_to_list v) [])
metar_by true v s = val_named v s ∙ sym (least_of_option v)
metar_by false v s = refl

val_metar : (e : Element) (hold m id : ℕ) (o : Option Metar) → val (metar_named e hold m id o) ≡ least_of (report_values e hold m o)
val_metar e hold m id None = refl
val_metar e hold m id (Some metar) = metar_by (is_held hold m metar) (e metar.cond) (by_report id)

val_forecast : (e : Element) (m : ℕ) (o : Option Report) → val (forecast_named e m o) ≡ least_of (forecast_values e m (option_and_then (λ r. taf_of_read r.read) o))
val_forecast e m None = refl
val_forecast e m (Some r) = val_taf e m r.id (taf_of_read r.read)

val_report : (e : Element) (hold m : ℕ) (o : Option Report) → val (report_named e hold m o) ≡ least_of (report_values e hold m (option_and_then (λ r. metar_of_read r.read) o))
val_report e hold m None = refl
val_report e hold m (Some r) = val_metar e hold m r.id (metar_of_read r.read)

val_at : (e : Element) (g : Grounds) (station : Station) (m : ℕ)
    → val (named_at e g station m) ≡ value_at e (taf_latest g.reports station) (metar_latest g.reports station) g.tables.settings.hold_minutes m
val_at e g station m =
    let f : Option Named = forecast_named e m (latest_taf g.reports station) in
    let r : Option Named = report_named e g.tables.settings.hold_minutes m (latest_metar g.reports station) in
    val_lesser f r
    ∙ value_at_law e (taf_latest g.reports station) (metar_latest g.reports station) g.tables.settings.hold_minutes m (val f) (val r)
    (val_forecast e m (latest_taf g.reports station)) (val_report e g.tables.settings.hold_minutes m (latest_metar g.reports station))

-- a place of a list is within it
within : {A : Type 0} (xs : List A) (i : ℕ) (a : A) → slice_get xs i ≡ Some a → i < length xs
within [] i a is = absurd (cc)
within (x ∷ xs) zero a is = omega arith
within (x ∷ xs) (suc i) a is = let rest : i < length xs = within xs i a is in omega (arith, rest)

-- either of two tests
either : (a b : Bool) (P : Type 0) → (a ≡ true → P) → (b ≡ true → P) → (a || b) ≡ true → P
either true b P first second is = first refl
either false b P first second is = second is

abbrev part_or : Part → Option Part → Part
part_or other None = other
part_or other (Some p) = p

-- what holds of two values holds of the one that is taken
module _ (Q : Named → Type 0) where
  lesser_if : (t : Bool) (a b : Named) → Q a → Q b → IfSome (cond t (Some b) (Some a)) Q
  lesser_if true a b p q = q
  lesser_if false a b p q = p

  lesser_is : (a b : Option Named) → IfSome a Q → IfSome b Q → IfSome (lesser_named a b) Q
  lesser_is None b p q = q
  lesser_is (Some a) None p q = p
  lesser_is (Some a) (Some b) p q = lesser_if (nat_lt b.value a.value) a b p q

-- The parts of a forecast, read one by one.
module _ (e : Element) (m id : ℕ) (parts : List Part) where
  -- A value that stands once `read` parts are read: a part gives it, counts for a reason, and isn't replaced by one of
  -- those.
  record Stands (Reason : ℕ → ℕ → Part → Type 0) (read : ℕ) (n : Named) : Type 0 where
    place : ℕ
    part : Part
    source : n.source ≡ by_part id (1 + place)
    there : slice_get parts place ≡ Some part
    gives : e part.cond ≡ Some n.value
    counts : Reason read place part
    last : (later : ℕ) (other : Part) → place < later → later < read → slice_get parts later ≡ Some other → has_replaced m other ≡ false

  -- it lasts, and no part read after it has become and names the element
  record StillLasts (read place : ℕ) (part : Part) : Type 0 where
    lasting : Lasts m place part
    last_named : (later : ℕ) (other : Part) → place < later → later < read → slice_get parts later ≡ Some other → has_become m other ≡ true → e other.cond ≡ None

  -- it changes, or may hold
  abbrev Passes : ℕ → ℕ → Part → Type 0
  Passes read place part = (is_changing m part || may_hold m part) ≡ true

  -- one more part is read: what holds of it and of all before it holds of all
  one_more : (P : Part → Type 0) (k : ℕ) (p : Part) → slice_get parts k ≡ Some p → P p → (later : ℕ) (other : Part) → (later < k → slice_get parts later ≡ Some other → P other)
      → later < k + 1 → slice_get parts later ≡ Some other → P other
  one_more P k p at now later other before less is =
      elim (nat_lt later k) as (λ b. nat_lt later k ≡ b → P other) [
        | true ↦ λ t. before (ltb-true later k t) is
        | false ↦ λ t.
            let h = ltb-false later k t in
            let same : later ≡ k = omega (arith, h, less) in
            let found : Some p ≡ Some other = sym (sym is ∙ ap (slice_get parts) same ∙ at) in
            subst P (ap (part_or p) found) now
      ] refl

  still : (C : ℕ → ℕ → Part → Type 0) (k : ℕ) (p : Part) → slice_get parts k ≡ Some p → has_replaced m p ≡ false → ((place : ℕ) (part : Part) → C k place part → C (k + 1) place part)
      → (o : Option Named) → IfSome o (Stands C k) → IfSome o (Stands C (k + 1))
  still C k p at not_replaced goes_on None is = tt
  still C k p at not_replaced goes_on (Some n) is = record {
    place = is.place;
    part = is.part;
    source = is.source;
    there = is.there;
    gives = is.gives;
    counts = goes_on is.place is.part is.counts;
    last = λ later other after less found.
        one_more (λ q. has_replaced m q ≡ false) k p at not_replaced later other (λ before there. is.last later other after before there) less found;
  }

  -- the value of the part that is read now
  newly : (C : ℕ → ℕ → Part → Type 0) (k n : ℕ) (p : Part) → n ≡ 1 + k → slice_get parts k ≡ Some p → C (k + 1) k p → (v : Option ℕ) → e p.cond ≡ v → IfSome (named_by v (by_part id n)) (Stands C (k + 1))
  newly C k n p number at counts None gives = tt
  newly C k n p number at counts (Some v) gives = record {
    place = k;
    part = p;
    source = ap (by_part id) number;
    there = at;
    gives = gives;
    counts = counts;
    last = λ later other after less found. absurd (omega (arith, after, less));
  }

  -- a part that lasts and is read now is the last one
  now_lasts : (k : ℕ) (p : Part) → Lasts m k p → StillLasts (k + 1) k p
  now_lasts k p lasting = record { lasting = lasting; last_named = λ later other after less found become. absurd (omega (arith, after, less)) }

  -- it still lasts if the part that is read now isn't a finished change that names the element
  lasts_on : (k : ℕ) (p : Part) → slice_get parts k ≡ Some p → (has_become m p ≡ true → e p.cond ≡ None) → (place : ℕ) (part : Part) → StillLasts k place part → StillLasts (k + 1) place part
  lasts_on k p at unnamed place part is = record {
    lasting = is.lasting;
    last_named = λ later other after less found.
        one_more (λ q. has_become m q ≡ true → e q.cond ≡ None) k p at unnamed later other (λ before there. is.last_named later other after before there) less found;
  }

  -- a finished change gives the value if it names the element
  become_by : (k n : ℕ) (p : Part) → n ≡ 1 + k → slice_get parts k ≡ Some p → has_replaced m p ≡ false → has_become m p ≡ true → (v : Option ℕ) → e p.cond ≡ v → (o : Option Named)
      → IfSome o (Stands StillLasts k) → IfSome (or_named (named_by v (by_part id n)) o) (Stands StillLasts (k + 1))
  become_by k n p number at r b None gives o is = still StillLasts k p at r (lasts_on k p at (λ t. gives)) o is
  become_by k n p number at r b (Some v) gives o is = newly StillLasts k n p number at (now_lasts k p (became b)) (Some v) gives

  record AllStand (read : ℕ) (h : Held) : Type 0 where
    lasting : IfSome h.lasting (Stands StillLasts read)
    passing : IfSome h.passing (Stands Passes read)

  step_stands : (k n : ℕ) (p : Part) → n ≡ 1 + k → slice_get parts k ≡ Some p → (h : Held) → AllStand k h → (replaces becomes passes : Bool)
      → has_replaced m p ≡ replaces → has_become m p ≡ becomes → (is_changing m p || may_hold m p) ≡ passes
      → AllStand (k + 1) (and_named replaces becomes passes h (named_by (e p.cond) (by_part id n)))
  step_stands k n p number at h all true becomes passes r b c = record { lasting = newly StillLasts k n p number at (now_lasts k p (replaced r)) (e p.cond) refl; passing = tt }
  step_stands k n p number at h all false true passes r b c = record {
    lasting = become_by k n p number at r b (e p.cond) refl h.lasting all.lasting;
    passing = still Passes k p at r (λ place part is. is) h.passing all.passing;
  }
  step_stands k n p number at h all false false true r b c = record {
    lasting = still StillLasts k p at r (lasts_on k p at (λ t. absurd (let clash : false ≡ true = sym b ∙ t in cc))) h.lasting all.lasting;
    passing = lesser_is (Stands Passes (k + 1)) h.passing (named_by (e p.cond) (by_part id n)) (still Passes k p at r (λ place part is. is) h.passing all.passing)
        (newly Passes k n p number at c (e p.cond) refl);
  }
  step_stands k n p number at h all false false false r b c = record {
    lasting = still StillLasts k p at r (lasts_on k p at (λ t. absurd (let clash : false ≡ true = sym b ∙ t in cc))) h.lasting all.lasting;
    passing = still Passes k p at r (λ place part is. is) h.passing all.passing;
  }

  -- the parts from place k on
  abbrev From : ℕ → List Part → Type 0
  From k ps = (i : ℕ) (p : Part) → slice_get ps i ≡ Some p → slice_get parts (k + i) ≡ Some p

  at_first : (k : ℕ) (p : Part) (ps : List Part) → From k (p ∷ ps) → slice_get parts k ≡ Some p
  at_first k p ps each = let same : k + 0 ≡ k = omega arith in subst (λ i. slice_get parts i ≡ Some p) same (each 0 p refl)

  at_later : (k : ℕ) (p : Part) (ps : List Part) → From k (p ∷ ps) → From (k + 1) ps
  at_later k p ps each i q is = let same : k + suc i ≡ (k + 1) + i = omega arith in subst (λ j. slice_get parts j ≡ Some q) same (each (suc i) q is)

  -- some number of parts is read, and that is all of them
  record AllRead (h : Held) : Type 0 where
    read : ℕ
    all : length parts ≤ read
    stand : AllStand read h

  from_stands : (k n : ℕ) (h : Held) (ps : List Part) → n ≡ 1 + k → length parts ≤ k + length ps → From k ps → AllStand k h → AllRead (held_from e m id n h ps)
  from_stands k n h [] number most each all = record { read = k; all = omega (arith, most); stand = all }
  from_stands k n h (p ∷ ps) number most each all =
      from_stands (k + 1) (n + 1) (with_part e m id n h p) ps (omega (arith, number)) (omega (arith, most)) (at_later k p ps each)
      (step_stands k n p number (at_first k p ps each) h all (has_replaced m p) (has_become m p) (is_changing m p || may_hold m p) refl refl refl)

  -- a part in force gives the value
  record IsOfPart (n : Named) : Type 0 where
    place : ℕ
    part : Part
    source : n.source ≡ by_part id (1 + place)
    force : IsInForce e m place parts part
    gives : e part.cond ≡ Some n.value

  -- all parts are read
  in_force_by : (C : ℕ → ℕ → Part → Type 0) (read : ℕ) → length parts ≤ read → ((place : ℕ) (part : Part) → C read place part → Counts e m parts place part) → (o : Option Named)
      → IfSome o (Stands C read) → IfSome o IsOfPart
  in_force_by C read all reason None is = tt
  in_force_by C read all reason (Some n) is = record {
    place = is.place;
    part = is.part;
    source = is.source;
    force = record {
      stands = is.there;
      counts = reason is.place is.part is.counts;
      last = λ later other after found. let less = within parts later other found in is.last later other after (omega (arith, less, all)) found;
    };
    gives = is.gives;
  }

  lasts_by : (read : ℕ) → length parts ≤ read → (place : ℕ) (part : Part) → StillLasts read place part → Counts e m parts place part
  lasts_by read all place part is =
      lasts is.lasting (λ later other after found become. let less = within parts later other found in is.last_named later other after (omega (arith, less, all)) found become)

  passes_by : (read place : ℕ) (part : Part) → Passes read place part → Counts e m parts place part
  passes_by read place part is = either (is_changing m part) (may_hold m part) (Counts e m parts place part) (λ t. changes t) (λ t. temporary t) is

-- each value that the parts of a forecast name is that of a part in force
parts_stand : (e : Element) (m id : ℕ) (parts : List Part) → IfSome (parts_named e m id parts) (IsOfPart e m id parts)
parts_stand e m id [] = tt
parts_stand e m id (p ∷ ps) =
    let h : Held = held_from e m id 2 (only_named (named_by (e p.cond) (by_part id 1))) ps in
    let each : From e m id (p ∷ ps) 1 ps = λ i q is. let same : suc i ≡ 1 + i = omega arith in subst (λ j. slice_get (p ∷ ps) j ≡ Some q) same is in
    let done : AllRead e m id (p ∷ ps) h =
    from_stands e m id (p ∷ ps) 1 2 (only_named (named_by (e p.cond) (by_part id 1))) ps refl (omega arith) each
    (record { lasting = newly e m id (p ∷ ps) (StillLasts e m id (p ∷ ps)) 0 1 p refl refl (now_lasts e m id (p ∷ ps) 0 p base) (e p.cond) refl; passing = tt }) in
    lesser_is (IsOfPart e m id (p ∷ ps)) h.lasting h.passing
    (in_force_by e m id (p ∷ ps) (StillLasts e m id (p ∷ ps)) done.read done.all (lasts_by e m id (p ∷ ps) done.read done.all) h.lasting done.stand.lasting)
    (in_force_by e m id (p ∷ ps) (Passes e m id (p ∷ ps)) done.read done.all (λ place part is. passes_by e m id (p ∷ ps) done.read place part is) h.passing done.stand.passing)

-- each source is held and gives its value
module _ (e : Element) (g : Grounds) (station : Station) (m : ℕ) where
  abbrev Given : Named → Type 0
  Given n = IsGivenBy e g station m n.value n.source

  of_part : (report : Report) (taf : Taf) (n : Named) → latest_taf g.reports station ≡ Some report → taf_of_read report.read ≡ Some taf → is_valid m taf ≡ true
      → IsOfPart e m report.id taf.parts n → Given n
  of_part report taf n latest is valid from =
      subst (λ s. IsGivenBy e g station m n.value s) (sym from.source) (forecast report taf from.place from.part latest is valid from.force from.gives)

  of_parts : (report : Report) (taf : Taf) (o : Option Named) → latest_taf g.reports station ≡ Some report → taf_of_read report.read ≡ Some taf → is_valid m taf ≡ true
      → IfSome o (IsOfPart e m report.id taf.parts) → IfSome o Given
  of_parts report taf None latest is valid from = tt
  of_parts report taf (Some n) latest is valid from = of_part report taf n latest is valid from

  if_given : (b : Bool) (o : Option Named) → (b ≡ true → IfSome o Given) → IfSome (cond b o None) Given
  if_given true o given = given refl
  if_given false o given = tt

  taf_given : (report : Report) (o : Option Taf) → latest_taf g.reports station ≡ Some report → taf_of_read report.read ≡ o → IfSome (taf_named e m report.id o) Given
  taf_given report None latest is = tt
  taf_given report (Some taf) latest is =
      if_given (is_valid m taf) (parts_named e m report.id taf.parts)
      (λ valid. of_parts report taf (parts_named e m report.id taf.parts) latest is valid (parts_stand e m report.id taf.parts))

  observed : (report : Report) (metar : Metar) → latest_metar g.reports station ≡ Some report → metar_of_read report.read ≡ Some metar
      → is_held g.tables.settings.hold_minutes m metar ≡ true → (v : Option ℕ) → e metar.cond ≡ v → IfSome (named_by v (by_report report.id)) Given
  observed report metar latest is held None gives = tt
  observed report metar latest is held (Some v) gives = observation report metar latest is held gives

  metar_given : (report : Report) (o : Option Metar) → latest_metar g.reports station ≡ Some report → metar_of_read report.read ≡ o
      → IfSome (metar_named e g.tables.settings.hold_minutes m report.id o) Given
  metar_given report None latest is = tt
  metar_given report (Some metar) latest is =
      if_given (is_held g.tables.settings.hold_minutes m metar) (named_by (e metar.cond) (by_report report.id)) (λ held. observed report metar latest is held (e metar.cond) refl)

  forecast_given : (o : Option Report) → latest_taf g.reports station ≡ o → IfSome (forecast_named e m o) Given
  forecast_given None is = tt
  forecast_given (Some r) is = taf_given r (taf_of_read r.read) is refl

  report_given : (o : Option Report) → latest_metar g.reports station ≡ o → IfSome (report_named e g.tables.settings.hold_minutes m o) Given
  report_given None is = tt
  report_given (Some r) is = metar_given r (metar_of_read r.read) is refl

  at_given : IfSome (named_at e g station m) Given
  at_given =
      lesser_is Given (forecast_named e m (latest_taf g.reports station)) (report_named e g.tables.settings.hold_minutes m (latest_metar g.reports station))
      (forecast_given (latest_taf g.reports station) refl) (report_given (latest_metar g.reports station) refl)

  from_given : (named : Option Named) → IfSome named Given → IsFrom e g station m (val named) (source_of named)
  from_given None given = tt
  from_given (Some n) given = given

  pub at_from : IsFrom e g station m (value_at e (taf_latest g.reports station) (metar_latest g.reports station) g.tables.settings.hold_minutes m) (source_at e g station m)
  at_from = subst (λ o. IsFrom e g station m o (source_at e g station m)) (val_at e g station m) (from_given (named_at e g station m) at_given)

-- the weather of a line is what controls, its sources give it, and each pair of minima stands for its origin
pub weather_of : (c : Case) (station : Station) (m : ℕ) (minima : List Pair) (origins : List Origin) (AreFrom : List Pair → List Origin → Type 0) → AreFrom minima origins
    → IsWeatherAt c.grounds station m minima AreFrom (weather_with c station m minima origins)
unfolding cond_at
weather_of c station m minima origins AreFrom are = record {
  place = refl;
  moment = refl;
  weather = refl;
  ceiling = at_from ceiling c.grounds station m;
  visibility = at_from visibility c.grounds station m;
  against = refl;
  stand_for = are;
}
