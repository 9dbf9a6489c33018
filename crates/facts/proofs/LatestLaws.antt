-- The fold of a list to its latest report gives the latest of the whole list.
use Rattle.std.proofs.Common.{◌≡◌, ℕ, ◌≤◌, Bool, true, false, cond, List, [], ◌∷◌, IsTrue, Option, None, Some, All, IfSome, refl, ap, arith, ltb-true, ltb-false, nat_lt}
use Rattle.std.proofs.lemmas.List.Elements.{All-nil, All-cons, recursion_from_All}
use Rattle.std.specs.List.{AllByRecursion}
use Rattle.desk_io.specs.Station.{Station}
use Rattle.facts.specs.declared.report.Report.{Report}
use Rattle.facts.specs.declared.latest.Kind.{Kind}
use Rattle.facts.specs.Same.{minute_of_report}
use Rattle.facts.specs.Reading.{HasMoments, IsRead}
use Rattle.facts.proofs.Admission.{moments_held}
use Rattle.facts.specs.Latest.{is_of, where_of, later, latest, IsLatestReport, IsLatest}

-- no such report is of a later moment, and none of an equal one
abbrev NoLater : Kind → Station → ℕ → Report → Type 0
NoLater kind station minute q = IsTrue (is_of kind station q) → minute_of_report q ≤ minute

-- another report in front
other_first : (kind : Kind) (station : Station) (r : Report) (rs : List Report) (o : Option Report)
    → is_of kind station r ≡ false → IsLatest kind station rs o → IsLatest kind station (r ∷ rs) o
other_first kind station r rs None other none = All-cons (λ q. IsTrue (is_of kind station q) → ⊥) r rs (λ alike. cc) none
other_first kind station r rs (Some s) other is = record {
  before = r ∷ is.before;
  after = is.after;
  stands = ap (λ xs. r ∷ xs) is.stands;
  alike = is.alike;
  greatest = All-cons (NoLater kind station (minute_of_report s)) r rs (λ alike. absurd cc) is.greatest;
  last = is.last;
}

-- one such report in front of a list that has none
first_alone : (kind : Kind) (station : Station) (r : Report) (rs : List Report)
    → is_of kind station r ≡ true → IsLatest kind station rs None → IsLatestReport kind station (r ∷ rs) r
first_alone kind station r rs alike none = record {
  before = [];
  after = rs;
  stands = refl;
  alike = alike;
  greatest = All-cons (NoLater kind station (minute_of_report r)) r rs (λ _. omega arith) (λ k d within it. absurd (none k d within it));
  last = λ k d within it. absurd (none k d within it);
}

-- one such report in front of a list whose latest is of another moment
first_of_two : (kind : Kind) (station : Station) (r s : Report) (rs : List Report) (before : Bool)
    → nat_lt (minute_of_report s) (minute_of_report r) ≡ before
    → is_of kind station r ≡ true → IsLatestReport kind station rs s → IsLatest kind station (r ∷ rs) (cond before (Some r) (Some s))
first_of_two kind station r s rs true before alike is = record {
  before = [];
  after = rs;
  stands = refl;
  alike = alike;
  greatest = All-cons (NoLater kind station (minute_of_report r)) r rs (λ _. omega arith)
      (λ k d within it. let below = ltb-true (minute_of_report s) (minute_of_report r) before in let least = is.greatest k d within it in omega arith);
  last = λ k d within it e. let below = ltb-true (minute_of_report s) (minute_of_report r) before in let least = is.greatest k d within it in omega arith;
}
first_of_two kind station r s rs false before alike is = record {
  before = r ∷ is.before;
  after = is.after;
  stands = ap (λ xs. r ∷ xs) is.stands;
  alike = is.alike;
  greatest = All-cons (NoLater kind station (minute_of_report s)) r rs (λ _. ltb-false (minute_of_report s) (minute_of_report r) before) is.greatest;
  last = is.last;
}

alike_first : (kind : Kind) (station : Station) (r : Report) (rs : List Report) (o : Option Report)
    → is_of kind station r ≡ true → IsLatest kind station rs o → IsLatest kind station (r ∷ rs) (later (Some r) o)
alike_first kind station r rs None alike none = first_alone kind station r rs alike none
alike_first kind station r rs (Some s) alike is = first_of_two kind station r s rs (nat_lt (minute_of_report s) (minute_of_report r)) refl alike is

latest_first : (kind : Kind) (station : Station) (r : Report) (rs : List Report) (o : Option Report) (alike : Bool)
    → is_of kind station r ≡ alike → IsLatest kind station rs o → IsLatest kind station (r ∷ rs) (later (cond alike (Some r) None) o)
latest_first kind station r rs o true alike is = alike_first kind station r rs o alike is
latest_first kind station r rs o false alike is = other_first kind station r rs o alike is

is_latest : (kind : Kind) (station : Station) (rs : List Report) → IsLatest kind station rs (latest kind station rs)
is_latest kind station [] = All-nil (λ q. IsTrue (is_of kind station q) → ⊥)
is_latest kind station (r ∷ rs) = latest_first kind station r rs (latest kind station rs) (is_of kind station r) refl (is_latest kind station rs)

-- the report that the fold gives is the latest
pub latest_is : (kind : Kind) (station : Station) (rs : List Report) (r : Option Report) → r ≡ latest kind station rs → IsLatest kind station rs r
latest_is kind station rs r e = rw e (is_latest kind station rs)

later_moments : (a b : Option Report) → IfSome a HasMoments → IfSome b HasMoments → IfSome (later a b) HasMoments
later_moments None b first second = second
later_moments (Some a) None first second = first
later_moments (Some a) (Some b) first second =
    elim (nat_lt (minute_of_report b) (minute_of_report a)) as (λ before. IfSome (cond before (Some a) (Some b)) HasMoments) [ true ↦ first | false ↦ second ]

where_moments : (r : Report) (alike : Bool) → HasMoments r → IfSome (cond alike (Some r) None) HasMoments
where_moments r true has = has
where_moments r false has = tt

moments_of_latest : (kind : Kind) (station : Station) (rs : List Report) → AllByRecursion HasMoments rs → IfSome (latest kind station rs) HasMoments
moments_of_latest kind station [] all = tt
moments_of_latest kind station (r ∷ rs) all =
    later_moments (where_of kind station r) (latest kind station rs) (where_moments r (is_of kind station r) all.0) (moments_of_latest kind station rs all.1)

-- the moments of the latest report are those of one in the list
pub latest_moments : (kind : Kind) (station : Station) (rs : List Report) (r : Option Report)
    → r ≡ latest kind station rs → All IsRead rs → IfSome r HasMoments
latest_moments kind station rs r e all = rw e (moments_of_latest kind station rs (recursion_from_All HasMoments rs (moments_held rs all)))
