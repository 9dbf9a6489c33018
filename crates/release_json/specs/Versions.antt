-- The versions of rows, of which the first stores no captain's hours.
use Rattle.std.specs.Prelude.{◌≡◌, ℕ, None, IfSome}
use Rattle.plan.specs.declared.release.Release.{Release}
use Rattle.plan.specs.declared.release.Revision.{Revision}
use Rattle.release_json.specs.declared.version.Version.{Version}
use Rattle.release_json.specs.declared.version.Version.TheVariants.{First, Second}

-- the number of a version, as it appears in the row of the counters
abbrev pub number_of : Version → ℕ
number_of First = 1
number_of Second = 2

-- the number of members in the JSON of a revision
abbrev pub members_of : Version → ℕ
members_of First = 6
members_of Second = 7

-- a revision without a captain's hours
abbrev pub LacksHours : Revision → Type 0
LacksHours v = v.hours ≡ None

-- a release without a captain's hours in any revision
pub record HasNoHours (r : Release) : Type 0 where
  pub pending : IfSome r.pending LacksHours
  pub active : IfSome r.active LacksHours

-- rows of this version represent the release in full
abbrev pub SaysRelease : Version → Release → Type 0
SaysRelease First r = HasNoHours r
SaysRelease Second r = Unit {0}
