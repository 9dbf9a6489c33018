-- The latest report of a list with one more at its end.
use Rattle.std.proofs.Common.{◌≡◌, Bool, true, false, cond, List, ◌++◌, append-nil, option_to_list, Option, None, Some, refl, ◌∙◌}
use Rattle.desk_io.specs.Station.{Station}
use Rattle.facts.specs.declared.report.Read.{Read}
use Rattle.facts.specs.declared.report.Read.TheVariants as read
use Rattle.facts.specs.declared.report.Report.{Report}
use Rattle.facts.specs.declared.latest.Kind.TheVariants as kind
use Rattle.facts.specs.Latest.{is_kind, later, latest_metar, latest_taf}
use Rattle.rules.specs.Evidence.{is_metar, is_taf, with_metar, with_taf}
use Rattle.facts.proofs.IndexLaws.{latest_push, later_none}

where_alike : (held : Option Report) (r : Report) (alike : Bool) → later held (cond alike (Some r) None) ≡ cond alike (later held (Some r)) held
where_alike held r true = refl
where_alike held r false = later_none held

metar_kind : (x : Read) → is_kind kind.Observation x ≡ is_metar x
metar_kind (read.Metar metar) = refl
metar_kind (read.Taf taf) = refl

taf_kind : (x : Read) → is_kind kind.Forecast x ≡ is_taf x
taf_kind (read.Metar metar) = refl
taf_kind (read.Taf taf) = refl

-- the latest METAR of what is held and one report more
pub metar_with : (rs : List Report) (s : Station) (fresh : Option Report) → latest_metar (rs ++ option_to_list fresh) s ≡ with_metar (latest_metar rs s) s fresh
metar_with rs s None = rw append-nil refl
metar_with rs s (Some r) = latest_push kind.Observation s rs r ∙ rw (metar_kind r.read) (where_alike (latest_metar rs s) r _)

-- the latest TAF of what is held and one report more
pub taf_with : (rs : List Report) (s : Station) (fresh : Option Report) → latest_taf (rs ++ option_to_list fresh) s ≡ with_taf (latest_taf rs s) s fresh
taf_with rs s None = rw append-nil refl
taf_with rs s (Some r) = latest_push kind.Forecast s rs r ∙ rw (taf_kind r.read) (where_alike (latest_taf rs s) r _)
