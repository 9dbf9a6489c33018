-- What is made of records by their kinds is the state that they stand for.
use Rattle.std.proofs.Common.{◌≡◌, ℕ, ◌+◌, ◌<◌, All, List, [], ◌∷◌, ◌++◌, append-nil, Option, None, Some, IfSome, refl, sym, ap, ◌∙◌, subst}
use Rattle.std.specs.List.{AllByRecursion, AllPairs, filter_map}
use Rattle.std.specs.Option.{option_map}
use Rattle.std.proofs.lemmas.List.{append_assoc}
use Rattle.std.proofs.lemmas.List.Elements.{All-from_recursion, recursion_from_All}
use Rattle.desk_io.proofs.Each.{each_weaker}
use Rattle.desk_state.specs.Formed.{ReportHasForms}
use Rattle.desk_state.specs.Holds.{Holds}
use Rattle.facts.specs.Reading.{IsRead}
use Rattle.release_index.specs.Bounds.{ReleaseInBounds}
use Rattle.ops_tables.specs.Named.{AreNamed}
use Rattle.ops_tables.specs.Tables.{TableRows}
use Rattle.ops_tables.specs.declared.rows.Settings.{Settings}
use Rattle.records.specs.Faults.{meta_from}
use Rattle.records.specs.Valid.{IsRecord, IsReport}
use Rattle.records.specs.declared.record.Meta.{Meta as MetaOf}
use Rattle.records.specs.declared.record.Record.{Record}
use Rattle.records.specs.declared.record.Record.TheVariants.{Meta, Report, Deferral, Release, Kept, Alert}
use Rattle.row_changes.specs.Held.{AreOfDesk, alert_in, deferral_in, meta_in, release_in, reply_in, report_in, state_by, state_in}
use Rattle.row_changes.specs.Parting.{Kinds, first_of, no_kinds, with_record, with_records}
use Rattle.row_changes.specs.Restoring.{AreMade, MayHold, state_by_held, state_held}
use Rattle.row_changes.specs.declared.restoring.Held.{Held}
use Rattle.row_changes.proofs.AlertLaws.{Rises, alerts_in, alerts_rise}
use Rattle.row_changes.proofs.HeldForms.{report_valid, reports_formed}
use Rattle.row_changes.proofs.Lists.{all_pairs, each_mapped}
use Rattle.row_changes.proofs.PartLaws.{deferral_pairs, deferrals_few, reports_in, reports_rise}
use Rattle.row_changes.proofs.ReleaseLaws.{Below, release_is, release_pairs, releases_few}
use Rattle.row_changes.proofs.StateLaws.{may_reopen}

-- ---- the kinds of records

-- the first of two meta records, where each may be none
abbrev first : Option MetaOf → Option MetaOf → Option MetaOf
first None later = later
first (Some m) later = Some m

first_more : (o : Option MetaOf) (m : MetaOf) (later : Option MetaOf) → first (first_of o m) later ≡ first o (Some m)
first_more None m later = refl
first_more (Some other) m later = refl

first_none : (o : Option MetaOf) → first o None ≡ o
first_none None = refl
first_none (Some m) = refl

abbrev metas : ℕ → List Record → Option MetaOf
metas place rs = option_map (λ found. found.1) (meta_from place rs)

-- some kinds, and those of more records
abbrev joined : Kinds → ℕ → List Record → Kinds
joined k place rs = record {
  meta = first k.meta (metas place rs);
  reports = k.reports ++ filter_map report_in rs;
  deferrals = k.deferrals ++ filter_map deferral_in rs;
  releases = k.releases ++ filter_map release_in rs;
  replies = k.replies ++ filter_map reply_in rs;
  alerts = k.alerts ++ filter_map alert_in rs;
}

one_more : (r : Record) (k : Kinds) (place : ℕ) (rs : List Record) → joined (with_record r k) (place + 1) rs ≡ joined k place (r ∷ rs)
one_more (Meta m) k place rs = ap (λ meta. record (joined k (place + 1) rs) { meta = meta }) (first_more k.meta m (metas (place + 1) rs))
one_more (Report r) k place rs = ap (λ reports. record (joined k (place + 1) rs) { reports = reports }) (append_assoc k.reports (r ∷ []) (filter_map report_in rs))
one_more (Deferral d) k place rs = ap (λ deferrals. record (joined k (place + 1) rs) { deferrals = deferrals }) (append_assoc k.deferrals (d ∷ []) (filter_map deferral_in rs))
one_more (Release r) k place rs = ap (λ releases. record (joined k (place + 1) rs) { releases = releases }) (append_assoc k.releases (r ∷ []) (filter_map release_in rs))
one_more (Kept r) k place rs = ap (λ replies. record (joined k (place + 1) rs) { replies = replies }) (append_assoc k.replies (r ∷ []) (filter_map reply_in rs))
one_more (Alert a) k place rs = ap (λ alerts. record (joined k (place + 1) rs) { alerts = alerts }) (append_assoc k.alerts (a ∷ []) (filter_map alert_in rs))

all_joined : (rs : List Record) (k : Kinds) (place : ℕ) → with_records rs k ≡ joined k place rs
all_joined [] k place = rw (first_none k.meta, append-nil k.reports, append-nil k.deferrals, append-nil k.releases, append-nil k.replies, append-nil k.alerts) refl
all_joined (r ∷ rs) k place = all_joined rs (with_record r k) (place + 1) ∙ one_more r k place rs

-- the kinds of records
abbrev pub kinds_in : List Record → Kinds
kinds_in rs = record {
  meta = meta_in rs;
  reports = filter_map report_in rs;
  deferrals = filter_map deferral_in rs;
  releases = filter_map release_in rs;
  replies = filter_map reply_in rs;
  alerts = filter_map alert_in rs;
}

pub all_kinds : (rs : List Record) → with_records rs no_kinds ≡ kinds_in rs
all_kinds rs = all_joined rs no_kinds 0

-- ---- records that can be held

reports_read : (rs : List Record) → AllByRecursion IsRecord rs → All IsRead (reports_in rs)
reports_read rs valid =
    All-from_recursion IsRead (reports_in rs) (each_weaker ReportHasForms IsRead (λ r formed. formed.read) (reports_in rs) (reports_formed rs valid))

release_bounded : (x : Record) → IsRecord x → IfSome (release_in x) ReleaseInBounds
unfolding IsRecord
release_bounded (Release r) is = release_is r is.1
release_bounded (Meta m) is = tt
release_bounded (Report r) is = tt
release_bounded (Deferral d) is = tt
release_bounded (Kept k) is = tt
release_bounded (Alert a) is = tt

kinds_hold : (rs : List Record) → AreOfDesk rs → MayHold (kinds_in rs)
kinds_hold rs are =
    let valid = recursion_from_All IsRecord rs are.valid in
    record {
      valid = each_mapped IsRecord IsReport report_in report_valid rs valid;
      read = record { rising = reports_rise rs are; read = reports_read rs valid };
      deferred = all_pairs (λ a b. a.id < b.id) (filter_map deferral_in rs) (deferral_pairs rs are);
      few = deferrals_few rs are;
      filed = all_pairs Below (filter_map release_in rs) (release_pairs rs are);
      bounds = each_mapped IsRecord ReleaseInBounds release_in release_bounded rs valid;
      held = releases_few rs are;
      told = all_pairs Rises (alerts_in rs) (alerts_rise rs are);
    }

-- records that are valid, fit together and rise can be held
pub may_hold : (rs : List Record) (k : Kinds) → AreOfDesk rs → k ≡ with_records rs no_kinds → MayHold k
may_hold rs k are is = subst MayHold (sym (is ∙ all_kinds rs)) (kinds_hold rs are)

-- ---- the state

held_by : (tables : TableRows) (settings : Settings) (rs : List Record) (h : Held) (o : Option MetaOf) → AreMade settings (kinds_in rs) h → state_by_held tables o h ≡ state_by tables o rs
held_by tables settings rs h None made = refl
held_by tables settings rs h (Some m) made =
    let list : h.releases.list ≡ filter_map release_in rs = ap (λ r. r.list) made.releases in rw (made.reports, made.deferrals, list, made.alerts, made.kept) refl

-- what is made of records is the state that they stand for
pub held_state : (tables : TableRows) (settings : Settings) (rs : List Record) (h : Held) → AreMade settings (with_records rs no_kinds) h → state_held tables h ≡ state_in tables rs
unfolding state_in
held_state tables settings rs h made =
    let has = subst (λ k. AreMade settings k h) (all_kinds rs) made in
    ap (λ o. state_by_held tables o h) has.meta ∙ held_by tables settings rs h (meta_in rs) has

-- and may be held
pub made_holds : (tables : TableRows) (settings : Settings) (rs : List Record) (h : Held) → AreNamed tables → AreOfDesk rs → AreMade settings (with_records rs no_kinds) h → Holds (state_held tables h)
made_holds tables settings rs h names are made = subst Holds (sym (held_state tables settings rs h made)) (may_reopen tables rs names are).holds

-- the ids of what is kept rise
pub kept_rise : (tables : TableRows) (h : Held) (m : MetaOf) → h.meta ≡ Some m → Holds (state_held tables h) → AllPairs (λ a b. a.id < b.id) h.kept.items
kept_rise tables h m is holds =
    let of : Holds (state_by_held tables (Some m) h) = subst (λ (o : Option MetaOf). Holds (state_by_held tables o h)) is holds in
    of.bounds.accepted
