-- The releases of records that fit together.
use Rattle.std.proofs.Common.{◌≡◌, ℕ, ◌+◌, ◌<◌, ◌≤◌, arith, false, ◌||◌, List, [], ◌∷◌, length, Option, None, Some, IfSome, refl}
use Rattle.std.specs.Prelude.{nat_le}
use Rattle.std.specs.List.{AllByRecursion, filter_map}
use Rattle.std.proofs.lemmas.Bool.{ltb-true, ltb-false, leb-false, or_parts}
use Rattle.plan.specs.declared.release.Release.{Release as ReleaseOf}
use Rattle.plan.specs.declared.release.Revision.{Revision}
use Rattle.asks.specs.Forms.{IsRevision}
use Rattle.asks.proofs.PlanForms.{plan_from_forms}
use Rattle.release_json.specs.Kept.{IsKept}
use Rattle.desk_state.specs.Sound.{MayStand, ReleaseInBounds, RevisionInBounds, Rise}
use Rattle.records.specs.Faults.{is_late}
use Rattle.records.specs.Valid.{IsRecord}
use Rattle.records.specs.declared.record.Meta.{Meta as MetaOf}
use Rattle.records.specs.declared.record.Record.{Record}
use Rattle.records.specs.declared.record.Record.TheVariants.{Meta, Report, Deferral, Release, Kept, Alert}
use Rattle.row_changes.specs.Held.{AreOfDesk, meta_in, release_in}
use Rattle.row_changes.proofs.Lists.{Pairs, each_mapped, pairs_mapped}
use Rattle.row_changes.proofs.Fitting.{Agree, IsAmong, all_agree, are_few, each_among}
use Rattle.row_changes.proofs.PartLaws.{Counted, at_most}
use Rattle.desk_io.proofs.Each.{each_weaker}
use Rattle.std.proofs.lemmas.Option.{IfSome_then}

-- ---- a release that may be kept is one that may stand

not_above : (events : ℕ) (o : Option Revision) → is_late events o ≡ false → IfSome o (λ v. v.number ≤ events)
not_above events None late = tt
not_above events (Some v) late = ltb-false events v.number late

-- ---- and is within bounds

revision_is : (v : Revision) → IsRevision v → RevisionInBounds v
revision_is v is = record {
  is_plan = plan_from_forms v.plan is.plan;
  dispatcher = IfSome_then v.dispatcher is.dispatcher (λ signature signed. signed.at);
  captain = IfSome_then v.captain is.captain (λ signature signed. signed.at);
}

pub release_is : (r : ReleaseOf) → IsKept r → ReleaseInBounds r
release_is r is = record {
  moment = is.formed.moment;
  pending = IfSome_then r.pending is.formed.pending revision_is;
  active = IfSome_then r.active is.formed.active revision_is;
}

-- a release that may stand, whose id is below a number
record IsHeldRelease (events next : ℕ) (r : ReleaseOf) : Type 0 where
  pub stands : MayStand events r
  pub bounds : ReleaseInBounds r
  pub below : r.id < next

held_release : (m : MetaOf) (r : ReleaseOf) → IsKept r → (nat_le m.counters.next_release r.id || is_late m.counters.events r.pending || is_late m.counters.events r.active) ≡ false → IsHeldRelease m.counters.events m.counters.next_release r
held_release m r is ahead =
    let last = or_parts (nat_le m.counters.next_release r.id || is_late m.counters.events r.pending) (is_late m.counters.events r.active) ahead in
    let first = or_parts (nat_le m.counters.next_release r.id) (is_late m.counters.events r.pending) last.0 in
    record {
      stands = record { valid = is.valid; within = (not_above m.counters.events r.pending first.1, not_above m.counters.events r.active last.1) };
      bounds = release_is r is;
      below = leb-false m.counters.next_release r.id first.0;
    }

release_among : (rs : List Record) (m : MetaOf) (x : Record) → IsAmong rs m x → IfSome (release_in x) (IsHeldRelease m.counters.events m.counters.next_release)
unfolding IsRecord
release_among rs m (Release r) is = held_release m r is.valid.1 is.ahead
release_among rs m (Meta n) is = tt
release_among rs m (Report r) is = tt
release_among rs m (Deferral d) is = tt
release_among rs m (Kept k) is = tt
release_among rs m (Alert a) is = tt

held_releases : (rs : List Record) (m : MetaOf) → AreOfDesk rs → meta_in rs ≡ Some m → AllByRecursion (IsHeldRelease m.counters.events m.counters.next_release) (filter_map release_in rs)
held_releases rs m are is = each_mapped (IsAmong rs m) (IsHeldRelease m.counters.events m.counters.next_release) release_in (release_among rs m) rs (each_among rs m are is)

-- ---- all of them

pub releases_valid : (rs : List Record) (m : MetaOf) → AreOfDesk rs → meta_in rs ≡ Some m → AllByRecursion (MayStand m.counters.events) (filter_map release_in rs)
releases_valid rs m are is = each_weaker (IsHeldRelease m.counters.events m.counters.next_release) (MayStand m.counters.events) (λ r held. held.stands) (filter_map release_in rs) (held_releases rs m are is)

pub releases_bounded : (rs : List Record) (m : MetaOf) → AreOfDesk rs → meta_in rs ≡ Some m → AllByRecursion ReleaseInBounds (filter_map release_in rs)
releases_bounded rs m are is = each_weaker (IsHeldRelease m.counters.events m.counters.next_release) ReleaseInBounds (λ r held. held.bounds) (filter_map release_in rs) (held_releases rs m are is)

count_release : Counted 3 release_in
count_release (Meta m) rs = refl
count_release (Report r) rs = refl
count_release (Deferral d) rs = refl
count_release (Release r) rs = omega arith
count_release (Kept k) rs = refl
count_release (Alert a) rs = refl

pub releases_few : (rs : List Record) → AreOfDesk rs → length (filter_map release_in rs) ≤ 20_000
releases_few rs are = at_most 3 release_in count_release rs 20_000 (are_few rs are).releases

abbrev pub Below : ReleaseOf → ReleaseOf → Type 0
Below a b = a.id < b.id

releases_apart : (x y : Record) → Agree x y → IfSome (release_in x) (λ a. IfSome (release_in y) (Below a))
releases_apart (Release a) (Release b) agree = ltb-true a.id b.id agree.0
releases_apart (Release a) (Meta m) agree = tt
releases_apart (Release a) (Report r) agree = tt
releases_apart (Release a) (Deferral d) agree = tt
releases_apart (Release a) (Kept k) agree = tt
releases_apart (Release a) (Alert b) agree = tt
releases_apart (Meta m) y agree = tt
releases_apart (Report r) y agree = tt
releases_apart (Deferral d) y agree = tt
releases_apart (Kept k) y agree = tt
releases_apart (Alert a) y agree = tt

-- the ids rise
pub release_pairs : (rs : List Record) → AreOfDesk rs → Pairs Below (filter_map release_in rs)
release_pairs rs are = pairs_mapped Agree Below release_in releases_apart rs (all_agree rs are)

rise_from : (low : ℕ) (rs : List ReleaseOf) (next : ℕ) → low ≤ next → AllByRecursion (λ r. low ≤ r.id) rs → AllByRecursion (λ r. r.id < next) rs → Pairs Below rs → Rise low rs next
rise_from low [] next within above below pairs = within
rise_from low (r ∷ rs) next within above below pairs =
    let less = below.0 in
    (above.0, rise_from (r.id + 1) rs next (omega (arith, less)) (each_weaker (Below r) (λ q. r.id + 1 ≤ q.id) (λ q later. omega (arith, later)) rs pairs.0) below.1 pairs.1)

pub releases_rise : (rs : List Record) (m : MetaOf) → AreOfDesk rs → meta_in rs ≡ Some m → Rise 0 (filter_map release_in rs) m.counters.next_release
releases_rise rs m are is =
    let held = held_releases rs m are is in
    rise_from 0 (filter_map release_in rs) m.counters.next_release (omega arith)
    (each_weaker (IsHeldRelease m.counters.events m.counters.next_release) (λ r. 0 ≤ r.id) (λ r one. omega arith) (filter_map release_in rs) held)
    (each_weaker (IsHeldRelease m.counters.events m.counters.next_release) (λ r. r.id < m.counters.next_release) (λ r one. one.below) (filter_map release_in rs) held) (release_pairs rs are)
