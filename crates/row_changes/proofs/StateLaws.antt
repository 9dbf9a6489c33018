-- The state that records stand for may be judged and then stand as that of a board.
use Rattle.std.proofs.Common.{◌≡◌, ◌+◌, ◌<◌, arith, false, ◌||◌, List, Option, None, Some, refl}
use Rattle.std.specs.Prelude.{nat_lt}
use Rattle.std.proofs.lemmas.Bool.{ltb-false, leb-false, or_parts}
use Rattle.ops_tables.specs.Named.{AreNamed}
use Rattle.ops_tables.specs.Tables.{TableRows}
use Rattle.desk_state.specs.Sound.{AreCounters, AreJudgeable, InBounds, IsBoard}
use Rattle.desk_state.specs.State.{start}
use Rattle.desk_state.proofs.HoldLaws.{start_holds}
use Rattle.records.specs.Faults.{outruns}
use Rattle.records.specs.Valid.{IsRecord}
use Rattle.records.specs.declared.record.Meta.{Meta as MetaOf}
use Rattle.desk_state.specs.declared.counters.Counters.{Counters}
use Rattle.records.specs.declared.record.Record.{Record}
use Rattle.records.specs.declared.record.Record.TheVariants.{Meta}
use Rattle.row_changes.specs.Held.{AreOfDesk, meta_in, state_by, state_in, state_with}
use Rattle.row_changes.specs.Opening.{MayReopen, reopened}
use Rattle.row_changes.proofs.Fitting.{HasRoom, IsAmong, meta_among}
use Rattle.row_changes.proofs.PartLaws.{deferrals_open, replies_few, replies_numbered, replies_rise, replies_single, reports_few, reports_numbered, reports_rise, reports_unlike}
use Rattle.row_changes.proofs.ReleaseLaws.{releases_bounded, releases_few, releases_rise, releases_valid}
use Rattle.row_changes.proofs.AlertLaws.{alerts_are, alerts_own, alerts_told}
use Rattle.row_changes.proofs.HeldForms.{counted_formed}
use Rattle.row_changes.proofs.OpeningLaws.{reopened_board}
use Rattle.row_changes.proofs.KeptForms.{Counts}

-- ---- the meta record

few_events : (m : MetaOf) → HasRoom (Meta m) → m.counters.events < 999_999_999_999_999
few_events m room = leb-false 999_999_999_999_999 m.counters.events room.1

counters_are : (c : Counters) → c.events < 999_999_999_999_999 → outruns c ≡ false → AreCounters c
counters_are c room within =
    let most = c.events + 1 in
    let kept = or_parts (nat_lt most c.next_report || nat_lt most c.next_deferral || nat_lt most c.next_release) (nat_lt most c.next_kept) within in
    let release = or_parts (nat_lt most c.next_report || nat_lt most c.next_deferral) (nat_lt most c.next_release) kept.0 in
    let deferral = or_parts (nat_lt most c.next_report) (nat_lt most c.next_deferral) release.0 in
    record {
      events = omega (arith, room);
      report = ltb-false most c.next_report deferral.0;
      deferral = ltb-false most c.next_deferral deferral.1;
      release = ltb-false most c.next_release release.1;
      accepted = ltb-false most c.next_kept kept.1;
    }

counts : (rs : List Record) (m : MetaOf) → IsAmong rs m (Meta m) → Counts m
unfolding IsRecord
counts rs m is = let room = few_events m is.room in record { moment = is.valid.moment; room = room; counters = counters_are m.counters room is.ahead }

-- ---- the state

bounds : (tables : TableRows) (rs : List Record) (m : MetaOf) → AreOfDesk rs → meta_in rs ≡ Some m → Counts m → InBounds (state_with tables m rs)
bounds tables rs m are is counts = record {
  moment = counts.moment;
  counters = counts.counters;
  reports = reports_numbered rs m are is;
  admitted = reports_rise rs are;
  few = reports_few rs are;
  deferrals = deferrals_open rs m are is;
  releases = releases_bounded rs m are is;
  held = releases_few rs are;
  replies = replies_numbered rs m are is;
  accepted = replies_rise rs are;
  many = let few = replies_few rs are in omega (arith, few);
  entries = omega arith;
  forms = tt;
}

judged_by : (tables : TableRows) (rs : List Record) (m : MetaOf) → AreOfDesk rs → meta_in rs ≡ Some m → AreJudgeable (state_with tables m rs)
judged_by tables rs m are is = record { own = alerts_own rs m are is; alerts = alerts_are rs m are is; ids = releases_rise rs m are is }

pub counted_reopens : (tables : TableRows) (rs : List Record) (m : MetaOf) → AreNamed tables → AreOfDesk rs → meta_in rs ≡ Some m → MayReopen (state_with tables m rs)
counted_reopens tables rs m names are is =
    let counts = counts rs m (meta_among rs m are is) in
    record {
      holds = record {
        bounds = bounds tables rs m are is counts;
        judgeable = judged_by tables rs m are is;
        told = alerts_told rs m are is;
        valid = releases_valid rs m are is;
        unlike = reports_unlike rs are;
        single = replies_single rs are;
        formed = counted_formed tables rs m names are is;
      };
      room = counts.room;
      fresh = refl;
    }

-- the beginning may be judged
start_reopens : (tables : TableRows) → AreNamed tables → MayReopen (start tables)
start_reopens tables names = record { holds = start_holds tables names; room = omega arith; fresh = refl }

reopens_by : (tables : TableRows) (rs : List Record) (o : Option MetaOf) → AreNamed tables → AreOfDesk rs → meta_in rs ≡ o → MayReopen (state_by tables o rs)
reopens_by tables rs None names are is = start_reopens tables names
reopens_by tables rs (Some m) names are is = counted_reopens tables rs m names are is

-- the state that records stand for, where these are valid, fit together and rise
pub may_reopen : (tables : TableRows) (rs : List Record) → AreNamed tables → AreOfDesk rs → MayReopen (state_in tables rs)
unfolding state_in
may_reopen tables rs names are = reopens_by tables rs (meta_in rs) names are refl

-- once it is judged it is that of a board
pub held_board : (tables : TableRows) (rs : List Record) → AreNamed tables → AreOfDesk rs → IsBoard (reopened (state_in tables rs)) (reopened (state_in tables rs))
held_board tables rs names are = reopened_board (state_in tables rs) (may_reopen tables rs names are)
