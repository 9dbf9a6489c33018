-- Each record of a state is valid, and none outruns the counters.
use Rattle.std.proofs.Common.{◌≡◌, ℕ, ◌+◌, ◌<◌, ◌≤◌, arith, false, ◌||◌, Option, None, Some, IfSome, Result, Ok, Err, IsOk, refl}
use Rattle.std.specs.Prelude.{nat_le, nat_lt}
use Rattle.std.specs.List.{AllByRecursion}
use Rattle.std.proofs.lemmas.Bool.{le-ltb, lt-leb, or_from}
use Rattle.alerts.specs.declared.alert.Alert.{Alert as AlertOf}
use Rattle.alerts.specs.Alerts.{IsAlert}
use Rattle.asks.specs.declared.kept.KeptReply.{KeptReply}
use Rattle.deferrals.specs.declared.items.Deferral.{Deferral as DeferralOf}
use Rattle.facts.specs.Reading.{read_of}
use Rattle.facts.specs.declared.report.Report.{Report as ReportOf}
use Rattle.row_changes.specs.Rows.{alert_kept, meta_of, report_kept}
use Rattle.desk_state.specs.Sound.{AreCounters, IsNumbered, IsOpen, IsReplied, MayStand}
use Rattle.desk_state.specs.State.{State}
use Rattle.desk_time.specs.Limits.{IsMoment}
use Rattle.plan.specs.declared.release.Release.{Release as ReleaseOf}
use Rattle.plan.specs.declared.release.Revision.{Revision}
use Rattle.asks.specs.Forms.{IsId, FloorsRise, IsFloor, IsFormed}
use Rattle.records.specs.Faults.{is_ahead, is_late, outruns}
use Rattle.records.specs.Valid.{IsMeta, IsRecord}
use Rattle.records.specs.declared.record.Meta.{Meta as MetaOf}
use Rattle.records.specs.declared.record.Record.{Record}
use Rattle.records.specs.declared.record.Record.TheVariants.{Meta, Report, Deferral, Release, Kept, Alert}
use Rattle.desk_state.specs.Formed.{AlertHasForms, DeferralHasForms, ReplyHasForms, ReportHasForms}

-- ---- no revision is late

not_late : (most : ℕ) (o : Option Revision) → IfSome o (λ v. v.number ≤ most) → is_late most o ≡ false
not_late most None is = refl
not_late most (Some v) is = le-ltb most v.number is

-- ---- the counters

-- what holds of a moment and of counters that are kept
pub record Counts (m : MetaOf) : Type 0 where
  pub counters : AreCounters m.counters
  pub moment : IsMoment m.moment
  pub room : m.counters.events < 999_999_999_999_999

pub id_below : (s : State) → Counts (meta_of s) → (next id : ℕ) → next ≤ s.counters.events + 1 → id < next → IsId id
id_below s is next id few below = let room = is.room in omega (arith, few, below, room)

meta_valid : (s : State) → Counts (meta_of s) → AllByRecursion IsFloor s.floors → FloorsRise s.floors → IsMeta (meta_of s)
meta_valid s is floors rising =
    let room = is.room in
    record {
      moment = is.moment;
      counters = record {
        events = omega (arith, room);
        next_report = let few = is.counters.report in omega (arith, room, few);
        next_deferral = let few = is.counters.deferral in omega (arith, room, few);
        next_release = let few = is.counters.release in omega (arith, room, few);
        next_kept = let few = is.counters.accepted in omega (arith, room, few);
      };
      floors = floors;
      rising = rising;
    }

none_outruns : (s : State) → Counts (meta_of s) → outruns s.counters ≡ false
none_outruns s is =
    let c = s.counters in
    let most = c.events + 1 in
    or_from (nat_lt most c.next_report || nat_lt most c.next_deferral || nat_lt most c.next_release) (nat_lt most c.next_kept)
    (or_from (nat_lt most c.next_report || nat_lt most c.next_deferral) (nat_lt most c.next_release)
    (or_from (nat_lt most c.next_report) (nat_lt most c.next_deferral) (le-ltb most c.next_report is.counters.report) (le-ltb most c.next_deferral is.counters.deferral))
    (le-ltb most c.next_release is.counters.release))
    (le-ltb most c.next_kept is.counters.accepted)

-- ---- each record, with what is ahead of the counters

-- a valid record that outruns no counter
pub record IsKeptRecord (s : State) (r : Record) : Type 0 where
  pub valid : IsRecord r
  pub ahead : is_ahead s.counters r ≡ false

pub kept_meta : (s : State) → Counts (meta_of s) → AllByRecursion IsFloor s.floors → FloorsRise s.floors → IsKeptRecord s (Meta (meta_of s))
unfolding IsRecord
kept_meta s is floors rising = record { valid = meta_valid s is floors rising; ahead = none_outruns s is }

is_read : {A E : Type 0} (o : Result A E) (x : A) → o ≡ Ok x → IsOk o
is_read (Ok y) x is = refl
is_read (Err e) x is = absurd (cc)

pub kept_report : (s : State) (r : ReportOf) → Counts (meta_of s) → ReportHasForms r → IsNumbered s.counters.next_report r → IsKeptRecord s (Report (report_kept r))
unfolding IsRecord
kept_report s r is formed below = record {
  valid = record {
    id = id_below s is s.counters.next_report r.id is.counters.report below;
    received = formed.read.moments.received;
    text = formed.text;
    canonical = formed.read.canonical;
    read = is_read (read_of r.text r.received) r.read formed.read.reading;
  };
  ahead = lt-leb s.counters.next_report r.id below;
}

pub kept_deferral : (s : State) (d : DeferralOf) → Counts (meta_of s) → DeferralHasForms d → IsOpen s.counters.next_deferral d → IsKeptRecord s (Deferral d)
unfolding IsRecord
kept_deferral s d is formed open_now = record {
  valid = record { id = id_below s is s.counters.next_deferral d.id is.counters.deferral open_now.0; tail = formed.tail; item = formed.item; found = open_now.1 };
  ahead = lt-leb s.counters.next_deferral d.id open_now.0;
}

pub kept_release : (s : State) (r : ReleaseOf) → Counts (meta_of s) → IsFormed r → MayStand s.counters.events r → r.id < s.counters.next_release → IsKeptRecord s (Release r)
unfolding IsRecord
kept_release s r is formed stands below = record {
  valid = (id_below s is s.counters.next_release r.id is.counters.release below, record { formed = formed; valid = stands.valid });
  ahead =
      or_from (nat_le s.counters.next_release r.id || is_late s.counters.events r.pending) (is_late s.counters.events r.active)
      (or_from (nat_le s.counters.next_release r.id) (is_late s.counters.events r.pending) (lt-leb s.counters.next_release r.id below)
      (not_late s.counters.events r.pending stands.within.0))
      (not_late s.counters.events r.active stands.within.1);
}

pub kept_reply : (s : State) (k : KeptReply) → Counts (meta_of s) → ReplyHasForms k → IsReplied s.counters.next_kept k → IsKeptRecord s (Kept k)
unfolding IsRecord
kept_reply s k is formed replied = record {
  valid = record {
    id = id_below s is s.counters.next_kept k.id is.counters.accepted replied.0;
    actor = formed.actor;
    number = formed.number;
    digest = formed.digest;
    at = replied.1;
    done = formed.done;
  };
  ahead = lt-leb s.counters.next_kept k.id replied.0;
}

pub kept_alert : (s : State) (a : AlertOf) → Counts (meta_of s) → AlertHasForms a → IsAlert s.counters.events a → a.release < s.counters.next_release → IsKeptRecord s (Alert (alert_kept a))
unfolding IsRecord
kept_alert s a is formed alert below = record {
  valid = record {
    release = id_below s is s.counters.next_release a.release is.counters.release below;
    version = let few = alert.version in let room = is.room in omega (arith, few, room);
    first = alert.first;
    opened = alert.moment;
    failing = record { forms = formed.failing; order = alert.failing };
    ever = record { forms = formed.ever; order = alert.ever };
    among = alert.among;
  };
  ahead = le-ltb s.counters.events a.version alert.version;
}
