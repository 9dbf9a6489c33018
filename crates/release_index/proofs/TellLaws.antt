-- A release is touched just where it is active, and its active plan has the station or the aircraft, or a rule of time begins
-- to fail for it.
use Rattle.std.proofs.Common.{inl, inr, ◌≡◌, ◌↔◌, refl, ap, ◌∙◌, ℕ, ◌+◌, arith, Bool, true, List, Option, None, Some}
use Rattle.std.proofs.lemmas.Bool.{and_parts, and_from, leb-true, le-leb, cases_lt}
use Rattle.desk_io.specs.Station.{Station}
use Rattle.ops_tables.specs.declared.rows.Settings.{Settings}
use Rattle.plan.specs.Phases.{is_active}
use Rattle.plan.specs.declared.flights.Plan.{Plan}
use Rattle.plan.specs.declared.release.Phase.{Phase}
use Rattle.plan.specs.declared.release.Release.{Release}
use Rattle.plan.specs.declared.release.Revision.{Revision}
use Rattle.rules.specs.Due.{next_due, IsNextDue}
use Rattle.rules.specs.Touches.{names_station, is_of_tail, Names}
use Rattle.rules.proofs.NextDue.{next_due_is}
use Rattle.rules.proofs.TouchLaws.{named_exactly, tail_exactly}
use Rattle.release_index.specs.Tells.{IsActiveWhere, BeginsBy, TellsAt, TellsOn, TellsBy}
use Rattle.release_index.specs.Touched.{passes_in, is_active_where, is_due_by}

-- What a test of plans tells of each plan it tells of active releases.

module _ (test : Plan → Phase → Bool) (Holds : Plan → Phase → Type 0) (tells : (plan : Plan) (phase : Phase) → (test plan phase ≡ true) ↔ Holds plan phase) (r : Release) where
  there : (o : Option Revision) → r.active ≡ o → passes_in test o r.phase ≡ true → IsActiveWhere Holds r
  there None stands is = absurd cc
  there (Some v) stands is =
      let both = and_parts (is_active r.phase) (test v.plan r.phase) is in
      record { revision = v; stands = stands; active = both.0; holds = (tells v.plan r.phase).0 both.1 }

  back : IsActiveWhere Holds r → passes_in test r.active r.phase ≡ true
  back it =
      ap (λ o. passes_in test o r.phase) it.stands
      ∙ and_from (is_active r.phase) (test it.revision.plan r.phase) it.active ((tells it.revision.plan r.phase).1 it.holds)

  active_exactly : (is_active_where test r ≡ true) ↔ IsActiveWhere Holds r
  active_exactly = (there r.active refl, back)

pub tells_at : (station : Station) → TellsAt station
tells_at station = record {
  exactly = active_exactly (λ plan phase. names_station plan phase station) (λ plan phase. Names plan phase station) (λ plan phase. named_exactly plan phase station);
}

pub tells_on : (tail : List ℕ) → TellsOn tail
tells_on tail = record {
  exactly = active_exactly (λ plan phase. is_of_tail plan tail) (λ plan phase. plan.tail ≡ tail) (λ plan phase. tail_exactly plan tail);
}

-- A rule of time begins to fail in a time just where the next minute at which one does lies in it.

module _ (settings : Settings) (moment minute : ℕ) (plan : Plan) (phase : Phase) where
  due_begins : (o : Option ℕ) → IsNextDue plan phase settings moment o → is_due_by minute o ≡ true → BeginsBy settings moment minute plan phase
  due_begins None next is = absurd cc
  due_begins (Some due) next is = record { due = due; later = next.0; within = leb-true due minute is; begins = next.1 }

  begins_due : (o : Option ℕ) → IsNextDue plan phase settings moment o → BeginsBy settings moment minute plan phase → is_due_by minute o ≡ true
  begins_due None none it = absurd (none (it.due + 1) it.due it.later (omega arith) it.begins)
  begins_due (Some due) next it = elim (cases_lt it.due due) [
    | inl before ↦ absurd (next.2 it.due it.later before it.begins)
    | inr after ↦ let within = it.within in le-leb due minute (omega (arith, after, within))
  ]

  due_exactly : (is_due_by minute (next_due plan phase settings moment) ≡ true) ↔ BeginsBy settings moment minute plan phase
  due_exactly =
      let next = next_due_is plan phase settings moment in
      (due_begins (next_due plan phase settings moment) next, begins_due (next_due plan phase settings moment) next)

pub tells_by : (settings : Settings) (moment minute : ℕ) → TellsBy settings moment minute
tells_by settings moment minute = record {
  exactly = active_exactly (λ plan phase. is_due_by minute (next_due plan phase settings moment)) (BeginsBy settings moment minute) (due_exactly settings moment minute);
}
