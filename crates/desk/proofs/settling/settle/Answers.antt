use Rattle.std.proofs.Common.{refl, subst, sym, ◌∙◌}
use Rattle.keeper.proofs.SeenLaws.{keeper_stays}
use Rattle.desk.proofs.AskedLaws.{asks_done, asks_failed, asks_nothing}
use Rattle.desk.proofs.SavedLaws.{between_none, step_between, step_failed}
use Rattle.desk.proofs.Steps.{stays, is_unkept, still_keeps, now_keeps}
use Rattle.desk.specs.Keeping.{KeepsState}
use Rattle.desk.proofs.settling.settle.Goals as goal

pub returns-then-not-changed-clause-on : goal.returns-then-not-changed-clause-on
returns-then-not-changed-clause-on g c = record {
  opening = c.install.ensures.opening;
  rows = still_keeps _ _ _ (c.install.ensures.state ∙ stays c.args.prepared c.args.desk.now.board.state (sym c.changed.ensures ∙ c.if-not-changed.true));
  keeper = keeper_stays _;
  saves = between_none _ _ _ _ refl (c.install.ensures.state ∙ stays c.args.prepared c.args.desk.now.board.state (sym c.changed.ensures ∙ c.if-not-changed.true));
  listed = λ held. c.install.ensures.listed ∙ held;
}

pub returns-in-Ok-None-clause-on : goal.returns-in-Ok-None-clause-on
returns-in-Ok-None-clause-on g c =
    let rows = rw c.in-Ok-None.field-0-is at c.in-Ok-None.ensures.rows in
    record {
      opening = c.install-in-Ok-None.ensures.opening;
      rows = now_keeps _ _ _ _ c.args.prepared _ c.changes.ensures rows c.requires.keeps c.install-in-Ok-None.ensures.state;
      keeper = c.keep.ensures.on;
      saves =
          step_between _ _ _ _ _ _ c.args.prepared (sym c.changed.ensures ∙ c.if-not-changed.false) c.changes.ensures c.requires.keeps c.requires.history c.requires.next (rw c.in-Ok-None.field-0-is at c.in-Ok-None.ensures.done)
          c.install-in-Ok-None.ensures.state;
      listed = λ held. c.install-in-Ok-None.ensures.listed ∙ held;
    }

pub returns-in-Ok-Some-clause-settled : goal.returns-in-Ok-Some-clause-settled
returns-in-Ok-Some-clause-settled g c =
    is_unkept _ _ c.args.prepared _ (sym c.changed.ensures ∙ c.if-not-changed.false) c.unkept.ensures.reply c.unkept.ensures.notices c.unkept.ensures.fault

pub returns-then-not-changed-clause-asks : goal.returns-then-not-changed-clause-asks
returns-then-not-changed-clause-asks g c = asks_nothing _ _ _ (sym c.changed.ensures ∙ c.if-not-changed.true)

pub returns-in-Ok-None-clause-asks : goal.returns-in-Ok-None-clause-asks
returns-in-Ok-None-clause-asks g c =
    asks_done _ _ _ _ _ (sym c.changed.ensures ∙ c.if-not-changed.false) c.install-in-Ok-None.ensures.fault c.keep.ensures.asked (rw c.in-Ok-None.field-0-is at c.in-Ok-None.ensures.done)

pub returns-in-Ok-Some-clause-asks : goal.returns-in-Ok-Some-clause-asks
returns-in-Ok-Some-clause-asks g c =
    asks_failed _ _ _ _ _ _ (sym c.changed.ensures ∙ c.if-not-changed.false) c.unkept.ensures.fault c.keep.ensures.asked (rw c.in-Ok-Some.field-0-is at c.in-Ok-Some.ensures.done)

pub returns-in-Ok-Some-clause-on : goal.returns-in-Ok-Some-clause-on
returns-in-Ok-Some-clause-on g c = record {
  opening = refl;
  rows = λ kept. subst (λ told. KeepsState told c.args.desk.now.board.state) (sym (rw c.in-Ok-Some.field-0-is at c.in-Ok-Some.ensures.rows)) kept;
  keeper = c.keep.ensures.on;
  saves =
      step_failed _ _ _ _ _ _ c.args.prepared (sym c.changed.ensures ∙ c.if-not-changed.false) c.changes.ensures c.requires.keeps c.requires.history c.requires.next
      (rw c.in-Ok-Some.field-0-is at c.in-Ok-Some.ensures.done) refl;
  listed = λ held. held;
}

pub returns-in-Err-clause-on : goal.returns-in-Err-clause-on
returns-in-Err-clause-on g c = record {
  opening = refl;
  rows = λ kept. subst (λ told. KeepsState told c.args.desk.now.board.state) (sym c.in-Err.ensures.same) kept;
  keeper = c.keep.ensures.on;
  saves =
      step_failed _ _ _ _ _ _ c.args.prepared (sym c.changed.ensures ∙ c.if-not-changed.false) c.changes.ensures c.requires.keeps c.requires.history c.requires.next c.in-Err.ensures.failed refl;
  listed = λ held. held;
}
