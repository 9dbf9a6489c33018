use Rattle.std.proofs.Common.{subst}
use Rattle.commands.proofs.Says.{Cause, follows, is_formed, status_cause, status_done, status_remains}
use Rattle.desk_io.specs.Over.{over}
use Rattle.commands.proofs.top.desk_main.Goals as goal

pub returns : goal.returns
returns g c =
    let said = c.answer_rung-answer in
    let answer = said.result.answer in
    let status = c.write-status.result in
    let sink = over g.O.Sink.seen c.args.out.now c.write-status.new.out in
    let all = follows g.K.Keeper.seen g.C.Clock.seen g.D.Door.seen g.D.Link.Link.seen c.args.keeper said.result.keeper c.args.clock said.result.clock c.args.door said.result.door _ _ said.result.board answer said.ensures.says in
    let on = all.served in
    let cause = status_cause _ sink _ answer status on.still on.tells c.write-status.ensures in
    record {
      complete = λ shelf door out keeper clock. status_remains _ sink (λ misses. misses.1 shelf) (λ failed. failed.1 out) (λ failed. failed.1 keeper) (λ failed. failed.1 door) (λ failed. failed.1 clock)
          answer status on.tells c.write-status.ensures;
      done = λ valid served. status_done _ sink (is_formed _ valid.formed) (λ misses. served.by_shelf misses.0) (λ failed. served.by_sink failed.0) (λ failed. served.by_keeper failed.0)
          (λ bad. bad (valid.tables, valid.passing)) (λ bad. bad.0 valid.faultless) (λ failed. served.by_door failed.0) (λ long. long valid.short) (λ failed. served.by_clock failed.0) (λ bad. bad valid.passing)
          answer status on.tells c.write-status.ensures;
      blames = record {
        three = λ shelf is. (subst (Cause _ _ _) is cause).1 shelf;
        four = λ out is. (subst (Cause _ _ _) is cause).1 out;
        five = λ keeper is. (subst (Cause _ _ _) is cause).1 keeper;
        nine = λ door is. (subst (Cause _ _ _) is cause).1 door;
        eleven = λ clock is. (subst (Cause _ _ _) is cause).1 clock;
      };
      ends = record { answer = answer; says = said.ensures.says; writes = c.write-status.ensures };
      clock = on.clock;
      still = λ zero. subst (Cause _ _ _) zero cause;
      door = on.door;
      keeper = all.keeper;
      steady = λ keeper is. (subst (Cause _ _ _) is cause).1 keeper;
      kept = all.are_kept;
      board = all.holds;
      bells = record { answer = answer; says = said.ensures.bells; writes = c.write-status.ensures };
      left = λ s is tells seven. (subst (Cause _ _ _) seven cause).1 (s, is, tells);
    }
