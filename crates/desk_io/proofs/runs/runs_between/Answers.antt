use Rattle.std.proofs.Common.{◌+◌, arith, ap, length, length-drop}
use Rattle.desk_io.proofs.RunLaws.{run_step}
use Rattle.desk_io.proofs.runs.runs_between.Goals as goal

pub loop-rest-preserved : goal.loop-rest-preserved
loop-rest-preserved g c = record {
  runs = run_step _ _ _ _ _ _ _ c.run_length-end.ensures.value c.if-end-rest.true c.in_ok-push_run.ensures.ok c.after-rest.ensures c.loop-rest.invariant.runs;
  within = omega (arith, ap length c.after-rest.ensures, length-drop (c.run_length-end.result + 1) c.loop-rest.rest.now);
}
