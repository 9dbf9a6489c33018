use Rattle.std.proofs.Common.{◌∙◌, sym, arith}
use Rattle.pg_scram.specs.Keyed.{salted}
use Rattle.pg_scram.proofs.Bytes.{stretch_step, stretch_end}
use Rattle.pg_scram.proofs.keyed.salted.Goals as goal

pub loop-left-preserved : goal.loop-left-preserved
loop-left-preserved c =
    stretch_step _ _ _ _ _ _ (omega (arith, c.loop-left-test.true)) c.hmac-next.ensures c.combined-sum.ensures ∙ c.loop-left.invariant

pub returns : goal.returns
unfolding salted
returns c = sym (stretch_end _ _ _ _ (omega (arith, c.loop-left-test.false))) ∙ c.loop-left.invariant
