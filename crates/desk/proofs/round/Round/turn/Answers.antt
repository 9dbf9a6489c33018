use Rattle.std.proofs.Common.{arith}
use Rattle.desk.proofs.Merged.{round_went, round_stops}
use Rattle.desk.proofs.Taken.{taken_by}
use Rattle.desk.proofs.round.Round.turn.Goals as goal

pub invariant_of-self : goal.invariant_of-self
invariant_of-self g c =
    round_went g.K.Keeper.seen g.B.Bell.seen g.J.Beginning.began c.self.inside.desk c.take_turn.new.desk c.self.inside.lanes.items c.args.place c.index_mut.result.now c.take_turn.new.self c.self.inside.ended c.if-self.false c.self.invariant
    (let within = c.if-place-len.false in let long = c.len.ensures in omega (arith, within, long)) c.index_mut.ensures.value c.take_turn.ensures.on c.in-Ok.went c.in-Ok.ensures.taken

pub invariant_of-self-in-Err : goal.invariant_of-self-in-Err
invariant_of-self-in-Err g c =
    round_stops g.K.Keeper.seen g.B.Bell.seen g.J.Beginning.began c.self.inside.desk c.take_turn.new.desk c.self.inside.lanes.items c.args.place c.index_mut.result.now c.take_turn.new.self c.self.inside.ended c.if-self.false c.self.invariant
    (let within = c.if-place-len.false in let long = c.len.ensures in omega (arith, within, long)) c.index_mut.ensures.value c.take_turn.ensures.on c.in-Err.ensures.same c.in-Err.ensures.err

pub returns-in-Ok : goal.returns-in-Ok
returns-in-Ok g c = record {
  taken = taken_by g.K.Keeper.seen g.B.Bell.seen c.self.inside.desk c.take_turn.new.desk c.self.inside.lanes.items c.args.place c.index_mut.result.now c.take_turn.new.self c.self.inside.ended
      (let within = c.if-place-len.false in let long = c.len.ensures in omega (arith, within, long)) c.index_mut.ensures.value c.args.self.now c.self.view_is c.in-Ok.went c.in-Ok.ensures.taken;
}
