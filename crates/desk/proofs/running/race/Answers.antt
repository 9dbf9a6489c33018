use Rattle.std.proofs.Common.{◌∙◌, ap, map, subst, sym}
use Rattle.std.specs.Prelude.{IfOk}
use Rattle.desk.proofs.Merged.{made_fresh, race_none}
use Rattle.desk.proofs.RaceLaws.{race_is}
use Rattle.desk.specs.Keeping.{kept_at}
use Rattle.desk.specs.Race.{IsRace, IsRaceInPart}
use Rattle.desk.specs.Round.{items_in}
use Rattle.desk.proofs.running.race.Goals as goal

pub run_lanes-requires-clause-fresh : goal.run_lanes-requires-clause-fresh
run_lanes-requires-clause-fresh g c κs within = made_fresh c.in-Ok.lanes.items c.args.scripts.now c.in-Ok.ensures

pub told_of-requires : goal.told_of-requires
told_of-requires g c = c.run_lanes.ensures.on.listed c.requires.listed

pub returns-in-Err-clause-part : goal.returns-in-Err-clause-part
returns-in-Err-clause-part g c = race_none (kept_at (g.K.Keeper.seen c.args.desk.keeper)) c.args.desk.board.state c.args.scripts.now

pub returns-in-Ok-clause-race : goal.returns-in-Ok-clause-race
returns-in-Ok-clause-race g c =
    let seen = g.K.Keeper.seen in
    let ran = c.run_lanes in
    let told = c.told_of in
    let s = c.args.desk.board.state in
    let low = kept_at (seen c.args.desk.keeper) in
    subst (λ d. IfOk told.result.text (λ x. IsRace low (kept_at (seen d.keeper)) s c.args.scripts.now d.board.state x)) (sym told.ensures.desk)
    (race_is ran.result.whole told.result.text low (kept_at (seen ran.result.desk.keeper)) s ran.result.desk.board.state c.args.scripts.now c.in-Ok.lanes.items ran.result.lanes.items c.in-Ok.ensures
    ran.ensures.items told.ensures.whole ran.ensures.merged ran.ensures.done ran.ensures.history told.ensures.text)

pub returns-in-Ok-clause-part : goal.returns-in-Ok-clause-part
returns-in-Ok-clause-part g c =
    let seen = g.K.Keeper.seen in
    let ran = c.run_lanes in
    let told = c.told_of in
    let s = c.args.desk.board.state in
    let low = kept_at (seen c.args.desk.keeper) in
    subst (λ d. IsRaceInPart low (kept_at (seen d.keeper)) s c.args.scripts.now d.board.state) (sym told.ensures.desk)
    (record { lanes = ran.result.lanes.items; items = ran.ensures.items ∙ ap (map items_in) c.in-Ok.ensures; part = ran.ensures.part })
