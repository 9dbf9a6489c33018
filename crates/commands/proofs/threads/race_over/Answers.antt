use Rattle.std.proofs.Common.{◌∙◌, Err, ap, subst, sym, ◌≡◌, ◌≤◌, ℕ, List}
use Rattle.alerts.specs.Ringing.{hung_all}
use Rattle.scripts.specs.Below.{Shown, desk_at, DeskAt, IsRace, IsRaceInPart}
use Rattle.commands.proofs.Opened.{held_opened, keeper_worked, not_opened, opened_fresh, worked}
use Rattle.commands.proofs.RungLaws.{rung_over}
use Rattle.commands.specs.Working.{Races, told_of, since}
use Rattle.scripts.specs.Below.{OpensOver}
use Rattle.keeper.specs.Seen.{KeeperGoesOn}
use Rattle.std.specs.Prelude.{IfOk, Result, Ok}
use Rattle.scripts.proofs.Below.{merged_lower, part_lower, history_lower}
use Rattle.commands.proofs.threads.race_over.Goals as goal

races_told : {E : Type 0} (scripts : List (List ℕ)) (before after : DeskAt) (text : Result (List ℕ) E) → IfOk text (λ t. IsRace before.kept after.kept before.state scripts after.state t)
    → IsRaceInPart before.kept after.kept before.state scripts after.state → (less : ℕ) → less ≤ before.kept.faults → Races scripts (since less (record { before = before; after = after })) (told_of text)
races_told scripts before after (Ok text) race part less under = record {
  lanes = race.lanes;
  items = race.items;
  done = race.done;
  merged = merged_lower less before.kept after.kept before.state after.state race.lanes under race.merged;
  history = history_lower less before.kept.faults after.kept.faults before.state after.state race.lanes under race.history;
  says = race.says;
}
races_told scripts before after (Err e) race part less under = record {
  lanes = part.lanes;
  items = part.items;
  part = part_lower less before.kept after.kept before.state after.state part.lanes under part.part;
}

races_since : {E : Type 0} (scripts texts : List (List ℕ)) (before after : DeskAt) (text : Result (List ℕ) E) → scripts ≡ texts → IfOk text (λ t. IsRace before.kept after.kept before.state scripts after.state t)
    → IsRaceInPart before.kept after.kept before.state scripts after.state → (less : ℕ) → less ≤ before.kept.faults → Races texts (since less (record { before = before; after = after })) (told_of text)
races_since scripts texts before after text same race part less under =
    subst (λ ts. Races ts (since less (record { before = before; after = after })) (told_of text)) same (races_told scripts before after text race part less under)

pub holding-held-requires : goal.holding-held-requires
holding-held-requires g c = opened_fresh _ c.args.provided.tables c.in-Ok.desk.board c.in-Ok.ensures.opened c.now.ensures.board

pub race-desk-requires-clause-listed : goal.race-desk-requires-clause-listed
race-desk-requires-clause-listed g c κs within = ap (λ (b : Shown). b.listed) c.holding-held.ensures.board

pub returns-in-Ok-clause-opens : goal.returns-in-Ok-clause-opens
returns-in-Ok-clause-opens g c =
    let opened = c.in-Ok.ensures in
    let held = c.holding-held in
    let work = c.race-desk in
    let left = c.left in
    let seen = g.K.Keeper.seen in
    worked seen g.B.Bell.seen c.args.provided.tables (Races c.args.texts.now) c.args.provided.keeper held.result work.result.desk (told_of work.result.text) left.result
    (left.ensures.answer ∙ c.told_of.ensures) left.ensures.board left.ensures.keeper
    (held_opened _ c.args.provided.tables c.in-Ok.desk.board held.result.board opened.opened held.ensures.board)
    (subst (λ k. KeeperGoesOn (seen c.args.provided.keeper) (seen k)) (sym held.ensures.keeper) opened.on)
    (subst (λ k. OpensOver (seen c.args.provided.keeper) (seen k) c.args.provided.tables held.result.board) (sym held.ensures.keeper)
    (subst (λ (b : Shown). OpensOver (seen c.args.provided.keeper) (seen c.in-Ok.desk.keeper) c.args.provided.tables b) (sym held.ensures.board)
    (record { entered = opened.kept.entered; none = opened.kept.none; kept = opened.kept.kept })))
    work.ensures.on
    (races_since c.as_slice.result.now c.args.texts.now (desk_at seen held.result) (desk_at seen work.result.desk) work.result.text c.as_slice.ensures work.ensures.race work.ensures.part)
    left.ensures.holds

pub returns-in-Ok-clause-rung : goal.returns-in-Ok-clause-rung
returns-in-Ok-clause-rung g c =
    let opened = c.in-Ok.ensures in
    let held = c.holding-held in
    let work = c.race-desk in
    let left = c.left in
    let heard = g.B.Bell.seen in
    rung_over g.K.Keeper.seen heard _ c.args.provided.tables held.result work.result.desk left.result (hung_all heard c.args.provided.ringer) left.ensures.board (ap (hung_all heard) left.ensures.ringer)
    (ap (hung_all heard) (held.ensures.ringer ∙ opened.ringer)) (held_opened _ c.args.provided.tables c.in-Ok.desk.board held.result.board opened.opened held.ensures.board) work.ensures.on left.ensures.holds

pub returns-in-Ok-clause-keeper : goal.returns-in-Ok-clause-keeper
returns-in-Ok-clause-keeper g c =
    let seen = g.K.Keeper.seen in
    keeper_worked seen c.args.provided.keeper c.holding-held.result.keeper c.race-desk.result.desk.keeper c.left.result.keeper c.left.ensures.keeper
    (subst (λ k. KeeperGoesOn (seen c.args.provided.keeper) (seen k)) (sym c.holding-held.ensures.keeper) c.in-Ok.ensures.on) c.race-desk.ensures.on.keeper

pub returns-in-Err-clause-opens : goal.returns-in-Err-clause-opens
returns-in-Err-clause-opens g c =
    let opened = c.in-Err.ensures in
    not_opened g.K.Keeper.seen c.args.provided.tables (Races c.args.texts.now) c.args.provided.keeper c.in-Err.field-0.keeper c.in-Err.field-0.why c.boardless.result (c.boardless.ensures.answer ∙ ap (λ f. Err f) c.from.ensures) c.boardless.ensures.none
    c.boardless.ensures.keeper opened.why opened.left opened.same opened.failed opened.unentered
