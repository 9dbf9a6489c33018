use Rattle.std.proofs.Common.{refl, ◌∙◌}
use Rattle.turn_lock.specs.Passes.{pass_numbers, pass_seen, pass_splits, turn_taken}
use Rattle.workers.proofs.StayLaws.{counts_as, end_part, first_part, none_in, passages_same, run_ends, run_goes, stayed_as}
use Rattle.workers.specs.Staying.{end_of}
use Rattle.workers.proofs.staying.run_at.Goals as goal

pub returns-clause-run : goal.returns-clause-run
returns-clause-run g c = λ first begun port list opened goes_last.
    let done = c.work_all-pass in
    let is = done.ensures in
    let pass = done.result.0 in
    let at_door = done.result.1 in
    let taken = c.take-turn.ensures in
    let s = c.finish-doorway.result in
    let same = passages_same s _ (turn_taken c.take-turn.result) c.finish-doorway.ensures taken.taken in
    let ended = run_ends g.T.Listed.bears g.W.Serving.says g.B.Beside.does g.D.Door.seen c.args.workers port (pass_seen c.args.pass) (pass_seen pass) list (pass_numbers c.args.pass) (pass_numbers pass) (pass_splits c.args.pass)
    (pass_splits pass) first (pass_seen c.args.at_door) (pass_seen at_door) (turn_taken c.take-turn.result) (pass_numbers c.args.at_door) (pass_numbers at_door) (pass_splits c.args.at_door) (pass_splits at_door) s (end_of s.memory)
    c.requires.some
    record {
      empty = c.requires.none;
      zero_in = c.requires.first.1;
      unsplit = c.requires.first.0;
      takes = is.takes;
      began = begun;
      at_zero_in = c.requires.first_at_door.1;
      at_unsplit = c.requires.first_at_door.0;
      at_takes = is.takes_at_door;
      worked = is.worked;
      begins = taken.seen;
      adds = taken.own;
      above = taken.given is.at_door.1;
    }
    same c.into_parts-door.ensures.is refl opened goes_last in
    stayed_as g.T.Listed.bears g.W.Serving.says g.B.Beside.does g.D.Door.seen (g.D.Door.seen first) s.door c.into_parts-door.result.0 list port c.args.workers (end_of s.memory) c.end_of.result
    (first_part c.into_parts-door.result s.door s.memory c.into_parts-door.ensures.parts) (c.end_of.ensures ∙ end_part c.into_parts-door.result s.door s.memory c.into_parts-door.ensures.parts) ended

pub returns-clause-count : goal.returns-clause-count
returns-clause-count g c = λ first begun.
    let done = c.work_all-pass in
    let is = done.ensures in
    let pass = done.result.0 in
    let at_door = done.result.1 in
    let taken = c.take-turn.ensures in
    let s = c.finish-doorway.result in
    let same = passages_same s _ (turn_taken c.take-turn.result) c.finish-doorway.ensures taken.taken in
    let goes = run_goes g.T.Listed.bears g.W.Serving.says g.B.Beside.does g.D.Door.seen c.args.workers (pass_seen c.args.pass) (pass_seen pass) (pass_numbers c.args.pass) (pass_numbers pass) (pass_splits c.args.pass) (pass_splits pass)
    first (pass_seen c.args.at_door) (pass_seen at_door) (turn_taken c.take-turn.result) (pass_numbers c.args.at_door) (pass_numbers at_door) (pass_splits c.args.at_door) (pass_splits at_door) s
    record {
      empty = c.requires.none;
      zero_in = c.requires.first.1;
      unsplit = c.requires.first.0;
      takes = is.takes;
      began = begun;
      at_zero_in = c.requires.first_at_door.1;
      at_unsplit = c.requires.first_at_door.0;
      at_takes = is.takes_at_door;
      worked = is.worked;
      begins = taken.seen;
      adds = taken.own;
      above = taken.given is.at_door.1;
    }
    same c.into_parts-door.ensures.is in
    counts_as g.D.Door.seen first s.door c.into_parts-door.result.0 c.into_parts-door.ensures.is.rest (first_part c.into_parts-door.result s.door s.memory c.into_parts-door.ensures.parts) goes

pub work_all-pass-requires-clause-none : goal.work_all-pass-requires-clause-none
work_all-pass-requires-clause-none g c κs within = none_in g.T.Listed.bears 1 (pass_seen c.args.pass) c.requires.none
