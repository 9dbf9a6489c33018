use Rattle.std.proofs.Common.{ℕ, ◌≤◌, map}
use Rattle.std.specs.List.{concat}
use Rattle.scripts.proofs.Below.{rise_lower}
use Rattle.scripts.specs.Below.{numbers_of, DeskAt, desk_at}
use Rattle.desk_io.specs.Over.{Over, over}
use Rattle.commands.proofs.Opened.{ends_map}
use Rattle.commands.specs.Faults.{Outcome}
use Rattle.commands.specs.Working.{Makes, since}
use Rattle.commands.proofs.works.MakingWorkSteps.work.Goals as goal

makes_since : (number count : ℕ) (desk : Over DeskAt) (answer : Outcome) → Makes number count desk answer → (less : ℕ) → less ≤ desk.before.kept.faults → Makes number count (since less desk) answer
makes_since number count desk answer makes less under = ends_map answer makes
    (λ text made. record {
      outcomes = made.outcomes;
      given = record {
        choices = made.given.choices;
        counted = rise_lower less desk.before.kept.faults (concat (map numbers_of made.given.choices)) desk.after.kept.faults under made.given.counted;
        stored = made.given.stored;
        outcomes = made.given.outcomes;
        state = made.given.state;
      };
      says = made.says;
    })
    (λ part. record {
      came = part.came;
      given = record {
        front = part.given.front;
        left = part.given.left;
        choices = part.given.choices;
        whole = part.given.whole;
        kept = part.given.kept;
        counted = rise_lower less desk.before.kept.faults (concat (map numbers_of part.given.choices)) part.given.kept.faults under part.given.counted;
        stored = part.given.stored;
        later = part.given.later;
        state = part.given.state;
      };
      begins = part.begins;
    })

pub returns-clause-does : goal.returns-clause-does
returns-clause-does g c = λ less under.
    let made = c.make in
    makes_since c.args.self.number c.args.self.count (over (desk_at g.K.Keeper.seen) c.args.desk.now made.new.desk) made.result made.ensures.makes less under
