use Rattle.std.proofs.Common.{◌∙◌, ◌≤◌, sym, ap}
use Rattle.desk_time.specs.Moments.{shown_of}
use Rattle.desk_time.proofs.MomentLaws.{shown_again}
use Rattle.desk_time.proofs.ReadLaws.{shown_is_shown}
use Rattle.desk_time.proofs.moments.read_shown.Goals as goal

pub returns-clause-exact : goal.returns-clause-exact
returns-clause-exact c = λ m. (
  λ is.
      let within : (15_778_080 ≤ m) × (m ≤ 69_000_000) = rw is at c.shown_in.ensures.range in
      (within.0, within.1, shown_is_shown c.args.text.now m (sym c.shown_in.ensures.value ∙ is)),
  λ all. c.shown_in.ensures.value ∙ ap shown_of all.2 ∙ shown_again m all.0 all.1,
)
