-- What holds of a report that a decision admits.
use Rattle.std.specs.Prelude.{IfSome}
use Rattle.facts.specs.Reading.{IsRead}
use Rattle.desk_state.specs.declared.effect.Effect.{Effect}
use Rattle.desk_state.specs.declared.effect.Decision.{Decision}
use Rattle.desk_state.specs.declared.effect.Decision.TheVariants.{Show, Do}

-- an admitted report is canonical, and its reading is that of its text
abbrev pub AdmitsRead : Effect → Type 0
AdmitsRead e = IfSome e.report IsRead

abbrev pub DecisionAdmitsRead : Decision → Type 0
DecisionAdmitsRead (Show reply) = Unit {0}
DecisionAdmitsRead (Do reply effect) = AdmitsRead effect
