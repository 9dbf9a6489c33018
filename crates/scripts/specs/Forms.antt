-- What holds of everything that lines come to.
use Rattle.std.specs.Prelude.{◌≡◌, Result, IfOk, OnOk}
use Rattle.desk_state.specs.Repeats.{IsAskable}
use Rattle.relief.specs.declared.refusals.ReliefFault.{ReliefFault}
use Rattle.relief.specs.declared.refusals.ReliefFault.TheVariants.{NotSitting, NoSuchDesk, NotOffered, BadRelief, OutOfMemory as FaultMemory}
use Rattle.scripts.specs.Routes.{not_relieved}
use Rattle.scripts.specs.declared.routes.Routed.{Routed}
use Rattle.scripts.specs.declared.routes.Routed.TheVariants.{ToBoard, Replied}

-- an item for the board is in bounds
abbrev pub CanBeTaken : Routed → Type 0
CanBeTaken (ToBoard i) = IsAskable i
CanBeTaken (Replied text) = Unit {0}

-- the reply to a refusal; nothing if memory ran out
abbrev pub IsReplyTo : {E : Type 0} → ReliefFault → Result Routed E → Type 0
IsReplyTo (NotSitting sitter) r = IfOk r (λ x. x ≡ not_relieved (NotSitting sitter))
IsReplyTo NoSuchDesk r = IfOk r (λ x. x ≡ not_relieved NoSuchDesk)
IsReplyTo (NotOffered offered) r = IfOk r (λ x. x ≡ not_relieved (NotOffered offered))
IsReplyTo BadRelief r = IfOk r (λ x. x ≡ not_relieved BadRelief)
IsReplyTo FaultMemory r = OnOk r ⊥
