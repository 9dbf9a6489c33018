-- The notices about alerts that the entries of a history cause.
use Rattle.std.specs.Prelude.{◌≡◌, ℕ, List, [], ◌∷◌, ◌++◌}
use Rattle.alerts.specs.declared.notices.Notice.{Notice}
use Rattle.desk_state.specs.Legal.{next}
use Rattle.desk_state.specs.State.{State}
use Rattle.desk_state.specs.Step.{Stepped, do_call, tick_to}
use Rattle.desk_state.specs.declared.entry.Entry.{Entry}
use Rattle.desk_state.specs.declared.entry.What.{What}
use Rattle.desk_state.specs.declared.entry.What.TheVariants.{Tick, Asked}

-- the notices of an entry that comes right after a state
abbrev pub told_by : State → ℕ → What → List Notice
told_by s lane (Tick to) = (tick_to s lane to).notices
told_by s lane (Asked call reply) = (do_call s lane call).notices

-- the notices of the entries that follow a state, in order
abbrev pub told_by_all : State → List Entry → List Notice
told_by_all s [] = []
told_by_all s (e ∷ es) = told_by s e.lane e.what ++ told_by_all (next s e.lane e.what) es

-- A step's notices are those of the entry that it adds. A step without an entry has none.
abbrev pub Tells : State → State → Stepped → Type 0
Tells opening s t = told_by_all opening t.state.entries ≡ told_by_all opening s.entries ++ t.notices
