-- Which histories are legal.
use Rattle.std.specs.Prelude.{◌≡◌, ℕ, ◌<◌, true, false, List, [], ◌∷◌, Some}
use Rattle.desk_state.specs.declared.entry.Entry.{Entry}
use Rattle.desk_state.specs.declared.entry.What.{What}
use Rattle.desk_state.specs.declared.entry.What.TheVariants.{Tick, Asked}
use Rattle.desk_state.specs.State.{State, is_full}
use Rattle.desk_state.specs.Step.{do_call, tick_to, changes}

-- An event may come next: a tick to a later moment that isn't refused, or an accepted call with its reply.
abbrev pub MayCome : State → ℕ → What → Type 0
MayCome s lane (Tick to) = (s.moment < to) × (is_full s ≡ false)
MayCome s lane (Asked call reply) = ((do_call s lane call).reply ≡ Some reply) × (changes s call ≡ true)

-- the state after an event
abbrev pub next : State → ℕ → What → State
next s lane (Tick to) = (tick_to s lane to).state
next s lane (Asked call reply) = (do_call s lane call).state

-- the state after entries
abbrev pub after_entries : State → List Entry → State
after_entries s [] = s
after_entries s (e ∷ es) = after_entries (next s e.lane e.what) es

-- the entries lead from s to t, and each may come where it stands
abbrev pub Legal : State → List Entry → State → Type 0
Legal s [] t = s ≡ t
Legal s (e ∷ es) t = MayCome s e.lane e.what × Legal (next s e.lane e.what) es t

-- the history of s leads to it from the opening state
pub record IsHistory (opening s : State) : Type 0 where
  pub empty : opening.entries ≡ []
  pub legal : Legal opening s.entries s
