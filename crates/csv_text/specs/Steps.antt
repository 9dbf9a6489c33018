-- The states and actions of the crate csv's machine that its default settings reach.
use Rattle.std.specs.Prelude.{ℕ, nat_le, if◌then◌else◌, List, length, take, drop}
use Rattle.csv.specs.Machine.{Read, fields_after, field_after}
use Rattle.csv_text.specs.declared.steps.Taken.{Taken}
use Rattle.csv.specs.declared.parser.State.{State}
use Rattle.csv.specs.declared.parser.State.TheVariants as st
use Rattle.csv.specs.declared.parser.Action.{Action}
use Rattle.csv.specs.declared.parser.Action.TheVariants as act
use Rattle.csv_text.specs.declared.steps.Place.{Place}
use Rattle.csv_text.specs.declared.steps.Place.TheVariants as place
use Rattle.csv_text.specs.declared.steps.Act.{Act}
use Rattle.csv_text.specs.declared.steps.Act.TheVariants as does

abbrev pub state_of : Place → State
state_of place.StartRecord = st.StartRecord
state_of place.StartField = st.StartField
state_of place.InField = st.InField
state_of place.InQuoted = st.InQuoted
state_of place.AfterQuote = st.AfterQuote
state_of place.AfterCr = st.AfterCr

abbrev pub action_of : Act → Action
action_of does.Skip = act.Skip
action_of does.Copy = act.Copy
action_of does.EndField = act.EndField
action_of does.EndRecord = act.EndRecord

-- the fields after an action, of which at most `most` are kept
abbrev pub fields_kept : ℕ → Action → List (List ℕ) → List ℕ → List (List ℕ)
fields_kept most action fields field = if nat_le most (length fields) then fields else fields_after action fields field

-- the current field after an action
abbrev pub field_kept : ℕ → Action → ℕ → List (List ℕ) → List ℕ → List ℕ
field_kept most action b fields field = if nat_le most (length fields) then field else field_after action b field

-- a record that was read, with at most `most` of its fields
abbrev pub first_of : ℕ → Read → Read
first_of most r = (take most r.0, r.1, r.2)

-- a record that was read from a text, and the rest of the text
abbrev pub taken_from : List ℕ → Taken → Read
taken_from text t = (t.fields, state_of t.place, drop t.length text)
