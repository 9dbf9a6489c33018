-- Which arguments form a command.
use Rattle.std.specs.Prelude.{ℕ, Bool, false, not, ◌==◌, ◌&&◌, ◌≤◌, nat_le, if◌then◌else◌, List, [], ◌∷◌, length, drop, find, is_some, Option, None, Some, codes}
use Rattle.std.specs.List.{list_all}
use Rattle.std.specs.Option.{option_map}
use Rattle.std.specs.Str.{bytes_eq}
use Rattle.desk_time.specs.Digits.{◌>>=◌}
use Rattle.desk_time.specs.Numbers.{number_in}
use Rattle.words.specs.declared.task.DeskTask.TheVariants.{Run, Race, Serve, Stay, Import, Make, Advise, Planned, Shifts, Why, Check}
use Rattle.words.specs.declared.task.Form.{Form}
use Rattle.words.specs.declared.task.Form.TheVariants.{Names, Number, Numbers}
use Rattle.words.specs.declared.task.Limits.{Limits}
use Rattle.words.specs.declared.task.Name.{Name}
use Rattle.words.specs.declared.task.Name.TheVariants as name
use Rattle.words.specs.declared.task.Task.{Task}
use Rattle.words.specs.declared.task.Task.TheVariants.{Weather, Desk}

-- ---- the table of commands

abbrev pub between : ℕ → ℕ → Limits
between least most = record { least = least; most = most }

-- a command's name, and the arguments after it
pub record CommandRow : Type 0 where
  pub name : List ℕ
  pub form : Form

abbrev pub row : List ℕ → Form → CommandRow
row name form = record { name = name; form = form }

-- the arguments are one source, 2 to 16 scripts, a port and a number of connections, a port, a seed of 32 bits and a
-- number of flights, a plan and candidates, or the number of a release
abbrev pub row_of : Name → CommandRow
row_of name.Run = row (codes "run") (Names (between 1 1))
row_of name.Race = row (codes "race") (Names (between 2 16))
row_of name.Serve = row (codes "serve") (Numbers (between 1 65_535) (between 1 1_000))
row_of name.Stay = row (codes "stay") (Number (between 1 65_535))
row_of name.Weather = row (codes "weather") (Names (between 1 1))
row_of name.Import = row (codes "import") (Names (between 1 1))
row_of name.Make = row (codes "make") (Numbers (between 0 4_294_967_295) (between 1 20_000))
row_of name.Advise = row (codes "advise") (Names (between 2 2))
row_of name.Planned = row (codes "planned") (Names (between 1 1))
row_of name.Shifts = row (codes "shifts") (Names (between 1 1))
row_of name.Why = row (codes "why") (Number (between 1 4_294_967_295))
row_of name.Check = row (codes "check") (Names (between 1 1))

-- all commands
abbrev pub commands : List Name
commands = name.Run ∷ name.Race ∷ name.Serve ∷ name.Stay ∷ name.Weather ∷ name.Import ∷ name.Make ∷ name.Advise ∷ name.Planned ∷ name.Shifts ∷ name.Why ∷ name.Check ∷ []

-- the task of a command with these numbers
abbrev pub task_of : Name → ℕ × ℕ → Task
task_of name.Run numbers = Desk Run
task_of name.Race numbers = Desk Race
task_of name.Serve numbers = Desk (Serve numbers.0 numbers.1)
task_of name.Stay numbers = Desk (Stay numbers.0)
task_of name.Weather numbers = Weather
task_of name.Import numbers = Desk Import
task_of name.Make numbers = Desk (Make numbers.0 numbers.1)
task_of name.Advise numbers = Desk Advise
task_of name.Planned numbers = Desk Planned
task_of name.Shifts numbers = Desk Shifts
task_of name.Why numbers = Desk (Why numbers.0)
task_of name.Check numbers = Desk Check

abbrev pub command_among : List Name → List ℕ → Option Name
command_among all name = find (λ command. bytes_eq (row_of command).name name) all

-- the command of this name
abbrev pub command_named : List ℕ → Option Name
command_named name = command_among commands name

-- ---- the arguments after the name

abbrev pub from_least : ℕ → ℕ → Option ℕ
from_least least n = if nat_le least n then Some n else None

-- a decimal number within the limits
abbrev pub number_within : Limits → List ℕ → Option ℕ
number_within within word = number_in within.most word >>= λ n. from_least within.least n

-- a number within the limits, and zero in place of a second
abbrev pub one_number : Limits → List (List ℕ) → Option (ℕ × ℕ)
one_number within (word ∷ []) = number_within within word >>= λ n. Some (n, 0)
one_number within _ = None

abbrev pub both_within : Limits → Limits → List ℕ → List ℕ → Option (ℕ × ℕ)
both_within one two first second = number_within one first >>= λ a. number_within two second >>= λ b. Some (a, b)

-- two numbers, each within its limits
abbrev pub two_numbers : Limits → Limits → List (List ℕ) → Option (ℕ × ℕ)
two_numbers one two (first ∷ second ∷ []) = both_within one two first second
two_numbers one two _ = None

-- zeros in place of numbers, if there are as many names as the limits allow
abbrev pub no_numbers : Limits → ℕ → Option (ℕ × ℕ)
no_numbers within count = if nat_le within.least count && nat_le count within.most then Some (0, 0) else None

-- the numbers in the arguments, if they have this form
abbrev pub numbers_of : Form → List (List ℕ) → Option (ℕ × ℕ)
numbers_of (Names within) rest = no_numbers within (length rest)
numbers_of (Number within) rest = one_number within rest
numbers_of (Numbers one two) rest = two_numbers one two rest

-- the names of sources in the arguments
abbrev pub names_of : Form → List (List ℕ) → List (List ℕ)
names_of (Names within) rest = rest
names_of (Number within) rest = []
names_of (Numbers one two) rest = []

-- ---- the command

-- the task of a name with the arguments after it, and the form of these
abbrev pub asked_of : List ℕ → List (List ℕ) → Option (Task × Form)
asked_of name rest =
    command_named name >>= λ command. numbers_of (row_of command).form rest >>= λ numbers. Some (task_of command numbers, (row_of command).form)

-- the argument isn't empty and doesn't begin with a dash
abbrev pub is_word : List ℕ → Bool
is_word [] = false
is_word (c ∷ cs) = not (c == 45)

-- the name of a command
abbrev pub is_name : List ℕ → Bool
is_name word = is_some (command_named word)

-- the name of a command, and arguments after it
abbrev pub are_named : List (List ℕ) → Bool
are_named [] = false
are_named (name ∷ rest) = is_name name && list_all is_word rest

abbrev pub asked_by : List (List ℕ) → Option (Task × Form)
asked_by [] = None
asked_by (name ∷ rest) = asked_of name rest

-- The task in the arguments. They form a command exactly if the first is the name of one, and the others have the form
-- of its row. No argument is empty or begins with a dash.
abbrev pub asked_in : List (List ℕ) → Option (Task × Form)
asked_in words = if are_named words then asked_by words else None

-- the task, and the names of the sources that it reads
abbrev pub command_of : List (List ℕ) → Option (Task × List (List ℕ))
command_of words = option_map (λ asked. (asked.0, names_of asked.1 (drop 1 words))) (asked_in words)

-- the numbers don't exceed their limits
abbrev pub Fits : Form → ℕ × ℕ → Type 0
Fits (Names within) numbers = Unit {0}
Fits (Number within) numbers = numbers.0 ≤ within.most
Fits (Numbers one two) numbers = (numbers.0 ≤ one.most) × (numbers.1 ≤ two.most)

-- at most 20,000 flights are made
abbrev pub IsWithin : Task → Type 0
IsWithin (Desk (Make number count)) = count ≤ 20_000
IsWithin _ = Unit {0}
