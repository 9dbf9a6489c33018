-- The configuration of the argument parser: the names of commands, and any arguments after each.
use Rattle.std.specs.Prelude.{ℕ, List, [], ◌∷◌, Option, None, Some, true, codes}
use Rattle.clap.specs.Lexer.{usize_max}
use Rattle.clap.specs.Simple.{App, new_app, new_rule, with_rule, with_subcommand}
use Rattle.clap.specs.Walk.{Row, Rule, Text, all_of}
use Rattle.words.specs.Words.{asked_of, commands, row_of}
use Rattle.words.specs.declared.task.Form.{Form}
use Rattle.words.specs.declared.task.Name.{Name}
use Rattle.words.specs.declared.task.Task.{Task}

-- any number of arguments after a name
abbrev pub rest_rule : Rule
rest_rule = record (new_rule (codes "words")) { range = Some (record { start_inclusive = 0; end_inclusive = usize_max }) }

abbrev pub leaf : List ℕ → App
leaf name = with_rule (new_app name) rest_rule

-- the top level, without a name of the program, help or version
abbrev pub top : App
top = let a = new_app (codes "desk") in record a {
  top = record a.top {
    no_binary_name = true;
    disable_help_flag = true;
    disable_help_subcommand = true;
    disable_version_flag = true;
    subcommand_required = true;
  };
}

-- one more command
abbrev pub with_name : List ℕ → App → App
with_name name app = with_subcommand app (leaf name).top

-- more commands
abbrev pub with_commands : List Name → App → App
with_commands [] app = app
with_commands (command ∷ more) app = with_commands more (with_name (row_of command).name app)

abbrev pub desk_app : App
desk_app = with_commands commands top

-- the arguments that the parser found after a name
abbrev pub words_of : Option (List Text) → List Text
words_of None = []
words_of (Some words) = words

-- the task of the name that the parser found, with the arguments after it
abbrev pub asked_in : Option (Text × List Row) → Option (Task × Form)
asked_in None = None
asked_in (Some found) = asked_of found.0 (words_of (all_of (codes "words") found.1))
