-- What the reader found, from the clauses on its name and on its rows.
use Rattle.std.proofs.Common.{◌≡◌, ◌∙◌, ℕ, List, [], length, map, Option, None, Some, ap, ap₂, sym}
use Rattle.std.proofs.lemmas.List.{length-map}
use Rattle.std.specs.Prelude.{Box, option_map, unwrap_or}
use Rattle.std.specs.Box.{box_value}
use Rattle.clap.specs.Simple.{subcommand_rows}
use Rattle.clap.specs.Walk.{Row, Text}
use Rattle.clap.specs.declared.parser.matches.SubCommand.{SubCommand}
use Rattle.clap.specs.declared.parser.matches.ArgMatches.TheViews.{out-SubCommand}
use Rattle.words.specs.Words.{no_numbers}
use Rattle.words.specs.declared.task.Limits.{Limits}

pub found_is : {Z : Type 0} (o : Option (Box SubCommand Z)) (name : Text) (rows : List Row) → Some name ≡ option_map (λ b. (out-SubCommand (box_value b)).name.now) o
    → Some rows ≡ option_map (λ p. p.1) (subcommand_rows o) → subcommand_rows o ≡ Some (name, rows)
found_is None name rows named listed = absurd (cc named)
found_is (Some b) name rows named listed =
    ap₂ (λ (n : Text) (rs : List Row). Some (n, rs)) (sym (ap (λ (o : Option Text). unwrap_or o []) named)) (sym (ap (λ (o : Option (List Row)). unwrap_or o []) listed))

-- how many words there are, whichever way they are seen
pub no_numbers_of_words : {X : Type 0} (seen : X → List ℕ) (words : List X) (within : Limits) (numbers : Option (ℕ × ℕ)) → numbers ≡ no_numbers within (length words) → numbers ≡ no_numbers within (length (map seen words))
no_numbers_of_words seen words within numbers is = is ∙ ap (no_numbers within) (sym (length-map words seen))
