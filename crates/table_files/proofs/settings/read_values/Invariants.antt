use Rattle.std.proofs.Common.{◌≡◌, ℕ, List, [], drop, length}
use Rattle.csv_text.specs.Records.{HasGiven}
use Rattle.table_files.specs.Settings.{settings, values_after, AreWithin}
use Rattle.table_files.proofs.Steps.{After}
use Rattle.table_files.proofs.settings.read_values.Given as goal

abbrev pub invariant-loop-setting : goal.invariant-loop-setting
invariant-loop-setting l = record {
  count : length l.values ≡ l.setting-index;
  within : AreWithin l.values settings;
  after : (text : List ℕ) → (earlier : List (List (List ℕ))) → HasGiven text earlier l.fn.reader → After text earlier (values_after [] settings) (values_after l.values (drop l.setting-index settings)) l.reader;
}
