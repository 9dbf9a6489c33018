use Rattle.std.proofs.Common.{◌≡◌, ◌≤◌, [], drop, length, option_map}
use Rattle.csv.specs.Machine.{next_record}
use Rattle.csv.specs.Reading.{default_config}
use Rattle.csv_text.specs.Steps.{state_of, first_of}
use Rattle.csv_text.proofs.steps.read_record.Given as goal

abbrev pub invariant-loop-i : goal.invariant-loop-i
invariant-loop-i l = record {
  same : option_map (first_of l.most) (next_record default_config (state_of l.fn.start) [] [] l.text)
      ≡ option_map (first_of l.most) (next_record default_config (state_of l.place) l.fields.items l.field.items (drop l.i l.text));
  within : length l.fields.items ≤ l.most;
}
