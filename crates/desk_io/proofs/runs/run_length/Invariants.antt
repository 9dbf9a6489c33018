use Rattle.std.proofs.Common.{◌≡◌, ◌+◌, drop}
use Rattle.std.specs.List.{position_or_len}
use Rattle.desk_io.specs.Runs.{is_among}
use Rattle.desk_io.proofs.runs.run_length.Given as goal

abbrev pub invariant-loop-i : goal.invariant-loop-i
invariant-loop-i g l = l.i + position_or_len (is_among g.S.Separators.separators) (drop l.i l.text) ≡ position_or_len (is_among g.S.Separators.separators) l.text
