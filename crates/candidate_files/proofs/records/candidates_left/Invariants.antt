use Rattle.std.proofs.Common.{◌≤◌, ◌-◌, ℕ, List, [], length}
use Rattle.csv_text.specs.Records.{HasGiven}
use Rattle.table_files.proofs.Steps.{After}
use Rattle.advise.specs.Candidates.{AreCandidates}
use Rattle.candidate_files.specs.Candidates.{candidates_after}
use Rattle.candidate_files.proofs.records.candidates_left.Given as goal

abbrev pub invariant-loop-candidates : goal.invariant-loop-candidates
invariant-loop-candidates l = record {
  after : (text : List ℕ) → (earlier : List (List (List ℕ))) → HasGiven text earlier l.fn.reader
      → After text earlier (candidates_after l.tables l.plan []) (candidates_after l.tables l.plan l.candidates) l.reader;
  within : length l.candidates ≤ 100;
  are : AreCandidates l.tables l.plan l.candidates;
}

abbrev pub decreases-loop-candidates : goal.decreases-loop-candidates
decreases-loop-candidates l = 100 - length l.candidates
