use Rattle.std.proofs.Common.{length}
use Rattle.compact_json.proofs.document.room_for.Given as goal

abbrev pub decreases-tokens : goal.decreases-tokens
decreases-tokens l = length l.reader
