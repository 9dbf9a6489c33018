-- A text that grows at its end begins with what it was.
use Rattle.std.proofs.Common.{◌++◌, ◌≤◌, ◌∙◌, ℕ, List, length, ap, arith}
use Rattle.std.proofs.lemmas.List.{take-append-le, length-take}
use Rattle.desk_io.specs.Grown.{BeginsWith}

kept_length : (text earlier : List ℕ) → BeginsWith text earlier → length earlier ≤ length text
kept_length text earlier begins = let n = ap length begins in let t = length-take (length earlier) text in omega (arith, n, t)

pub begins_more : (text earlier more : List ℕ) → BeginsWith text earlier → BeginsWith (text ++ more) earlier
begins_more text earlier more begins = take-append-le (length earlier) text more (kept_length text earlier begins) ∙ begins
