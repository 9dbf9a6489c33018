use Rattle.std.proofs.Common.{◌≡◌, ◌+◌, ◌++◌, drop}
use Rattle.advise.specs.Listing.{legs_with}
use Rattle.advise.proofs.listing.legs_with.Given as goal

abbrev pub invariant-loop-i : goal.invariant-loop-i
invariant-loop-i l = l.copies.items ++ legs_with l.number (l.i + 1) l.listed (drop l.i l.legs) ≡ legs_with l.number 1 l.listed l.legs
