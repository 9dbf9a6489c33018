-- The least values of approaches, taken from the front on.
use Rattle.std.proofs.Common.{Option, Some, None, min}
use Rattle.airport_minima.specs.declared.floors.Lowest.{Lowest}

-- the lesser values of two, where both are there
abbrev pub lesser_of : Option Lowest → Option Lowest → Option Lowest
lesser_of None others = others
lesser_of (Some lowest) None = Some lowest
lesser_of (Some lowest) (Some others) = Some (record { height = min lowest.height others.height; vis16 = min lowest.vis16 others.vis16 })
