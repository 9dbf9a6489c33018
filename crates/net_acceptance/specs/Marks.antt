-- The items that came by one lane, and what a thread did with its pass.
use Rattle.std.specs.Prelude.{ℕ, List, map}
use Rattle.turn_lock.specs.Elements.{elements_of}
use Rattle.net_acceptance.specs.declared.record.Mark.{Mark}

-- the marks of the lane, in order
abbrev pub lane_of : ℕ → List Mark → List Mark
lane_of lane = elements_of (λ m. m.lane) lane

abbrev pub mark : ℕ → ℕ → Mark
mark lane item = record { lane = lane; item = item }

-- these items as marks of the lane
abbrev pub marks : ℕ → List ℕ → List Mark
marks lane items = map (mark lane) items
