-- What happened at a door, and at which worker.
use Rattle.std.specs.Prelude.{ℕ, Bool, true, false, not, ◌||◌, List, [], ◌∷◌, ◌++◌}
use Rattle.connections.specs.Doors.{Visit}
use Rattle.connections.specs.declared.rounds.Visited.{Visited}
use Rattle.connections.specs.declared.serving.Served.{Served}
use Rattle.connections.specs.declared.serving.Served.TheVariants as served
use Rattle.workers.specs.declared.passages.Passage.{Passage}
use Rattle.workers.specs.declared.passages.Passage.TheVariants.{Began, Came, Went, Failed}

-- memory ran out for a connection, or its link couldn't be given back
abbrev pub lacks_memory : Served → Bool → Bool
lacks_memory served.OutOfMemory back = true
lacks_memory other back = not back

abbrev pub back_one : {L : Type 0} → Bool → Visited L → List L
back_one true visited = visited.link ∷ []
back_one false visited = []

module _ {D L : Type 0} where
  -- the number of the worker, and 0 before the first one
  abbrev pub worker_of : Passage D L → ℕ
  worker_of (Began door) = 0
  worker_of (Came worker link) = worker
  worker_of (Went worker visited back) = worker
  worker_of (Failed worker) = worker

  abbrev pub came_one : Passage D L → List L
  came_one (Came worker link) = link ∷ []
  came_one other = []

  abbrev pub went_one : Passage D L → List L
  went_one (Went worker visited back) = back_one back visited
  went_one other = []

  abbrev pub lacks_one : Passage D L → Bool
  lacks_one (Went worker visited back) = lacks_memory visited.served back
  lacks_one other = false

  abbrev pub failed_one : Passage D L → Bool
  failed_one (Failed worker) = true
  failed_one other = false

  -- the links that were accepted, as they came, in order
  abbrev pub came_in : List (Passage D L) → List L
  came_in [] = []
  came_in (p ∷ ps) = came_one p ++ came_in ps

  -- the links that were given back, as they went, in order
  abbrev pub went_in : List (Passage D L) → List L
  went_in [] = []
  went_in (p ∷ ps) = went_one p ++ went_in ps

  -- memory ran out for a connection or for its link
  abbrev pub ran_out : List (Passage D L) → Bool
  ran_out [] = false
  ran_out (p ∷ ps) = lacks_one p || ran_out ps

  -- the door failed
  abbrev pub has_failed : List (Passage D L) → Bool
  has_failed [] = false
  has_failed (p ∷ ps) = failed_one p || has_failed ps

  -- the door failed at this worker, or not
  abbrev pub failure : ℕ → Bool → List (Passage D L)
  failure worker true = Failed worker ∷ []
  failure worker false = []

  -- how a connection's link came and went
  abbrev pub passages_one : ℕ → Visit L → List (Passage D L)
  passages_one worker v = Came worker v.came ∷ Went worker (record { link = v.went; served = v.served }) v.back ∷ []

  -- the passages of a worker's connections, one after another
  abbrev pub passages_of : ℕ → List (Visit L) → List (Passage D L)
  passages_of worker [] = []
  passages_of worker (v ∷ vs) = passages_one worker v ++ passages_of worker vs
