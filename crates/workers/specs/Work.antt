-- A worker, and its connections one after another.
use Rattle.std.specs.Prelude.{◌≡◌, ℕ, ◌+◌, ◌<◌, Bool, true, false, List, [], ◌∷◌, ◌++◌, length}
use mathlib.Core.List.{IsPrefix}
use Rattle.connections.specs.Doors.{Visit}
use Rattle.connections.specs.Rounds.{HasAllOf, HasLanes}
use Rattle.connections.specs.declared.serving.Served.{Served}
use Rattle.turn_lock.specs.Elements.{AddsNoneOf, elements_of}
use Rattle.turn_lock.specs.Passes.{pass_lock, pass_number, pass_numbers, pass_seen}
use Rattle.turn_lock.specs.declared.listed.Listed.{Ghosts}
use Rattle.turn_lock.specs.declared.pass.Pass.{Pass}
use Rattle.workers.specs.Passages.{failure, has_failed, passages_of, worker_of}
use Rattle.workers.specs.declared.passages.Passage.{Passage}

-- the same pass of this lock, which may have seen more
pub record IsLater {T E : Type 0} {g : Ghosts T E} (old new : Pass T E g) : Type 0 where
  pub lock : pass_lock new ≡ pass_lock old
  pub number : pass_number new ≡ pass_number old
  pub numbers : pass_numbers new ≡ pass_numbers old
  pub seen : IsPrefix (pass_seen old) (pass_seen new)

-- Connections of a worker, one after another. Each begins with what the worker had seen at the end of the last one.
abbrev pub Follow : {L E : Type 0} → (ℕ → List E → List E → L → L → Served → Type 0) → ℕ → List E → List (Visit L) → List E → Type 0
Follow says lane from [] to = to ≡ from
Follow {E = E} says lane from (v ∷ vs) to =
    (seen : List E) × IsPrefix from seen × says lane from seen v.came v.went v.served × Follow says lane seen vs to

-- The worker served these connections. At the door nothing else happened at it, except that the door may have failed.
pub record HasServed {D L E : Type 0} (says : ℕ → List E → List E → L → L → Served → Type 0) (lane : ℕ) (from to : List E) (old new : List (Passage D L)) (visits : List (Visit L)) (failed : Bool) : Type 0 where
  pub follow : Follow says lane from visits to
  pub passed : elements_of worker_of lane new ≡ elements_of worker_of lane old ++ (passages_of lane visits ++ failure lane failed)

-- so far
pub record IsAtWork {D L E : Type 0} (says : ℕ → List E → List E → L → L → Served → Type 0) (lane : ℕ) (from to : List E) (old new : List (Passage D L)) : Type 0 where
  pub visits : List (Visit L)
  pub has : HasServed says lane from to old new visits false

-- until the door failed
pub record HasWorked {D L E : Type 0} (says : ℕ → List E → List E → L → L → Served → Type 0) (lane : ℕ) (from to : List E) (old new : List (Passage D L)) : Type 0 where
  pub visits : List (Visit L)
  pub failed : Bool
  pub has : HasServed says lane from to old new visits failed
  pub ended : has_failed new ≡ true

-- the worker has ended, or goes on
abbrev pub Works : {D L E : Type 0} → (ℕ → List E → List E → L → L → Served → Type 0) → ℕ → List E → List E → List (Passage D L) → List (Passage D L) → Bool → Type 0
Works says lane from to old new true = HasWorked says lane from to old new
Works says lane from to old new false = IsAtWork says lane from to old new

-- A worker within the whole lists: its lane begins with its first connection and ends with its last one.
pub record IsWorker {D L E : Type 0} (bears : E → ℕ) (says : ℕ → List E → List E → L → L → Served → Type 0) (lane : ℕ) (list : List E) (passages : List (Passage D L)) (visits : List (Visit L)) : Type 0 where
  pub before : List E
  pub seen : List E
  pub follow : Follow says lane before visits seen
  pub fresh : elements_of bears lane before ≡ []
  pub within : IsPrefix seen list
  pub own : elements_of bears lane list ≡ elements_of bears lane seen
  pub failed : Bool
  pub passed : elements_of worker_of lane passages ≡ passages_of lane visits ++ failure lane failed

-- workers, each in the lane of its number
abbrev pub AreWorkers : {D L E : Type 0} → (E → ℕ) → (ℕ → List E → List E → L → L → Served → Type 0) → ℕ → List E → List (Passage D L) → List (List (Visit L)) → Type 0
AreWorkers bears says lane list passages [] = Unit {0}
AreWorkers bears says lane list passages (vs ∷ rest) = IsWorker bears says lane list passages vs × AreWorkers bears says (lane + 1) list passages rest

-- What a list and the numbers of a pass gained by taking in the passes of so many lanes.
pub record TakesLanes {E : Type 0} (bears : E → ℕ) (old new : List E) (numbers next : List ℕ) (splits last lane n : ℕ) : Type 0 where
  pub begins : IsPrefix old new
  pub adds : AddsNoneOf bears numbers old new
  pub among : HasAllOf numbers next
  pub lanes : HasLanes next lane n
  pub count : last ≡ splits + n

-- The work beside the workers within the whole list: its lane begins and ends with it.
pub record IsBeside {E : Type 0} (bears : E → ℕ) (does : ℕ → List E → List E → Type 0) (lane : ℕ) (list : List E) : Type 0 where
  pub before : List E
  pub seen : List E
  pub begins : IsPrefix before seen
  pub done : does lane before seen
  pub fresh : elements_of bears lane before ≡ []
  pub within : IsPrefix seen list
  pub own : elements_of bears lane list ≡ elements_of bears lane seen

-- So many workers have worked, until the door failed, with other work beside them in the lane after theirs.
pub record HaveWorked {D L E : Type 0} (bears : E → ℕ) (says : ℕ → List E → List E → L → L → Served → Type 0) (does : ℕ → List E → List E → Type 0) (lane n : ℕ) (list : List E) (passages : List (Passage D L)) : Type 0 where
  pub workers : List (List (Visit L))
  pub are : AreWorkers bears says lane list passages workers
  pub many : length workers ≡ n
  pub beside : IsBeside bears does (lane + n) list
  pub ended : 0 < n → has_failed passages ≡ true
