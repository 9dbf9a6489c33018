-- Which notices each bell receives, and which bells are dropped because they failed.
use Rattle.std.specs.Prelude.{◌≡◌, ℕ, Bool, ◌||◌, ◌+◌, ◌-◌, ◌^◌, ◌<◌, min, true, false, List, [], ◌∷◌, ◌++◌, filter, length, map, codes, Option, None, Some}
use Rattle.std.specs.List.{AllZip}
use Rattle.std.specs.Option.{option_map}
use Rattle.std.specs.Str.{bytes_eq}
use Rattle.alerts.specs.declared.notices.Notice.{Notice}
use Rattle.alerts.specs.Seen.{BellSeen}
use Rattle.alerts.specs.declared.seat.Dropped.{Dropped}
use Rattle.alerts.specs.declared.seat.Seat.{Seat}
use Rattle.desk_io.specs.Health.{GoesOn, HasFailed}

-- ---- the notices for a bell

-- somebody sits there, and it is this person
abbrev pub is_sitter : List ℕ → Option (List ℕ) → Bool
is_sitter person None = false
is_sitter person (Some sitter) = bytes_eq person sitter

-- A bell of this person receives the notice: he sits at the notice's desk, or the bell receives all. `sitter_of` gives
-- the person who sits at a desk.
abbrev pub concerns : (List ℕ → Option (List ℕ)) → List ℕ → Notice → Bool
concerns sitter_of person notice = bytes_eq person (codes "*") || is_sitter person (sitter_of notice.desk)

-- the notices that a bell of this person receives
abbrev pub due : (List ℕ → Option (List ℕ)) → List Notice → List ℕ → List Notice
due sitter_of notices person = filter (concerns sitter_of person) notices

-- each dispatcher sits at his own desk
abbrev pub namesake : List ℕ → Option (List ℕ)
namesake desk = Some desk

-- ---- the bells of a ringer

-- a bell with its place, from 0, how many notices it has received, and whether it stays
pub record Hung : Type 0 where
  pub place : ℕ
  pub bell : BellSeen
  pub heard : ℕ
  pub stays : Bool

abbrev pub hung : {B : Type 0} → (B → BellSeen) → Seat B → Hung
hung seen seat = record { place = seat.place; bell = seen seat.bell; heard = seat.heard; stays = seat.stays }

-- ---- delivery

-- the bell has received these notices more, and its count stops at 2^64 - 1
pub record Hears (more : List Notice) (old new : Hung) : Type 0 where
  pub place : new.place ≡ old.place
  pub desk : new.bell.desk ≡ old.bell.desk
  pub told : new.bell.heard ≡ option_map (λ all. all ++ more) old.bell.heard
  pub count : old.heard < 2 ^ 64 → new.heard ≡ min (old.heard + length more) (2 ^ 64 - 1)
  pub health : GoesOn old.bell.health new.bell.health

-- the bell failed at one of the notices for it and has received those before it
pub record FailsAmong (wanted : List Notice) (old new : Hung) : Type 0 where
  pub front : List Notice
  pub missed : Notice
  pub rest : List Notice
  pub within : wanted ≡ front ++ missed ∷ rest
  pub hears : Hears front old new
  pub failed : HasFailed old.bell.health new.bell.health

-- Notices are delivered to a bell: to that of a person those that `wanted` gives for him. A bell that was dropped
-- before receives none. A bell that stays has received all that are for it. A bell that is dropped now has failed at
-- one of these.
pub record IsRungFor (wanted : List ℕ → List Notice) (old new : Hung) : Type 0 where
  pub gone : old.stays ≡ false → new ≡ old
  pub stays : old.stays ≡ true → new.stays ≡ true → Hears (wanted old.bell.desk) old new
  pub fails : old.stays ≡ true → new.stays ≡ false → FailsAmong (wanted old.bell.desk) old new

-- the same for each bell
abbrev pub AreRungFor : (List ℕ → List Notice) → List Hung → List Hung → Type 0
AreRungFor wanted = AllZip (IsRungFor wanted)

-- notices are delivered to each bell while each dispatcher sits at his own desk
abbrev pub AreRung : List Notice → List Hung → List Hung → Type 0
AreRung notices = AreRungFor (due namesake notices)

-- ---- bells that are handed in and handed back

abbrev pub hung_all : {B : Type 0} → (B → BellSeen) → List (Seat B) → List Hung
hung_all seen seats = map (hung seen) seats

-- a bell at its place that has received nothing yet
abbrev pub fresh : ℕ → BellSeen → Hung
fresh place bell = record { place = place; bell = bell; heard = 0; stays = true }

-- new bells, the first of them at this place
abbrev pub fresh_from : ℕ → List BellSeen → List Hung
fresh_from place [] = []
fresh_from place (bell ∷ bells) = fresh place bell ∷ fresh_from (place + 1) bells

-- a dropped bell with its place, and how many notices it received
pub record DroppedSeen : Type 0 where
  pub place : ℕ
  pub bell : BellSeen
  pub heard : ℕ

abbrev pub dropped_seen : {B : Type 0} → (B → BellSeen) → Dropped B → DroppedSeen
dropped_seen seen d = record { place = d.place; bell = seen d.bell; heard = d.heard }

abbrev pub staying_with : Bool → BellSeen → List BellSeen → List BellSeen
staying_with true bell bells = bell ∷ bells
staying_with false bell bells = bells

-- the bells that stay, in order
abbrev pub staying : List Hung → List BellSeen
staying [] = []
staying (h ∷ hs) = staying_with h.stays h.bell (staying hs)

abbrev pub dropped_with : Bool → DroppedSeen → List DroppedSeen → List DroppedSeen
dropped_with true d ds = ds
dropped_with false d ds = d ∷ ds

-- the dropped bells in the order of their places
abbrev pub dropped : List Hung → List DroppedSeen
dropped [] = []
dropped (h ∷ hs) = dropped_with h.stays (record { place = h.place; bell = h.bell; heard = h.heard }) (dropped hs)
