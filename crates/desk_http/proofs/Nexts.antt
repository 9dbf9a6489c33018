-- What is said of the next request, from all that is known of a link's input.
use Rattle.std.proofs.Common.{ℕ, List, Result, Ok, Err}
use Rattle.desk_http.specs.Reading.{Input, IsRead, FoundEnd, Nexts}
use Rattle.desk_http.specs.Received.{CameIn, EndedIn}
use Rattle.desk_http.specs.Requests.{Splits, AtEnd, HasReadBy, FaultsBy, NextBy, NextRequest, NextCrossed}
use Rattle.desk_http.specs.declared.wire.Wire.{Wire}
use Rattle.desk_http.specs.declared.wire.WireFault.{WireFault}
use Rattle.desk_http.specs.declared.wire.WireFault.TheVariants.{End, Cut, BadHead, TooLarge, NoLength, WrongMethod, ReadFault, OutOfMemory}

-- what is known in one way is known in another
module _ {S T : Type 0} (f : S → T) (Split : S → List ℕ → S → Type 0) (Part : T → List ℕ → T → Type 0) (Ended : S → S → Type 0) (Over : T → T → Type 0)
    (part : (before : S) (read : List ℕ) (now : S) → Split before read now → Part (f before) read (f now)) (over : (before now : S) → Ended before now → Over (f before) (f now)) where
  read_as : (before now : S) (kept grown : List ℕ) → HasReadBy Split before now kept grown → HasReadBy Part (f before) (f now) kept grown
  read_as before now kept grown (read, is, split) = (read, is, part before read now split)

  faults_as : (before now : S) (bytes : List ℕ) (fault : WireFault) → FaultsBy Split Ended before now bytes fault → FaultsBy Part Over (f before) (f now) bytes fault
  faults_as before now bytes End (gives, ended) = (gives, over before now ended)
  faults_as before now bytes Cut (gives, ended) = (gives, over before now ended)
  faults_as before now bytes BadHead is = is
  faults_as before now bytes TooLarge is = is
  faults_as before now bytes NoLength is = is
  faults_as before now bytes WrongMethod is = is
  faults_as before now bytes ReadFault is = is
  faults_as before now bytes OutOfMemory is = is

  next_as : (before now : S) (kept left : List ℕ) (result : Result Wire WireFault) → NextBy Split Ended before now kept left result → NextBy Part Over (f before) (f now) kept left result
  next_as before now kept left (Ok wire) (bytes, read, begins) = (bytes, read_as before now kept bytes read, begins)
  next_as before now kept left (Err fault) (read, why) = (read_as before now kept left read, faults_as before now left fault why)

pub next_of_stream : (before now : Input) (kept left : List ℕ) (result : Result Wire WireFault) → Nexts before now kept left result
    → NextRequest before.unread now.unread kept left result
next_of_stream = next_as (λ (i : Input). i.unread) IsRead Splits FoundEnd (λ _ now. AtEnd now) (λ before read now is. is.stream) (λ before now is. is.stream)

pub next_crossed : (before now : Input) (kept left : List ℕ) (result : Result Wire WireFault) → Nexts before now kept left result
    → NextCrossed before.crossed now.crossed kept left result
next_crossed = next_as (λ (i : Input). i.crossed) IsRead CameIn FoundEnd EndedIn (λ before read now is. is.crossed) (λ before now is. is.crossed)
