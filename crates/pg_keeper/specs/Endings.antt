-- How a commit ends, by the bytes that crossed the link.
use Rattle.std.specs.Prelude.{◌≡◌, ◌⊎◌, ℕ, ◌++◌, ◌∷◌, [], List, length, Bool, true, false, Option, None, Some, Result, Ok, Err}
use Rattle.desk_io.specs.declared.rows.Change.{Change}
use Rattle.desk_net.specs.declared.crossed.Crossed.{Crossed}
use Rattle.keeper.specs.declared.account.AccountEntry.{AccountEntry}
use Rattle.keeper.specs.declared.account.AccountEntry.TheVariants.{Commit}
use Rattle.keeper.specs.declared.account.Outcome.{Outcome}
use Rattle.keeper.specs.declared.account.Outcome.TheVariants as outcome
use Rattle.keeper.specs.declared.keeping.KeepFault.{KeepFault}
use Rattle.keeper.specs.declared.keeping.KeepFault.TheVariants as keep
use Rattle.pg_wire.specs.Answers.{Told, HasAnswered}
use Rattle.pg_wire.specs.Crossing.{came, took, TakesFront}
use Rattle.pg_keeper.specs.Batch.{batch}
use Rattle.pg_keeper.specs.declared.ending.Ending.{Ending}
use Rattle.pg_keeper.specs.declared.ending.Ending.TheVariants.{Done, OutOfMemory, Refused, Lost}

-- The server answered to the end, completed this number of commands and reported no error.
pub record HasMade (before after : List ℕ) (count : ℕ) : Type 0 where
  pub told : Told
  pub answered : HasAnswered before after told
  pub completed : told.completed ≡ count
  pub calm : told.failed ≡ false

-- The server answered to the end, and reported an error.
pub record HasRefused (before after : List ℕ) : Type 0 where
  pub told : Told
  pub answered : HasAnswered before after told
  pub failed : told.failed ≡ true

-- nothing crossed the link
abbrev pub IsQuiet : List Crossed → List Crossed → Type 0
IsQuiet old new = (took new ≡ took old) × (came new ≡ came old)

-- The request was sent once and whole, and the server's answer says that it made all of it.
abbrev pub Commits : List ℕ → ℕ → List Crossed → List Crossed → Type 0
Commits request count old new = (took new ≡ took old ++ request) × HasMade (came old) (came new) count

-- The request was sent once and whole, and the server's answer refuses it.
abbrev pub Refuses : List ℕ → List Crossed → List Crossed → Type 0
Refuses request old new = (took new ≡ took old ++ request) × HasRefused (came old) (came new)

-- What crossed the link at each ending of a request. If the link is lost, a prefix of the request was sent.
abbrev pub Ends : List ℕ → ℕ → List Crossed → List Crossed → Ending → Type 0
Ends request count old new Done = Commits request count old new
Ends request count old new OutOfMemory = IsQuiet old new
Ends request count old new (Refused cause) = IsQuiet old new ⊎ Refuses request old new
Ends request count old new Lost = TakesFront old new request

-- the answer alone
abbrev pub Settles : ℕ → List ℕ → List ℕ → Ending → Type 0
Settles count before after Done = HasMade before after count
Settles count before after OutOfMemory = ⊥
Settles count before after (Refused cause) = HasRefused before after
Settles count before after Lost = Unit {0}

-- a property of the link before and after, which is there
abbrev pub OnBoth : Option (List Crossed) → Option (List Crossed) → (List Crossed → List Crossed → Type 0) → Type 0
OnBoth None new P = ⊥
OnBoth (Some old) None P = ⊥
OnBoth (Some old) (Some new) P = P old new

-- no link is there, or nothing crossed it
abbrev pub StaysQuiet : Option (List Crossed) → Option (List Crossed) → Type 0
StaysQuiet None None = Unit {0}
StaysQuiet None (Some new) = ⊥
StaysQuiet (Some old) None = ⊥
StaysQuiet (Some old) (Some new) = IsQuiet old new

-- How a commit ends for a keeper that was broken or not. Only a link that is lost breaks it, and then for good.
abbrev pub Attempts : List Change → Bool → Bool → Option (List Crossed) → Option (List Crossed) → Ending → Type 0
Attempts changes broken breaks old new Done =
    (broken ≡ false) × (breaks ≡ false) × OnBoth old new (Commits (batch changes) (length changes))
Attempts changes broken breaks old new OutOfMemory = (broken ≡ false) × (breaks ≡ false) × StaysQuiet old new
Attempts changes broken breaks old new (Refused cause) =
    (breaks ≡ broken) × (StaysQuiet old new ⊎ OnBoth old new (Refuses (batch changes)))
Attempts changes broken breaks old new Lost =
    (broken ≡ false) × (breaks ≡ true) × OnBoth old new (λ a b. TakesFront a b (batch changes))

-- whether the changes were made isn't known if the link is lost
abbrev pub outcome_of : Ending → Outcome
outcome_of Done = outcome.Done
outcome_of OutOfMemory = outcome.Refused
outcome_of (Refused cause) = outcome.Refused
outcome_of Lost = outcome.Unknown

abbrev pub is_lost : Ending → Bool
is_lost Done = false
is_lost OutOfMemory = false
is_lost (Refused cause) = false
is_lost Lost = true

-- what the caller of a commit learns
abbrev pub said : Ending → Result (Unit {0}) KeepFault
said Done = Ok tt
said OutOfMemory = Err keep.OutOfMemory
said (Refused cause) = Err keep.Failed
said Lost = Err keep.Failed

-- A commit ends in one way, and the account has that way's outcome.
pub record RecordsCommit (changes : List Change) (broken breaks : Bool) (old new : Option (List Crossed))
    (was is : List AccountEntry) : Type 0 where
  pub ending : Ending
  pub attempted : Attempts changes broken breaks old new ending
  pub entered : is ≡ was ++ Commit changes (outcome_of ending) ∷ []
