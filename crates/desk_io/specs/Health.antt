-- The health of an external object: its count of faults, and whether it is sound.
use Rattle.std.specs.Prelude.{◌≡◌, ℕ, ◌+◌, ◌-◌, ◌^◌, ◌≤◌, Bool, true, false, min, Result, IsErrOf}

-- the health of a shelf, sink, keeper, clock, link or door
pub record Health : Type 0 where
  -- how often the object has failed; the count saturates at 2^64 - 1
  pub faults : ℕ
  -- the object never fails, except when asked for something that it doesn't hold
  pub sound : Bool

-- an object that may fail at any call
abbrev pub unsound : ℕ → Health
unsound faults = record { faults = faults; sound = false }

abbrev pub IsSound : Health → Type 0
IsSound health = health.sound ≡ true

-- the count is unchanged
abbrev pub IsStill : Health → Health → Type 0
IsStill old new = new.faults ≡ old.faults

-- the count rose, or is already at its maximum
abbrev pub RoseOrFull : ℕ → ℕ → Type 0
RoseOrFull before now = min (before + 1) (2 ^ 64 - 1) ≤ now

-- The count never falls. A sound object stays sound, and its count is unchanged.
pub record GoesOn (old new : Health) : Type 0 where
  pub later : old.faults ≤ new.faults
  pub sound : IsSound old → IsSound new × IsStill old new

-- The same for a call that asks for something. If the object holds that, the count of a sound object is unchanged.
pub record GoesOnWhere (held : Type 0) (old new : Health) : Type 0 where
  pub later : old.faults ≤ new.faults
  pub sound : IsSound old → IsSound new × (held → IsStill old new)

-- the object has failed and counted the fault; a sound object never does
abbrev pub HasFailed : Health → Health → Type 0
HasFailed old new = RoseOrFull old.faults new.faults × (IsSound old → ⊥)

-- the same for a call that asks for something: a sound object fails only if it doesn't hold that
abbrev pub HasFailedWhere : Type 0 → Health → Health → Type 0
HasFailedWhere held old new = RoseOrFull old.faults new.faults × (IsSound old → held → ⊥)

-- the call returns that error only if the object has failed
abbrev pub HasCause : {T E : Type 0} → E → Health → Health → Result T E → Type 0
HasCause e old new result = IsErrOf result e → HasFailed old new

-- the same for a call that asks for something
abbrev pub HasCauseWhere : {T E : Type 0} → Type 0 → E → Health → Health → Result T E → Type 0
HasCauseWhere held e old new result = IsErrOf result e → HasFailedWhere held old new
