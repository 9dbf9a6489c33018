-- The amendment by which a final plan is taken up.
use Rattle.std.specs.Prelude.{◌≡◌, ◌↔◌, ℕ, List, Option, None}
use Rattle.std.specs.Option.{option_map}
use Rattle.asks.specs.declared.call.Ask.{Ask}
use Rattle.asks.specs.declared.call.Ask.TheVariants as ask
use Rattle.asks.specs.declared.call.Call.{Call}
use Rattle.redispatch.specs.declared.planned.Filed.{Filed}
use Rattle.redispatch.specs.Filed.{filed_for}

-- the same call, which asks to amend a release with its final plan
abbrev pub turned : Call → ℕ → Filed → Call
turned call release f = record { actor = call.actor; key = call.key; number = call.number; ask = ask.Amend release f.plan }

abbrev pub amendment_for : List Filed → Call → Ask → Option Call
amendment_for planned call (ask.Prepare release) = option_map (turned call release) (filed_for release planned)
amendment_for planned call _ = None

-- The amendment for which a Prepare call stands. There is none if nothing is filed for the release.
abbrev pub amendment : List Filed → Call → Option Call
amendment planned call = amendment_for planned call call.ask

-- the calls are of the same person, with the same key and number
pub record IsSameCall (call amended : Call) : Type 0 where
  pub actor : amended.actor ≡ call.actor
  pub key : amended.key ≡ call.key
  pub number : amended.number ≡ call.number

-- a Prepare call has no amendment exactly if nothing is filed for its release, and another call has none
abbrev pub IsNoneAsFiled : List Filed → Ask → Option Call → Type 0
IsNoneAsFiled planned (ask.Prepare release) amendment = (amendment ≡ None) ↔ (filed_for release planned ≡ None)
IsNoneAsFiled planned _ amendment = amendment ≡ None
