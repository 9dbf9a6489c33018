-- The constants of the code are the limits of the definitions.
use Rattle.std.proofs.Common.{◌≡◌, refl}
use Rattle.desk_time.specs.Limits.{first_moment, last_moment, first_planned, last_planned, last_shown}
use Rattle.desk_time.specs.declared.moments.TheConstants.{FIRST, LAST, PLAN_FIRST, PLAN_LAST, SHOWN_LAST}

first_is : FIRST ≡ first_moment
first_is = refl

last_is : LAST ≡ last_moment
last_is = refl

plan_first_is : PLAN_FIRST ≡ first_planned
plan_first_is = refl

plan_last_is : PLAN_LAST ≡ last_planned
plan_last_is = refl

shown_last_is : SHOWN_LAST ≡ last_shown
shown_last_is = refl
