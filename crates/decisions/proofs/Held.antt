-- What is known of a release that is held.
use Rattle.std.proofs.Common.{◌≡◌, ℕ, ◌≤◌, ◌==◌, List, [], ◌∷◌, Option, None, Some, IfSome, arith, sym, subst}
use Rattle.std.specs.List.{AllByRecursion}
use Rattle.plan.specs.declared.release.Phase.{Phase}
use Rattle.plan.specs.declared.release.Release.{Release}
use Rattle.plan.specs.declared.release.Revision.{Revision}
use Rattle.desk_state.specs.Holds.{Holds}
use Rattle.desk_state.specs.Sound.{InBounds, Fits, MayStand, ReleaseInBounds, RevisionInBounds}
use Rattle.release_text.specs.Valid.{HasLegs}
use Rattle.desk_state.specs.State.{State, release_at}
use Rattle.desk_state.specs.Texts.{newest}
use Rattle.desk_state.proofs.Each.{found_each}
use Rattle.decisions.specs.Newest.{IsNewest, HasNewest}

all_fit : (most : ℕ) (rs : List Release) → AllByRecursion (MayStand most) rs → AllByRecursion ReleaseInBounds rs → AllByRecursion (Fits most) rs
all_fit most [] valid kept = tt
all_fit most (r ∷ rs) valid kept = (record { stands = valid.0; kept = kept.0 }, all_fit most rs valid.1 kept.1)

-- a release that is found may be held
pub found_fits : (s : State) (id : ℕ) (o : Option Release) → o ≡ release_at id s.releases → Holds s → IfSome o (Fits s.counters.events)
found_fits s id o is holds =
    subst (λ (p : Option Release). IfSome p (Fits s.counters.events)) (sym is)
    (found_each (Fits s.counters.events) (λ r. r.id == id) s.releases (all_fit s.counters.events s.releases holds.valid holds.bounds.releases))

newest_by : (most : ℕ) (phase : Phase) (pending active : Option Revision) → most ≤ 999_999_999_999_999 → IfSome pending (λ v. v.number ≤ most) → IfSome active (λ v. v.number ≤ most)
    → IfSome pending (HasLegs phase) → IfSome active (HasLegs phase) → IfSome pending RevisionInBounds → IfSome active RevisionInBounds
    → IfSome (newest pending active) (IsNewest phase)
newest_by most phase None None few low below one two three four = tt
newest_by most phase None (Some w) few low below one two three four = record { is_plan = four.is_plan; fits = two.fits; small = omega (arith, few, below) }
newest_by most phase (Some v) active few low below one two three four = record { is_plan = three.is_plan; fits = one.fits; small = omega (arith, few, low) }

-- the newest revision has a plan and a small number
pub has_newest : (s : State) (r : Release) → InBounds s → Fits s.counters.events r → HasNewest r
has_newest s r kept fits =
    newest_by s.counters.events r.phase r.pending r.active kept.counters.events fits.stands.within.0 fits.stands.within.1 fits.stands.valid.pending_legs fits.stands.valid.active_legs
    fits.kept.pending fits.kept.active

pub found_newest : (s : State) (o : Option Release) → InBounds s → IfSome o (Fits s.counters.events) → IfSome o HasNewest
found_newest s None kept fits = tt
found_newest s (Some r) kept fits = has_newest s r kept fits
