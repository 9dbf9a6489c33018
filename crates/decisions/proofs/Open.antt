-- The open deferrals of an aircraft.
use Rattle.std.proofs.Common.{◌≡◌, ℕ, List, sym, subst}
use Rattle.std.specs.List.{AllByRecursion}
use Rattle.std.proofs.lemmas.List.Elements.{All-filter, All-from_recursion, recursion_from_All}
use Rattle.desk_time.specs.Limits.{IsMoment}
use Rattle.deferrals.specs.declared.items.Deferral.{Deferral}
use Rattle.deferrals.specs.Limits.{is_of, open_on}
use Rattle.desk_state.specs.Sound.{IsOpen}
use Rattle.desk_io.proofs.Each.{each_weaker}

-- they have moments that can be shown
pub shown_on : (next : ℕ) (tail : List ℕ) (ds shown : List Deferral) → shown ≡ open_on tail ds → AllByRecursion (IsOpen next) ds → AllByRecursion (λ d. IsMoment d.found) shown
shown_on next tail ds shown is each =
    let P : Deferral → Type 0 = λ d. IsMoment d.found in
    subst (λ (held : List Deferral). AllByRecursion P held) (sym is)
    (recursion_from_All P (open_on tail ds) (All-filter (λ d. is_of tail d) P ds (All-from_recursion P ds (each_weaker (IsOpen next) P (λ d has. has.1) ds each))))
