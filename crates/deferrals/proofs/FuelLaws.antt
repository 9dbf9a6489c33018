-- What the items of some rows add is what each of them adds.
use Rattle.std.proofs.Common.{◌≡◌, ℕ, List, [], ◌∷◌, map, sum, sym, ap, subst}
use Rattle.std.proofs.lemmas.List.Sums.{sum_by-cons}
use Rattle.ops_tables.specs.declared.rows.MelRow.{MelRow}
use Rattle.deferrals.specs.Fuel.{AddsFuel, none, more}
use Rattle.deferrals.specs.Limits.{limits_by}
use Rattle.deferrals.specs.declared.limits.Limits.{Limits}

summed : (rows : List MelRow) → AddsFuel rows (sum (map (λ row. row.extra_fuel) rows))
summed [] = none
summed (row ∷ rows) = subst (AddsFuel (row ∷ rows)) (sym (sum_by-cons (λ (n : ℕ). n) row.extra_fuel (map (λ r. r.extra_fuel) rows))) (more (summed rows))

pub adds_fuel : (rows : List MelRow) (limits : Limits) → limits ≡ limits_by rows → AddsFuel rows limits.extra_fuel
adds_fuel rows limits is = subst (AddsFuel rows) (sym (ap (λ (l : Limits). l.extra_fuel) is)) (summed rows)
