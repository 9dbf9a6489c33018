use Rattle.std.specs.Prelude.{nat_lt}
use Rattle.std.proofs.lemmas.List.Filters.{FiltersInPlace}
use Rattle.desk_io.proofs.vector.Sorted+K+usize.keep_below.Given as goal

abbrev pub invariant-loop-from : goal.invariant-loop-from
invariant-loop-from g l = FiltersInPlace (λ e. nat_lt e.1 l.limit) l.initial.self-inside.held.items l.self-inside.held.items l.to l.from
