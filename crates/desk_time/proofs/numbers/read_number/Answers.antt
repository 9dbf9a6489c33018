use Rattle.std.proofs.Common.{sym, subst, Option, ℕ, ◌≤◌, IfSome, arith}
use Rattle.desk_time.proofs.NumberLaws.{number_within, number_exact}
use Rattle.desk_time.proofs.numbers.read_number.Goals as goal

pub returns-clause-bound : goal.returns-clause-bound
returns-clause-bound c = subst (λ (o : Option ℕ). IfSome o (λ n. n ≤ c.args.limit)) (sym c.number_in.ensures) (number_within c.args.limit c.args.text.now)

pub returns-clause-exact : goal.returns-clause-exact
returns-clause-exact c = number_exact c.args.limit c.args.text.now c.number_in.result (omega (arith, c.ranges.limit)) c.number_in.ensures
