-- The refusals of a sender have no moment.
use Rattle.std.proofs.Common.{◌≡◌, sym, subst, Bool, true, false, not, List, ℕ, Option, None, Some, IfSome}
use Rattle.std.specs.Str.{bytes_eq}
use Rattle.asks.specs.Ranges.{RefusalHasMoment}
use Rattle.asks.specs.declared.reply.Refusal.{Refusal}
use Rattle.asks.specs.declared.reply.Refusal.TheVariants.{WrongKey}
use Rattle.desk_state.specs.Chain.{refused_if}
use Rattle.desk_state.specs.People.{mistaken}
use Rattle.ops_tables.specs.Rows.{Actor}

wrong_key : (test : Bool) → IfSome (refused_if test WrongKey) RefusalHasMoment
wrong_key true = tt
wrong_key false = tt

of_mistaken : (person : Option Actor) (key : List ℕ) → IfSome (mistaken person key) RefusalHasMoment
of_mistaken None key = tt
of_mistaken (Some person) key = wrong_key (not (bytes_eq person.key key))

pub mistaken_moment : (person : Option Actor) (key : List ℕ) (why : Option Refusal) → why ≡ mistaken person key → IfSome why RefusalHasMoment
mistaken_moment person key why is = subst (λ (o : Option Refusal). IfSome o RefusalHasMoment) (sym is) (of_mistaken person key)
