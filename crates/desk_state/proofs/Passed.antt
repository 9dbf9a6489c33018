-- What holds where the tests of a call are passed.
use Rattle.std.proofs.Common.{◌≡◌, not, Bool, true, false, Option, None, Some, Ok, refl}
use Rattle.std.proofs.lemmas.Bool.{not-false}
use Rattle.asks.specs.declared.reply.Refusal.{Refusal}
use Rattle.plan.specs.declared.check.BadPlan.{BadPlan}
use Rattle.desk_state.specs.Chain.{some_or, refused_if}
use Rattle.desk_state.specs.Decide.{bad_plan}

pub some_given : {A : Type 0} (x : Refusal) (o : Option A) (a : A) → some_or x o ≡ Ok a → o ≡ Some a
some_given x None a e = absurd (cc)
some_given x (Some b) a e = cc

-- what isn't refused isn't so
pub not_so : (b : Bool) (x : Refusal) → refused_if b x ≡ None → b ≡ false
not_so true x e = absurd (cc)
not_so false x e = refl

pub so : (b : Bool) (x : Refusal) → refused_if (not b) x ≡ None → b ≡ true
so b x e = not-false b (not_so (not b) x e)

pub no_plan_fault : (o : Option BadPlan) → bad_plan o ≡ None → o ≡ None
no_plan_fault None e = refl
no_plan_fault (Some bad) e = absurd (cc)
