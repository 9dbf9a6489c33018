-- Two tests in turn.
use Rattle.std.proofs.Common.{◌≡◌, Option, None, Some, refl}
use Rattle.asks.specs.declared.reply.Refusal.{Refusal}
use Rattle.decisions.specs.Answers.{in_turn}

-- where they pass, each of them does
pub both_pass : {a b : Option Refusal} → in_turn a b ≡ None → (a ≡ None) × (b ≡ None)
both_pass {a = None} e = (refl, e)
both_pass {a = Some x} e = absurd (cc)
