-- How many plans a call judges at most.
use Rattle.std.proofs.Common.{◌≡◌, ℕ, ◌+◌, ◌≤◌, Ok, ap, sym, ◌∙◌, subst, arith}
use Rattle.asks.specs.declared.call.Call.{Call}
use Rattle.asks.specs.declared.reply.Done.{Done}
use Rattle.asks.specs.Forms.{CallHasForms}
use Rattle.desk_state.specs.Allowed.{DecisionOf}
use Rattle.desk_state.specs.Counting.{count_touched, most_judged, to_decide}
use Rattle.desk_state.specs.Decide.{decide}
use Rattle.desk_state.specs.Sound.{Sound, InBounds}
use Rattle.desk_state.specs.State.{State}
use Rattle.desk_state.specs.declared.effect.Decision.{Decision}
use Rattle.desk_state.specs.declared.effect.Decision.TheVariants.{Do}
use Rattle.desk_state.specs.declared.effect.Effect.{Effect}
use Rattle.desk_state.proofs.AllowedLaws.{decision_is}
use Rattle.desk_state.proofs.CountLaws.{asks_judge, decides_few}
use Rattle.desk_state.proofs.Parts.{releases_rise}
use Rattle.board.proofs.Kept.{effect_of}

call_judges : (s : State) (call : Call) (d : Decision) (made : Done) (effect : Effect) → d ≡ Do made effect → Ok d ≡ decide s call → Sound s → InBounds s → CallHasForms call
    → to_decide call.ask + count_touched s effect ≤ most_judged s call.ask
call_judges s call d made effect is decided sound kept form =
    let fits = effect_of s call d made effect is decided sound kept form in
    let of = subst (DecisionOf s call) (sym decided ∙ ap (λ (x : Decision). Ok x) is) (decision_is s call sound) in
    asks_judge s call.actor _ of.1 (releases_rise s effect.on_releases fits.releases sound.ids)

-- an accepted call judges to decide, and what it touches
pub both_counted : (s : State) (call : Call) (d : Decision) (made : Done) (effect : Effect) (first middle last : ℕ) → d ≡ Do made effect → Ok d ≡ decide s call → Sound s → InBounds s → CallHasForms call
    → middle ≤ first + to_decide call.ask → last ≤ middle + count_touched s effect → last ≤ first + most_judged s call.ask
both_counted s call d made effect first middle last is decided sound kept form one two =
    let all = call_judges s call d made effect is decided sound kept form in omega (arith, all, one, two)

-- another one judges to decide at most
pub one_counted : (s : State) (call : Call) (first last : ℕ) → last ≤ first + to_decide call.ask → last ≤ first + most_judged s call.ask
one_counted s call first last one = let few = decides_few s call.ask in omega (arith, few, one)
