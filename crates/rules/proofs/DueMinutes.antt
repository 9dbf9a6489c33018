-- What is next due is the first of the minutes at which a rule of time begins to fail that comes after the moment.
use Rattle.std.proofs.Common.{◌≡◌, ℕ, ◌+◌, nat_lt, cond, List, [], ◌∷◌, ◌++◌, Option, None, Some, refl, ap, sym, ◌∙◌}
use Rattle.codes.specs.Cond.{lesser}
use Rattle.codes.proofs.CondLaws.{lesser_assoc, lesser_none}
use Rattle.ops_tables.specs.declared.rows.Settings.{Settings}
use Rattle.plan.specs.declared.flights.Leg.{Leg}
use Rattle.plan.specs.declared.flights.Plan.{Plan}
use Rattle.plan.specs.declared.findings.Rule.{Rule}
use Rattle.plan.specs.declared.release.Phase.{Phase}
use Rattle.rules.specs.Time.{limit_of}
use Rattle.rules.specs.Due.{rules_of_time, due_after, leg_due, legs_due, next_due, with_past, with_leg, with_legs, due_minutes, first_after, AreDue}
use Rattle.rules.specs.Sights.{all_dues}

module _ (moment : ℕ) where
  first_push : (minutes : List ℕ) (minute : ℕ) → first_after moment (minutes ++ minute ∷ []) ≡ lesser (first_after moment minutes) (cond (nat_lt moment minute) (Some minute) None)
  first_push [] minute = lesser_none (cond (nat_lt moment minute) (Some minute) None)
  first_push (m ∷ minutes) minute =
      ap (lesser (cond (nat_lt moment m) (Some m) None)) (first_push minutes minute)
      ∙ lesser_assoc (cond (nat_lt moment m) (Some m) None) (first_after moment minutes) (cond (nat_lt moment minute) (Some minute) None)

  first_past : (minutes : List ℕ) (limit : Option ℕ) → first_after moment (with_past minutes limit) ≡ lesser (first_after moment minutes) (due_after moment limit)
  first_past minutes None = sym (lesser_none (first_after moment minutes))
  first_past minutes (Some limit) = first_push minutes (limit + 1)

  module _ (settings : Settings) (plan : Plan) (phase : Phase) where
    first_leg : (rules : List Rule) (n : ℕ) (minutes : List ℕ) (leg : Leg)
        → first_after moment (with_leg rules settings plan phase n minutes leg) ≡ lesser (first_after moment minutes) (leg_due rules settings plan phase moment n leg)
    first_leg [] n minutes leg = sym (lesser_none (first_after moment minutes))
    first_leg (rule ∷ rules) n minutes leg =
        first_leg rules n (with_past minutes (limit_of rule settings plan.kind phase n leg)) leg
        ∙ ap (λ o. lesser o (leg_due rules settings plan phase moment n leg)) (first_past minutes (limit_of rule settings plan.kind phase n leg))
        ∙ sym (lesser_assoc (first_after moment minutes) (due_after moment (limit_of rule settings plan.kind phase n leg)) (leg_due rules settings plan phase moment n leg))

    first_legs : (n : ℕ) (minutes : List ℕ) (legs : List Leg)
        → first_after moment (with_legs settings plan phase n minutes legs) ≡ lesser (first_after moment minutes) (legs_due settings plan phase moment n legs)
    first_legs n minutes [] = sym (lesser_none (first_after moment minutes))
    first_legs n minutes (leg ∷ legs) =
        first_legs (n + 1) (with_leg rules_of_time settings plan phase n minutes leg) legs
        ∙ ap (λ o. lesser o (legs_due settings plan phase moment (n + 1) legs)) (first_leg rules_of_time n minutes leg)
        ∙ sym (lesser_assoc (first_after moment minutes) (leg_due rules_of_time settings plan phase moment n leg) (legs_due settings plan phase moment (n + 1) legs))

pub are_due : (plan : Plan) (phase : Phase) (settings : Settings) → AreDue plan phase settings (due_minutes plan phase settings)
unfolding next_due due_minutes
are_due plan phase settings moment = sym (first_legs moment settings plan phase 1 [] plan.legs)

dues_same : (settings : Settings) (plan : Plan) (phase : Phase) (moment n : ℕ) (minutes : List ℕ) (legs : List Leg)
    → all_dues (record { settings = settings; flight = plan.kind; phase = phase; moment = moment }) n minutes legs ≡ with_legs settings plan phase n minutes legs
dues_same settings plan phase moment n minutes [] = refl
dues_same settings plan phase moment n minutes (leg ∷ legs) = dues_same settings plan phase moment (n + 1) (with_leg rules_of_time settings plan phase n minutes leg) legs

pub made_due : (plan : Plan) (phase : Phase) (settings : Settings) (made start : List ℕ) (legs : List Leg)
    → made ≡ all_dues (record { settings = settings; flight = plan.kind; phase = phase; moment = 0 }) 1 start legs → start ≡ [] → legs ≡ plan.legs → made ≡ due_minutes plan phase settings
unfolding due_minutes
made_due plan phase settings made start legs is none same =
    is ∙ ap (λ ms. all_dues (record { settings = settings; flight = plan.kind; phase = phase; moment = 0 }) 1 ms legs) none
    ∙ ap (λ ls. all_dues (record { settings = settings; flight = plan.kind; phase = phase; moment = 0 }) 1 [] ls) same
    ∙ dues_same settings plan phase 0 1 [] plan.legs
