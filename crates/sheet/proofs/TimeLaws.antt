-- The lines of the rules of time fail exactly where these rules do.
use Rattle.std.proofs.Common.{◌≡◌, ℕ, ◌+◌, ◌-◌, ◌==◌, Bool, true, false, not, Option, None, Some, refl, ap, sym, ◌∙◌, arith}
use Rattle.std.specs.Prelude.{nat_le, nat_lt, map}
use Rattle.std.specs.Option.{option_map}
use Rattle.std.proofs.lemmas.Bool.{ltb-true, ltb-false, lt-ltb}
use Rattle.ops_tables.specs.declared.rows.Settings.{Settings}
use Rattle.plan.specs.declared.findings.Rule.{Rule}
use Rattle.plan.specs.declared.findings.Rule.TheVariants.{No1, No2, No17, No18}
use Rattle.plan.specs.declared.flights.Kind.{Kind}
use Rattle.plan.specs.declared.flights.Leg.{Leg}
use Rattle.plan.specs.declared.release.Phase.{Phase}
use Rattle.plan.specs.declared.release.Phase.TheVariants.{Drafted, Ready, Flying, Stopped, Completed, Cancelled}
use Rattle.plan.specs.Phases.{is_flying}
use Rattle.rules.specs.DestinationAlternates.{is_domestic, is_flag, place_if}
use Rattle.rules.specs.Time.{only_if, unless_again, stop_limit, departs_next, limit_of, is_past, late_places}
use Rattle.rules.specs.Judgement.{finding}
use Rattle.sheet.specs.declared.lines.Compared.TheVariants as compared
use Rattle.sheet.specs.Lines.{line, failing}
use Rattle.sheet.specs.Time.{stopped_since, counts_since, allowed, elapsed, lines_since, time_lines}
use Rattle.sheet.proofs.LineLaws.{not_within, its_line}

-- more minutes have passed than are allowed exactly if the moment is after the limit
beyond_by : (b : Bool) (since allowed moment : ℕ) → nat_lt (since + allowed) moment ≡ b → nat_lt allowed (moment - since) ≡ b
beyond_by true since allowed moment e = let h = ltb-true (since + allowed) moment e in lt-ltb allowed (moment - since) (omega (arith, h))
beyond_by false since allowed moment e =
    let h = ltb-false (since + allowed) moment e in
    elim (nat_lt allowed (moment - since)) as (λ t. nat_lt allowed (moment - since) ≡ t → t ≡ false) [
      | true ↦ λ t. let l = ltb-true allowed (moment - since) t in absurd (omega (arith, h, l))
      | false ↦ λ t. refl
    ] refl

too_long : (since allowed moment : ℕ) → not (nat_le (moment - since) allowed) ≡ nat_lt (since + allowed) moment
too_long since allowed moment = not_within (moment - since) allowed ∙ beyond_by (nat_lt (since + allowed) moment) since allowed moment refl

-- the last minute that is allowed
abbrev until : ℕ → ℕ → ℕ
until allowed since = since + allowed

past : (rule : Rule) (n : ℕ) (o : Option ℕ) (allowed moment : ℕ) → failing (lines_since rule n o allowed moment) ≡ map (finding rule n) (place_if (is_past (option_map (until allowed) o) moment) 0)
past rule n None allowed moment = refl
past rule n (Some since) allowed moment = its_line (line rule n 0 (compared.Time (elapsed since allowed moment))) _ (too_long since allowed moment)

only : (b : Bool) (minutes : ℕ) (limit o : Option ℕ) → limit ≡ option_map (until minutes) o → only_if b limit ≡ option_map (until minutes) (only_if b o)
only true minutes limit o is = is
only false minutes limit o is = refl

again_or : (again : Bool) (minutes since : ℕ) → unless_again again (since + minutes) ≡ option_map (until minutes) (unless_again again since)
again_or true minutes since = refl
again_or false minutes since = refl

stop : (minutes : ℕ) (phase : Phase) (n : ℕ) → stop_limit minutes phase n ≡ option_map (until minutes) (stopped_since phase n)
stop minutes Drafted n = refl
stop minutes Ready n = refl
stop minutes (Flying in_flight) n = refl
stop minutes (Stopped next since again) n = only (n == next) minutes _ _ (again_or again minutes since)
stop minutes (Completed at) n = refl
stop minutes (Cancelled at) n = refl

limit : (rule : Rule) (settings : Settings) (flight : Kind) (phase : Phase) (n : ℕ) (leg : Leg)
    → limit_of rule settings flight phase n leg ≡ option_map (until (allowed rule settings)) (counts_since rule flight phase n leg)
limit No1 settings flight phase n leg = only (is_domestic flight) 60 _ _ (stop 60 phase n)
limit No2 settings flight phase n leg = only (is_flag flight) 360 _ _ (stop 360 phase n)
limit No17 settings flight phase n leg = only (departs_next phase n) settings.late_off _ _ refl
limit No18 settings flight phase n leg = only (is_flying phase n) settings.late_on _ _ refl
limit _ settings flight phase n leg = refl

pub time_fail : (rule : Rule) (settings : Settings) (flight : Kind) (phase : Phase) (n : ℕ) (leg : Leg) (moment : ℕ)
    → failing (time_lines rule settings flight phase n leg moment) ≡ map (finding rule n) (late_places rule settings flight phase n leg moment)
time_fail rule settings flight phase n leg moment =
    past rule n (counts_since rule flight phase n leg) (allowed rule settings) moment
    ∙ ap (λ o. map (finding rule n) (place_if (is_past o moment) 0)) (sym (limit rule settings flight phase n leg))
