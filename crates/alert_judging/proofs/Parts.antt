-- What is held once an effect is there.
use Rattle.std.proofs.Common.{◌≡◌, ℕ, List, ◌++◌, append-nil, Option, None, Some, option_to_list, refl, sym, ap, ◌∙◌}
use Rattle.deferrals.specs.declared.items.Deferral.{Deferral}
use Rattle.deferrals.specs.Held.{without}
use Rattle.facts.specs.declared.report.Report.{Report}
use Rattle.rules.specs.Grounds.{once_cleared, Grounds}
use Rattle.desk_state.specs.Events.{reports_after, reports_swept, deferrals_after}
use Rattle.desk_state.specs.declared.effect.OnDeferrals.{OnDeferrals}
use Rattle.desk_state.specs.declared.effect.OnDeferrals.TheVariants as on_deferrals
use Rattle.plan.specs.declared.findings.Finding.{Finding}
use Rattle.plan.specs.declared.flights.Plan.{Plan}
use Rattle.plan.specs.declared.release.Phase.{Phase}
use Rattle.rules.specs.Judgement.{findings_of}
use Rattle.rules.proofs.FrameLaws.{findings_swept}
use Rattle.desk_state.specs.State.{grounds_of}
use Rattle.desk_state.specs.declared.effect.Sweep.{Sweep}
use Rattle.alert_judging.specs.Prospect.{prospect, before_sweep, deferred_of, cleared_of}
use Rattle.alert_judging.specs.declared.prospect.Prospect.{Prospect}

fresh_after : (o : Option Report) (held : List Report) → reports_after o held ≡ held ++ option_to_list o
fresh_after None held = sym (append-nil held)
fresh_after (Some report) held = refl

pub reports_then : (o p : Option Report) (held : List Report) → p ≡ o → reports_after o held ≡ held ++ option_to_list p
reports_then o p held is = fresh_after o held ∙ ap (λ (x : Option Report). held ++ option_to_list x) (sym is)

open_after : (on : OnDeferrals) (held : List Deferral) → deferrals_after on held ≡ once_cleared (cleared_of on) held ++ option_to_list (deferred_of on)
open_after on_deferrals.Nothing held = sym (append-nil held)
open_after (on_deferrals.Open d) held = refl
open_after (on_deferrals.Clear id) held = sym (append-nil (without id held))

pub deferrals_then : (on : OnDeferrals) (held : List Deferral) (cleared : Option ℕ) (deferred : Option Deferral) → cleared ≡ cleared_of on → deferred ≡ deferred_of on
    → deferrals_after on held ≡ once_cleared cleared held ++ option_to_list deferred
deferrals_then on held cleared deferred one two = open_after on held ∙ sym (ap (λ o. once_cleared o held ++ option_to_list deferred) one
    ∙ ap (λ (o : Option Deferral). once_cleared (cleared_of on) held ++ option_to_list o) two)

swept_finds : (plan : Plan) (phase : Phase) (o : Option Sweep) (g : Grounds) → findings_of plan phase (record g { reports = reports_swept o g.reports }) ≡ findings_of plan phase g
swept_finds plan phase None g = refl
swept_finds plan phase (Some w) g = findings_swept plan phase g w.before w.attached

-- a judgement finds the same before a sweep and after it
pub finds_the_same : (p : Prospect) (plan : Plan) (phase : Phase) (g : Grounds) (findings : List Finding) → g ≡ before_sweep p → findings ≡ findings_of plan phase g
    → findings ≡ findings_of plan phase (grounds_of (prospect p))
finds_the_same p plan phase g findings is found =
    found ∙ ap (λ (h : Grounds). findings_of plan phase h) is ∙ sym (swept_finds plan phase p.effect.now.sweep (before_sweep p))
