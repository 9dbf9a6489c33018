-- The alert of a release after a judgement.
use Rattle.std.specs.Prelude.{ℕ, ◌+◌, ◌≤◌, Bool, ◌&&◌, true, false, if◌then◌else◌, List, [], ◌∷◌, Option, None, Some}
use Rattle.plan.specs.declared.findings.Finding.{Finding}
use Rattle.plan.specs.Findings.{is_same, is_before, AreInOrder, AreAmong}
use Rattle.desk_time.specs.Limits.{IsMoment}
use Rattle.alerts.specs.declared.alert.Alert.{Alert}

-- the same findings in the same order
abbrev pub are_same : List Finding → List Finding → Bool
are_same [] [] = true
are_same [] (g ∷ gs) = false
are_same (f ∷ fs) [] = false
are_same (f ∷ fs) (g ∷ gs) = is_same f g && are_same fs gs

-- sorted findings with one more in its place
abbrev pub with_finding : Finding → List Finding → List Finding
with_finding f [] = f ∷ []
with_finding f (g ∷ gs) = if is_before f g then f ∷ g ∷ gs else (if is_same f g then g ∷ gs else g ∷ with_finding f gs)

-- sorted findings with others in their places
abbrev pub with_findings : List Finding → List Finding → List Finding
with_findings ever [] = ever
with_findings ever (f ∷ fs) = with_findings (with_finding f ever) fs

-- a new alert with the rules that fail
abbrev pub opened_alert : ℕ → List ℕ → List Finding → ℕ → Alert
opened_alert release desk findings moment =
    record { release = release; desk = desk; version = 1; opened = moment; failing = findings; ever = findings; acknowledged = false }

-- The alert when other rules fail. Its version increases by one, and it isn't acknowledged. It has the findings and
-- keeps all earlier ones in `ever`.
abbrev pub changed_alert : Alert → List Finding → Alert
changed_alert a findings = record a { version = a.version + 1; failing = findings; ever = with_findings a.ever findings; acknowledged = false }

-- an open alert stays open, and stays unchanged if the same rules fail
abbrev pub alert_once_open : Bool → Alert → List Finding → Alert
alert_once_open true a findings = a
alert_once_open false a findings = changed_alert a findings

-- The alert after a judgement. There is none if none was open and no rule fails.
abbrev pub alert_after : Option Alert → ℕ → List ℕ → List Finding → ℕ → Option Alert
alert_after None release desk [] moment = None
alert_after None release desk (f ∷ fs) moment = Some (opened_alert release desk (f ∷ fs) moment)
alert_after (Some a) release desk findings moment = Some (alert_once_open (are_same a.failing findings) a findings)

-- What holds of every alert, if no version is above `most`. The failing rules and those in `ever` are sorted without
-- duplicates, and the failing ones are in `ever`.
pub record IsAlert (most : ℕ) (a : Alert) : Type 0 where
  pub moment : IsMoment a.opened
  pub first : 1 ≤ a.version
  pub version : a.version ≤ most
  pub failing : AreInOrder a.failing
  pub ever : AreInOrder a.ever
  pub among : AreAmong a.ever a.failing
