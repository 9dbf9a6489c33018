-- What a judgement makes of the alert of a release.
use Rattle.std.specs.Prelude.{◌≡◌, ◌≢◌, ℕ, ◌+◌, ◌++◌, false, List, [], ◌∷◌, Option, None, Some}
use Rattle.plan.specs.declared.findings.Finding.{Finding}
use Rattle.plan.specs.Findings.{AreAmong}
use Rattle.alerts.specs.declared.alert.Alert.{Alert}

-- a new alert: version 1, opened now, for this dispatcher, with exactly the rules that fail
pub record IsOpened (id moment : ℕ) (holder : List ℕ) (findings : List Finding) (a : Alert) : Type 0 where
  pub release : a.release ≡ id
  pub desk : a.desk ≡ holder
  pub version : a.version ≡ 1
  pub opened : a.opened ≡ moment
  pub failing : a.failing ≡ findings
  pub ever : a.ever ≡ findings
  pub acknowledged : a.acknowledged ≡ false

-- An open alert that stays. It has exactly the rules that fail now. `ever` keeps its rules and gains only those that
-- fail now. If the same rules fail, the alert is unchanged. Otherwise its version is one more and it isn't
-- acknowledged.
pub record StaysOpen (old : Alert) (findings : List Finding) (a : Alert) : Type 0 where
  pub release : a.release ≡ old.release
  pub desk : a.desk ≡ old.desk
  pub opened : a.opened ≡ old.opened
  pub failing : a.failing ≡ findings
  pub same : old.failing ≡ findings → a ≡ old
  pub changed : old.failing ≢ findings → (a.version ≡ old.version + 1) × (a.acknowledged ≡ false)
  pub keeps : AreAmong a.ever old.ever
  pub gains : AreAmong (old.ever ++ findings) a.ever

-- No alert opens if no rule fails. An open alert stays, even if no rule fails any more.
abbrev pub Follows : Option Alert → ℕ → List ℕ → List Finding → ℕ → Option Alert → Type 0
Follows None release desk [] moment None = Unit {0}
Follows None release desk [] moment (Some a) = ⊥
Follows None release desk (f ∷ fs) moment None = ⊥
Follows None release desk (f ∷ fs) moment (Some a) = IsOpened release moment desk (f ∷ fs) a
Follows (Some old) release desk findings moment None = ⊥
Follows (Some old) release desk findings moment (Some a) = StaysOpen old findings a
