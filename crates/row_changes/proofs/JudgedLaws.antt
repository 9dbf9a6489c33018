-- The changes of a judgement lead from the rows of a state to those of the judged one.
use Rattle.std.proofs.Common.{◌≡◌, ◌+◌, lit≤, List, [], ◌∷◌, refl, ap, sym, ◌∙◌, subst}
use Rattle.std.specs.Prelude.{map, All}
use Rattle.std.specs.List.{AllByRecursion}
use Rattle.std.proofs.lemmas.List.Elements.{All-from_recursion}
use Rattle.desk_io.specs.Rows.{Rows, rows_of, changed_by}
use Rattle.alerts.specs.Alerts.{IsAlert}
use Rattle.keeper.specs.Kept.{AreSame}
use Rattle.desk_time.specs.Limits.{IsMoment}
use Rattle.desk_state.specs.declared.change.AlertChange.{AlertChange}
use Rattle.desk_state.specs.Effects.{nothing}
use Rattle.desk_state.specs.Events.{put_changes, alert_changes}
use Rattle.desk_state.specs.Sound.{AreJudgeable}
use Rattle.desk_state.specs.State.{State}
use Rattle.records.specs.Bodies.{row_in}
use Rattle.row_changes.specs.Rows.{state_rows}
use Rattle.row_changes.specs.Changes.{alert_rows}
use Rattle.row_changes.specs.Judged.{meta_after_event, judged_changes}
use Rattle.row_changes.specs.Shown.{WasOpened}
use Rattle.row_changes.proofs.Parts.{becomes, becomes_is, Leads, joined}
use Rattle.row_changes.proofs.Items.{part}
use Rattle.row_changes.proofs.AlertRows as alerts
use Rattle.row_changes.proofs.KindLaws.{meta_leads, report_row, deferral_row, release_row, kept_row, alert_row}
use Rattle.row_changes.proofs.Leading.{parts_of, rows_parts}
use Rattle.row_changes.proofs.ShownLaws.{Opened, over_opened}
use Rattle.desk_io.proofs.Each.{each_weaker}

-- a state after an event by which only alerts change
abbrev pub with_alerts : State → List AlertChange → State
with_alerts s changes = record s { counters = record s.counters { events = s.counters.events + 1 }; alerts = put_changes changes s.alerts }

module _ (s : State) (c : AlertChange) (cs : List AlertChange) (own : AllByRecursion alerts.IsOwn (c ∷ cs)) (rising : AreJudgeable s) where
  alerts_lead : Leads 5 6 (map alert_row s.alerts) (map alert_row (put_changes (c ∷ cs) s.alerts)) (alert_rows (c ∷ cs))
  unfolding row_in
  alerts_lead =
      part alert_row 5 (λ a. refl) s.alerts (put_changes (c ∷ cs) s.alerts) (alert_rows (c ∷ cs)) (alerts.rows_only (c ∷ cs))
      (λ q. alerts.changes_found (c ∷ cs) s.alerts q own (alerts.judgeable_ascend s rising))

  parts_lead : Leads 0 6 (parts_of s) (parts_of (with_alerts s (c ∷ cs))) (judged_changes s (c ∷ cs))
  unfolding judged_changes row_in
  parts_lead =
      joined 0 5 6 (lit≤ tt) (lit≤ tt) _ _ _ _ _ _
      (joined 0 4 5 (lit≤ tt) (lit≤ tt) _ _ _ _ _ _
      (joined 0 3 4 (lit≤ tt) (lit≤ tt) _ _ _ _ _ _
      (joined 0 2 3 (lit≤ tt) (lit≤ tt) _ _ _ _ _ _
      (joined 0 1 2 (lit≤ tt) (lit≤ tt) _ _ _ _ _ _ (meta_leads _ (meta_after_event s)) (part report_row 1 (λ r. refl) s.reports s.reports [] tt (λ q. refl)))
      (part deferral_row 2 (λ d. refl) s.deferrals s.deferrals [] tt (λ q. refl)))
      (part release_row 3 (λ r. refl) s.releases s.releases [] tt (λ q. refl)))
      (part kept_row 4 (λ k. refl) s.kept s.kept [] tt (λ q. refl)))
      alerts_lead

  -- from the rows of the state
  pub judged_lead : (rows : Rows) → AreSame rows (rows_of (state_rows s)) → AreSame (changed_by (judged_changes s (c ∷ cs)) rows) (rows_of (state_rows (with_alerts s (c ∷ cs))))
  judged_lead rows same k q =
      becomes_is (judged_changes s (c ∷ cs)) rows k q
      ∙ ap (λ o. becomes k q (judged_changes s (c ∷ cs)) o) (same k q ∙ ap (λ rs. rows_of rs k q) (rows_parts s))
      ∙ parts_lead.leads k q
      ∙ sym (ap (λ rs. rows_of rs k q) (rows_parts (with_alerts s (c ∷ cs))))

-- the alerts of a judgement were opened at moments that can be shown
pub judged_opened : (s : State) (changes : List AlertChange) → IsMoment s.moment → AreJudgeable s → changes ≡ alert_changes nothing s → All (λ c. WasOpened c.after) changes
judged_opened s changes shown judgeable is =
    subst (λ (cs : List AlertChange). All (λ c. WasOpened c.after) cs) (sym is)
    (All-from_recursion (λ c. WasOpened c.after) (alert_changes nothing s)
    (over_opened s s.alerts s.releases shown (each_weaker (IsAlert s.counters.events) Opened (λ a is. is.moment) s.alerts judgeable.alerts)))
