-- A state that records stand for, once it is judged, and its rows.
use Rattle.std.proofs.Common.{◌≡◌, ℕ, Bool, true, false, inl, inr, List, [], ◌∷◌, ◌++◌, map, Option, None, Some, refl, sym, ap, ◌∙◌, subst}
use Rattle.std.specs.List.{AllByRecursion}
use Rattle.desk_io.specs.Rows.{Rows, rows_of, changed, changed_by}
use Rattle.desk_io.specs.declared.rows.Change.{Change}
use Rattle.keeper.specs.Kept.{AreSame}
use Rattle.row_changes.specs.Judged.{judged_changes}
use Rattle.row_changes.specs.Upgraded.{if_old, opened_changes, upgraded_changes}
use Rattle.row_changes.specs.Rows.{report_kept, alert_kept, records_of, state_rows, AreKept}
use Rattle.row_changes.proofs.AlertRows.{changes_own}
use Rattle.row_changes.proofs.JudgedLaws.{judged_lead, with_alerts}
use Rattle.desk_state.specs.declared.change.AlertChange.{AlertChange}
use Rattle.desk_state.specs.Effects.{nothing}
use Rattle.desk_state.specs.Events.{alert_changes, put_changes}
use Rattle.desk_state.specs.Sound.{EffectFits, IsBoard, Sound}
use Rattle.desk_state.specs.State.{State, start, judged_all}
use Rattle.ops_tables.specs.Named.{AreNamed}
use Rattle.ops_tables.specs.Tables.{TableRows}
use Rattle.records.specs.Below.VersionVariants.{First}
use Rattle.records.specs.Bodies.{row_in, row_of}
use Rattle.records.specs.Reading.{version_if}
use Rattle.records.specs.declared.record.Meta.{Meta as MetaOf}
use Rattle.records.specs.declared.record.Record.{Record}
use Rattle.records.specs.declared.record.Record.TheVariants.{Meta, Report, Deferral, Release, Kept, Alert}
use Rattle.row_changes.specs.Held.{AreOfDesk, meta_in, state_by, state_in, state_with}
use Rattle.row_changes.specs.Opening.{MayReopen, counters_with, events_with, reopened}
use Rattle.row_changes.proofs.OpeningLaws.{changes_lead, reopened_board}
use Rattle.desk_state.specs.Contents.{Held, held}
use Rattle.desk_state.specs.Holds.{Holds}
use Rattle.desk_state.specs.declared.counters.Counters.{Counters}
use Rattle.desk_state.proofs.Boards.{start_board}
use Rattle.desk_state.specs.Install.{IsOwn, with_judged}
use Rattle.desk_state.proofs.HoldLaws.{board_holds}
use Rattle.row_changes.proofs.RecordLaws.{no_records, records_again}
use Rattle.row_changes.proofs.StateLaws.{counted_reopens, may_reopen}
use Rattle.row_changes.proofs.UpgradedLaws.{releases_ascend, upgraded_first, upgraded_lead}

-- an effect that changes nothing
pub nothing_fits : (s : State) → EffectFits s nothing
nothing_fits s = record { moment = tt; report = tt; apart = tt; deferrals = tt; releases = tt }

-- ---- the rows of the state that records stand for

mapped : {A B : Type 0} (g : B → Record) (h : A → B) (xs : List A) → map (λ x. g (h x)) xs ≡ map g (map h xs)
mapped g h [] = refl
mapped g h (x ∷ xs) = ap (λ rest. g (h x) ∷ rest) (mapped g h xs)

counted_again : (tables : TableRows) (rs : List Record) (m : MetaOf) → AreOfDesk rs → meta_in rs ≡ Some m → records_of (state_with tables m rs) ≡ rs
unfolding records_of
counted_again tables rs m are is =
    let s = state_with tables m rs in
    ap (λ xs. Meta m ∷ xs ++ map Deferral s.deferrals ++ map Release s.releases ++ map Kept s.kept ++ map (λ a. Alert (alert_kept a)) s.alerts) (mapped Report (λ r. report_kept r) s.reports)
    ∙ ap (λ xs. Meta m ∷ map Report (map (λ r. report_kept r) s.reports) ++ map Deferral s.deferrals ++ map Release s.releases ++ map Kept s.kept ++ xs) (mapped Alert (λ a. alert_kept a) s.alerts)
    ∙ records_again rs m are is

-- these rows are kept for it
kept_by : (tables : TableRows) (rs : List Record) (o : Option MetaOf) (rows : Rows) → AreOfDesk rs → meta_in rs ≡ o → AreSame rows (rows_of (map row_of rs)) → AreKept rows (state_by tables o rs)
unfolding state_rows
kept_by tables rs None rows are is same = inr ((λ kind key. same kind key ∙ ap (λ (xs : List Record). rows_of (map row_of xs) kind key) (no_records rs are is)), refl)
kept_by tables rs (Some m) rows are is same = inl (λ kind key. same kind key ∙ ap (λ (xs : List Record). rows_of (map row_of xs) kind key) (sym (counted_again tables rs m are is)))

-- rows of the first version are, once they are rewritten
old_kept_by : (tables : TableRows) (rs : List Record) (o : Option MetaOf) (rows : Rows) → AreNamed tables → AreOfDesk rs → meta_in rs ≡ o → AreSame rows (rows_of (map (row_in First) rs))
    → AreKept (changed_by (upgraded_changes (state_by tables o rs)) rows) (state_by tables o rs)
old_kept_by tables rs None rows names are is same =
    inl (upgraded_first tables rows (λ kind key. same kind key ∙ ap (λ (xs : List Record). rows_of (map (row_in First) xs) kind key) (no_records rs are is)))
old_kept_by tables rs (Some m) rows names are is same =
    let s = state_with tables m rs in
    inl (upgraded_lead s (releases_ascend s (counted_reopens tables rs m names are is)) rows
    (λ kind key. same kind key ∙ ap (λ (xs : List Record). rows_of (map (row_in First) xs) kind key) (sym (counted_again tables rs m are is))))

-- by the version of the rows
state_kept : (tables : TableRows) (rs : List Record) (old : Bool) (rows : Rows) → AreNamed tables → AreOfDesk rs → AreSame rows (rows_of (map (row_in (version_if old)) rs))
    → AreKept (changed_by (if_old old (state_in tables rs)) rows) (state_in tables rs)
unfolding state_in
state_kept tables rs false rows names are same = kept_by tables rs (meta_in rs) rows are refl same
state_kept tables rs true rows names are same = old_kept_by tables rs (meta_in rs) rows names are refl same

-- ---- once it is judged

-- where no alert changes
still : (s : State) → MayReopen s → alert_changes nothing s ≡ [] → reopened s ≡ s
unfolding reopened
still s may none =
    ap (λ changes. record s { counters = counters_with changes s.counters; alerts = judged_all s }) none
    ∙ ap (λ alerts. record s { alerts = alerts }) (sym (changes_lead s may.holds.judgeable) ∙ ap (λ changes. put_changes changes s.alerts) none)

-- where some change
some_changed : (s : State) (c : AlertChange) (cs : List AlertChange) → MayReopen s → alert_changes nothing s ≡ c ∷ cs → reopened s ≡ with_alerts s (c ∷ cs)
unfolding reopened
some_changed s c cs may some =
    ap (λ changes. record s { counters = counters_with changes s.counters; alerts = judged_all s }) some
    ∙ ap (λ alerts. record s { counters = counters_with (c ∷ cs) s.counters; alerts = alerts }) (sym (changes_lead s may.holds.judgeable) ∙ ap (λ changes. put_changes changes s.alerts) some)

-- at the beginning no alert changes
none_changes : (s : State) (c : AlertChange) (cs : List AlertChange) → s ≡ start s.tables → alert_changes nothing s ≡ c ∷ cs → ⊥
none_changes s c cs is some = absurd (let none : alert_changes nothing s ≡ [] = ap (λ t. alert_changes nothing t) is in let no : c ∷ cs ≡ [] = sym some ∙ none in cc)

kept_as : (s : State) (changes : List AlertChange) (rows : Rows) → MayReopen s → alert_changes nothing s ≡ changes → AreKept rows s → AreKept (changed_by (judged_changes s changes) rows) (reopened s)
unfolding judged_changes
kept_as s [] rows may is kept = subst (λ t. AreKept rows t) (sym (still s may is)) kept
kept_as s (c ∷ cs) rows may is (inl same) =
    subst (λ t. AreKept (changed_by (judged_changes s (c ∷ cs)) rows) t) (sym (some_changed s c cs may is))
    (inl (judged_lead s c cs (subst (AllByRecursion IsOwn) is (changes_own nothing s)) may.holds.judgeable rows same))
kept_as s (c ∷ cs) rows may is (inr none) = absurd (none_changes s c cs none.1 is)

changed_twice : (one two : List Change) (rows : Rows) → changed_by (one ++ two) rows ≡ changed_by two (changed_by one rows)
changed_twice [] two rows = refl
changed_twice (c ∷ one) two rows = changed_twice one two (changed c rows)

-- what opening changes of the rows leads to those of the judged state
pub rows_kept : (tables : TableRows) (rs : List Record) (old : Bool) (changes : List Change) → AreNamed tables → AreOfDesk rs → changes ≡ opened_changes old (state_in tables rs) (alert_changes nothing (state_in tables rs))
    → (rows : Rows) → AreSame rows (rows_of (map (row_in (version_if old)) rs)) → AreKept (changed_by changes rows) (reopened (state_in tables rs))
unfolding opened_changes
rows_kept tables rs old changes names are is rows same =
    let s : State = state_in tables rs in
    subst (λ (after : Rows). AreKept after (reopened s)) (sym (ap (λ (cs : List Change). changed_by cs rows) is ∙ changed_twice (if_old old s) (judged_changes s (alert_changes nothing s)) rows))
    (kept_as s (alert_changes nothing s) (changed_by (if_old old s) rows) (may_reopen tables rs names are) refl (state_kept tables rs old rows names are same))

-- ---- in code

ends : (s : State) (changes : List AlertChange) → MayReopen s → changes ≡ alert_changes nothing s
    → record s { counters = counters_with changes s.counters; alerts = put_changes changes s.alerts } ≡ reopened s
unfolding reopened
ends s changes may is =
    ap (λ cs. record s { counters = counters_with cs s.counters; alerts = put_changes cs s.alerts }) is
    ∙ ap (λ alerts. record s { counters = counters_with (alert_changes nothing s) s.counters; alerts = alerts }) (changes_lead s may.holds.judgeable)

-- what is put in place is the judged state
pub is_reopened : (s : State) (changes : List AlertChange) → MayReopen s → changes ≡ alert_changes nothing s → with_judged changes (events_with changes s.counters.events) s ≡ reopened s
is_reopened s changes may is = ends s changes may is

pub judged_own : (s : State) (changes : List AlertChange) → changes ≡ alert_changes nothing s → AllByRecursion IsOwn changes
judged_own s changes is = subst (AllByRecursion IsOwn) (sym is) (changes_own nothing s)

pub reopened_sound : (s t : State) → MayReopen s → t ≡ reopened s → Sound t
reopened_sound s t may is = subst Sound (sym is) (reopened_board s may).sound

-- the number of events, as code counts them
pub counted_so : (s : State) (c : Counters) (changes listed : List AlertChange) (events : ℕ) → c ≡ s.counters → listed ≡ changes → events ≡ events_with listed c.events → events ≡ events_with changes s.counters.events
counted_so s c changes listed events is same counted = counted ∙ ap (λ xs. events_with xs c.events) same ∙ ap (λ (d : Counters). events_with changes d.events) is

pub judged_holds : (s : State) (changes : List AlertChange) (events : ℕ) → MayReopen s → changes ≡ alert_changes nothing s → events ≡ events_with changes s.counters.events → Holds (with_judged changes events s)
judged_holds s changes events may is counted =
    subst (λ (n : ℕ). Holds (with_judged changes n s)) (sym counted) (subst Holds (sym (is_reopened s changes may is)) (board_holds (reopened s) (reopened s) (reopened_board s may)))

pub judged_leads : (s : State) (h : Held) (changes : List AlertChange) (events : ℕ) (listed : Bool) → MayReopen s → changes ≡ alert_changes nothing s → events ≡ events_with changes s.counters.events
    → h ≡ held (with_judged changes events s) None listed → h.state ≡ reopened s
judged_leads s h changes events listed may is counted leads =
    ap (λ (k : Held). k.state) leads ∙ ap (λ (n : ℕ). with_judged changes n s) counted ∙ is_reopened s changes may is

-- ---- the board that is made of it

pub new_board : (tables : TableRows) (s t : State) → AreNamed tables → t ≡ start tables → s ≡ t → IsBoard s t
new_board tables s t names is same = subst (λ (u : State). IsBoard u t) (sym (same ∙ is)) (subst (IsBoard (start tables)) (sym is) (start_board tables names))
