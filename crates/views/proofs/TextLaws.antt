-- The text of what a view shows is the view as text.
use Rattle.std.proofs.Common.{◌≡◌, refl, ap, ◌∙◌, List, [], ◌∷◌, ◌++◌, ℕ, Option, None, Some, Result, Ok, Err}
use Rattle.std.specs.List.{concat}
use Rattle.std.specs.Option.{option_map}
use Rattle.std.specs.Prelude.{codes}
use Rattle.alerts.specs.declared.alert.Alert.{Alert}
use Rattle.asks.specs.declared.reply.Refusal.{Refusal}
use Rattle.asks.specs.declared.reply.Reply.TheVariants.{Seen}
use Rattle.deferrals.specs.Due.{due}
use Rattle.deferrals.specs.Limits.{open_on}
use Rattle.deferrals.specs.declared.items.Deferral.{Deferral}
use Rattle.desk_state.specs.Chain.{◌>>-◌, unless}
use Rattle.desk_state.specs.Decide.{aircraft, held, no_airport}
use Rattle.desk_state.specs.State.{State, alert_at}
use Rattle.desk_state.specs.Texts as texts
use Rattle.desk_state.specs.declared.effect.Decision.TheVariants.{Show}
use Rattle.desk_time.specs.Moments.{shown}
use Rattle.ops_tables.specs.Tables.{TableRows, item_of}
use Rattle.ops_tables.specs.declared.rows.MelRow.{MelRow}
use Rattle.plan.specs.declared.release.Phase.{Phase}
use Rattle.plan.specs.declared.release.Release.{Release}
use Rattle.plan.specs.declared.release.Revision.{Revision}
use Rattle.views.specs.Shown.{board_shown, deferred_shown, detail_shown, item_shown, items_shown, release_shown, releases_shown}
use Rattle.views.specs.Texts as text
use Rattle.views.specs.Views.{Deferred, Detail, IsShownAsText, Shown, decision_of, shown_text}
use Rattle.views.specs.declared.view.View.{View}
use Rattle.views.specs.declared.view.View.TheVariants as view

one_line : (id : ℕ) (holder : List ℕ) (phase : Phase) (pending active : Option Revision) (alert : Option Alert)
    → let r : Release = record { id = id; holder = holder; phase = phase; pending = pending; active = active } in texts.release_line r alert ≡ text.release_line (release_shown r alert)
unfolding texts.release_line
one_line id holder phase None None alert = refl
one_line id holder phase None (Some v) alert = refl
one_line id holder phase (Some u) None alert = refl
one_line id holder phase (Some u) (Some v) alert = refl

all_lines : (alerts : List Alert) (rs : List Release) → texts.release_lines alerts rs ≡ text.release_lines (releases_shown alerts rs)
all_lines alerts [] = refl
all_lines alerts (r ∷ rs) =
    ap (λ line. line ++ texts.release_lines alerts rs) (one_line r.id r.holder r.phase r.pending r.active (alert_at r.id alerts))
    ∙ ap (λ lines. text.release_line (release_shown r (alert_at r.id alerts)) ++ lines) (all_lines alerts rs)

one_due : (row : Option MelRow) (d : Deferral) → texts.due_text row d ≡ text.due_text (option_map (λ r. due r d.found) row)
one_due None d = refl
one_due (Some row) d = refl

one_item : (tables : TableRows) (kind : List ℕ) (d : Deferral) → texts.deferral_line tables kind d ≡ text.item_line (item_shown tables kind d)
unfolding texts.deferral_line
one_item tables kind d = ap (λ due. texts.deferral_head d ++ (concat (shown d.found ∷ codes " due " ∷ due ∷ codes "\n" ∷ []))) (one_due (item_of tables kind d.item) d)

all_items : (tables : TableRows) (kind : List ℕ) (ds : List Deferral) → texts.deferral_lines tables kind ds ≡ text.item_lines (items_shown tables kind ds)
all_items tables kind [] = refl
all_items tables kind (d ∷ ds) =
    ap (λ line. line ++ texts.deferral_lines tables kind ds) (one_item tables kind d)
    ∙ ap (λ lines. text.item_line (item_shown tables kind d) ++ lines) (all_items tables kind ds)

over : {A : Type 0} (m : Result A Refusal) (f : A → List ℕ) (g : A → Shown) → ((a : A) → f a ≡ shown_text (g a)) → (m >>- λ a. Ok (Show (Seen (f a)))) ≡ decision_of (m >>- λ a. Ok (g a))
over (Err refusal) f g each = refl
over (Ok a) f g each = ap (λ t. Ok (Show (Seen t))) (each a)

past : (o : Option Refusal) (t : List ℕ) (x : Shown) → t ≡ shown_text x → unless o (Ok (Show (Seen t))) ≡ decision_of (unless o (Ok x))
past None t x is = ap (λ u. Ok (Show (Seen u))) is
past (Some refusal) t x is = refl

shown_on_board : (s : State) → texts.board_view s ≡ text.board_text (board_shown s)
unfolding texts.board_view
shown_on_board s = ap (λ lines. texts.board_head s.moment ++ lines) (all_lines s.alerts s.releases)

pub shown_as_text : (s : State) (v : View) → IsShownAsText s v
shown_as_text s view.Board actor = ap (λ t. Ok (Show (Seen t))) (shown_on_board s)
shown_as_text s view.Alerts actor = refl
shown_as_text s (view.Release id) actor = over (held s id) texts.release_view (λ r. Detail (detail_shown s r)) (λ r. refl)
shown_as_text s (view.Weather station) actor = past (no_airport s station) _ _ refl
shown_as_text s (view.Deferred tail) actor =
    over (aircraft s tail) (λ kind. texts.deferral_lines s.tables kind.kind (open_on tail s.deferrals)) (λ kind. Deferred (deferred_shown s tail kind.kind))
    (λ kind. all_items s.tables kind.kind (open_on tail s.deferrals))
