-- What the keeper's account says of two calls of a desk, and of one step.
use Rattle.std.specs.Prelude.{IfOk, OnErr}
use Rattle.std.proofs.Common.{◌≡◌, ℕ, ◌+◌, List, [], ◌∷◌, ◌++◌, Option, None, Some, true, is_some, Result, Ok, Err, inl, inr, refl, ap, sym, ◌∙◌, subst}
use Rattle.std.proofs.lemmas.List.{append_assoc, append-nil}
use Rattle.board.specs.Below.{AreKept}
use Rattle.board.specs.Prepare.{KeepsRows, installed}
use Rattle.board.specs.declared.prepared.Prepared.{Prepared}
use Rattle.desk_io.specs.Rows.{changed_by}
use Rattle.desk_io.specs.declared.rows.Change.{Change}
use Rattle.desk_state.specs.Install.{with_events}
use Rattle.desk_state.specs.Legal.{IsHistory, Legal, MayCome, next}
use Rattle.desk_state.specs.State.{State}
use Rattle.desk_state.specs.declared.entry.Entry.{Entry}
use Rattle.desk_state.specs.declared.event.Event.{Event}
use Rattle.keeper.specs.Account.{FailedCommit}
use Rattle.keeper.specs.declared.account.AccountEntry.{AccountEntry}
use Rattle.keeper.specs.declared.account.AccountEntry.TheVariants.{Load, Commit}
use Rattle.keeper.specs.declared.account.Outcome.TheVariants.{Done, Refused, Unknown}
use Rattle.keeper.specs.declared.keeping.KeepFault.{KeepFault}
use Rattle.keeper.specs.declared.keeping.KeepFault.TheVariants.{Failed, OutOfMemory}
use Rattle.desk.specs.Saved.{DoneUnless, Saves, SavesBetween, SavesEntry, WouldSave}

-- ---- two calls

pub saves_on : (s : State) (one two : List AccountEntry) (mid t : State) → Saves s one mid → Saves mid two t → Saves s (one ++ two) t
saves_on s [] two mid t first second = subst (λ (u : State). Saves u two t) first second
saves_on s (Load rows ∷ one) two mid t first second = absurd first
saves_on s (Commit changes Done ∷ one) two mid t first second = (first.0, first.1, saves_on first.0 one two mid t first.2 second)
saves_on s (Commit changes Refused ∷ one) two mid t first second = (first.0, saves_on s one two mid t first.1 second)
saves_on s (Commit changes Unknown ∷ one) two mid t first second = (first.0, saves_on s one two mid t first.1 second)

pub between_on : (old mid new : List AccountEntry) (s t u : State) → SavesBetween old mid s t → SavesBetween mid new t u → SavesBetween old new s u
between_on old mid new s t u one two = record {
  asked = one.asked ++ two.asked;
  account = two.account ∙ ap (λ es. es ++ two.asked) one.account ∙ append_assoc old one.asked two.asked;
  saves = saves_on s one.asked two.asked t u one.saves two.saves;
}

-- ---- one step

-- nothing was asked
pub between_none : (old new : List AccountEntry) (s t : State) → new ≡ old → t ≡ s → SavesBetween old new s t
between_none old new s t is same = record { asked = []; account = is ∙ sym (append-nil old); saves = same }

-- a commit failed
between_failed : (old new : List AccountEntry) (changes : List Change) (s t : State) → FailedCommit old new changes Failed → WouldSave changes s → t ≡ s → SavesBetween old new s t
between_failed old new changes s t (inl refused) would same = record { asked = Commit changes Refused ∷ []; account = refused; saves = (would, same) }
between_failed old new changes s t (inr unknown) would same = record { asked = Commit changes Unknown ∷ []; account = unknown; saves = (would, same) }

between_done : (old new : List AccountEntry) (changes : List Change) (s t : State) → new ≡ old ++ Commit changes Done ∷ [] → SavesEntry changes s t → SavesBetween old new s t
between_done old new changes s t done saved = record { asked = Commit changes Done ∷ []; account = done; saves = (t, saved, refl) }

entry_by : (o : Option Event) (s : State) → is_some o ≡ true → (entry : Entry) × ((with_events o s).entries ≡ s.entries ++ entry ∷ [])
entry_by None s some = absurd (cc)
entry_by (Some e) s some = (e.entered, refl)

-- the history of a state goes on to the next one by one entry, which may come there
legal_more : (opening s t : State) (es : List Entry) (e : Entry) → Legal opening es s → Legal opening (es ++ e ∷ []) t → MayCome s e.lane e.what × (t ≡ next s e.lane e.what)
legal_more opening s t [] e one two =
    subst (λ (u : State). MayCome u e.lane e.what × (t ≡ next u e.lane e.what)) one (two.0, sym two.1)
legal_more opening s t (x ∷ es) e one two = legal_more (next opening x.lane x.what) s t es e one.1 two.1

legal_one : (opening s t : State) (e : Entry) → IsHistory opening s → IsHistory opening t → t.entries ≡ s.entries ++ e ∷ [] → MayCome s e.lane e.what × (t ≡ next s e.lane e.what)
legal_one opening s t e before after is = legal_more opening s t s.entries e before.legal (subst (λ es. Legal opening es t) is after.legal)

step_saved : (changes : List Change) (opening s : State) (p : Prepared) → is_some p.event ≡ true → changes ≡ p.changes.items → KeepsRows s p → IsHistory opening s → IsHistory opening (installed p s)
    → SavesEntry changes s (installed p s)
unfolding installed KeepsRows
step_saved changes opening s p some are keeps before after =
    let entered = entry_by p.event s some in
    let comes = legal_one opening s (with_events p.event s) entered.0 before after entered.1 in
    record {
      entry = entered.0;
      comes = comes.0;
      leads = comes.1;
      entered = entered.1;
      rows = λ rows kept. subst (λ (cs : List Change). AreKept (changed_by cs rows) (with_events p.event s)) (sym are) (keeps rows kept);
    }

-- a prepared step was stored and installed
pub step_between : (old new : List AccountEntry) (changes : List Change) (opening s t : State) (p : Prepared) → is_some p.event ≡ true → changes ≡ p.changes.items → KeepsRows s p → IsHistory opening s
    → IsHistory opening (installed p s) → new ≡ old ++ Commit changes Done ∷ [] → t ≡ installed p s → SavesBetween old new s t
step_between old new changes opening s t p some are keeps before after done is =
    subst (SavesBetween old new s) (sym is) (between_done old new changes s (installed p s) done (step_saved changes opening s p some are keeps before after))

-- a prepared step couldn't be stored
pub step_failed : (old new : List AccountEntry) (changes : List Change) (opening s t : State) (p : Prepared) → is_some p.event ≡ true → changes ≡ p.changes.items → KeepsRows s p → IsHistory opening s
    → IsHistory opening (installed p s) → FailedCommit old new changes Failed → t ≡ s → SavesBetween old new s t
step_failed old new changes opening s t p some are keeps before after failed is =
    between_failed old new changes s t failed (installed p s, step_saved changes opening s p some are keeps before after) is

-- ---- what a commit's answer says

-- the answer to a commit that failed, whose fault is told or memory runs out
pub told_failed : {E : Type 0} (r : Result (Option ℕ) E) (faults : ℕ) (old new : List AccountEntry) (changes : List Change) → IfOk r (λ fault. fault ≡ Some faults)
    → FailedCommit old new changes Failed → IfOk r (λ fault. DoneUnless fault old changes new)
told_failed (Ok fault) faults old new changes told failed = subst (λ o. DoneUnless o old changes new) (sym told) failed
told_failed (Err e) faults old new changes told failed = tt

pub told_unsaved : {E : Type 0} (r : Result (Option ℕ) E) (old new : List AccountEntry) (changes : List Change) → FailedCommit old new changes Failed → OnErr r (FailedCommit old new changes Failed)
told_unsaved (Ok fault) old new changes failed = tt
told_unsaved (Err e) old new changes failed = failed

pub as_failed : (old new : List AccountEntry) (changes : List Change) (why : KeepFault) → FailedCommit old new changes why → FailedCommit old new changes Failed
as_failed old new changes Failed failed = failed
as_failed old new changes OutOfMemory refused = inl refused
