-- What changes that are made one after another leave of the last commit.
use Rattle.std.proofs.Common.{◌≡◌, ℕ, ◌+◌, ◌<◌, Bool, true, false, inl, inr, List, [], ◌∷◌, length, drop, get_or, Result, Ok, Err, IsTrue, refl, sym, ap, subst, ◌∙◌, arith}
use Rattle.std.specs.Prelude.{IsErr, IsErrAnd, MatchBool}
use Rattle.std.proofs.lemmas.List.{drop_more}
use Rattle.desk_io.specs.declared.rows.Change.{Change}
use Rattle.sqlite.specs.Order.{Row as Line}
use Rattle.sqlite.specs.Store.{Ghosts}
use Rattle.sqlite.specs.declared.error.Error.{Error}
use Rattle.sqlite.specs.State.{State, KeepsCommit, IsRolledBack, Commits, Survives}
use Rattle.sqlite.specs.Steps.{FailsToCommit}
use Rattle.sqlite.specs.Held.{Held, state}
use Rattle.sqlite.proofs.StateLemmas.{survives_then}
use Rattle.sqlite.proofs.Callers.{survives_begin}
use Rattle.sqlite_keeper.specs.Troubles.{trouble_of}
use Rattle.sqlite_keeper.specs.declared.trouble.Trouble.{Trouble}
use Rattle.sqlite_keeper.specs.Transactions.{IsClean, IsUndone, IsRun, Makes, MakesEach, begun, Stops, Changes, IsAfter}

keeps_same : (s : State) → KeepsCommit s s
keeps_same s = record { was_open = λ h. h; committed = λ _. refl }

keeps_then : (a b c : State) → KeepsCommit a b → KeepsCommit b c → KeepsCommit a c
keeps_then a b c one two =
    record { was_open = λ h. one.was_open (two.was_open h); committed = λ h. two.committed h ∙ one.committed (two.was_open h) }

left_at : (changes : List Change) (i : ℕ) (change : Change) → i < length changes → change ≡ get_or changes i change → drop i changes ≡ change ∷ drop (i + 1) changes
left_at changes i change within is = drop_more changes i change within ∙ ap (λ c. c ∷ drop (i + 1) changes) (sym is)

module _ {S : Type 0} (g : Ghosts S) where
  run_keeps : (text : List ℕ) (values : Line) (old new : Held S) (r : Result (Unit {0}) Trouble) → IsRun g text values old new r
      → KeepsCommit (state g old) (state g new)
  run_keeps text values old new r (Ok count, ran, is) = record { was_open = λ _. ran.1.was_open; committed = λ _. ran.1.committed_is }
  run_keeps text values old new r (Err e, inl (ran, inl same), is) = record { was_open = λ _. same.0.was_open; committed = λ _. same.0.committed_is }
  run_keeps text values old new r (Err e, inl (ran, inr undone), is) = record { was_open = undone.was_open; committed = λ h. (undone.undone h).1 }
  run_keeps text values old new r (Err e, inr (ends, named, same), is) = record { was_open = λ _. same.0.was_open; committed = λ _. same.0.committed_is }

  pub change_keeps : (change : Change) (old new : Held S) (r : Result (Unit {0}) Trouble) → Makes g change old new r → KeepsCommit (state g old) (state g new)
  change_keeps change old new r (inl h) = run_keeps _ _ old new r h.1
  change_keeps change old new r (inr h) = rw h.2 (keeps_same (state g old))

  pub each_keeps : (changes : List Change) (old new : Held S) (r : Result (Unit {0}) Trouble) → MakesEach g changes old new r → KeepsCommit (state g old) (state g new)
  each_keeps [] old new r h = rw h.1 (keeps_same (state g old))
  each_keeps (change ∷ changes) old new r (inl h) = change_keeps change old new _ h.2
  each_keeps (change ∷ changes) old new r (inr h) =
      keeps_then (state g old) (state g h.0) (state g new) (change_keeps change old h.0 _ h.1) (each_keeps changes h.0 new r h.2)

  -- a change that was made leaves the transaction open
  pub stays_inside : (change : Change) (old new : Held S) → Makes g change old new (Ok tt) → new.in_transaction ≡ true
  stays_inside change old new (inl (fits, (Ok count, ran, is))) = ran.1.mode
  stays_inside change old new (inl (fits, (Err e, ran, is))) = absurd cc
  stays_inside change old new (inr h) = absurd (let e = h.1 in cc)

  each_inside : (changes : List Change) (old last : Held S) → old.in_transaction ≡ true → MakesEach g changes old last (Ok tt) → last.in_transaction ≡ true
  each_inside [] old last inside h = rw h.1 inside
  each_inside (change ∷ changes) old last inside (inl h) = absurd (let e = h.1 in cc)
  each_inside (change ∷ changes) old last inside (inr h) = each_inside changes h.0 last (stays_inside change old h.0 h.1) h.2

  -- a transaction that is rolled back, whatever was made in it
  pub undone_after : (changes : List Change) (old last end : Held S) (r : Result (Unit {0}) Trouble) → MakesEach g changes (begun g old) last r
      → IsRolledBack (state g last) (state g end) → IsUndone (state g old) (state g end)
  undone_after changes old last end r made back =
      let kept = each_keeps changes (begun g old) last r made in
      record {
        ended = back.autocommit;
        was_open = λ h. kept.was_open (back.was_open h);
        committed = λ h. (back.undone h).1 ∙ kept.committed (back.was_open h);
        now = λ h. (back.undone h).0 ∙ kept.committed (back.was_open h);
      }

  -- one whose commit failed
  pub undone_by_commit : (changes : List Change) (old last end : Held S) (e : Error) → MakesEach g changes (begun g old) last (Ok tt)
      → FailsToCommit (state g last) (state g end) e → IsUndone (state g old) (state g end)
  undone_by_commit changes old last end e made (inl fails) = undone_after changes old last end _ made fails.3
  undone_by_commit changes old last end e made (inr late) = absurd (let inside = each_inside changes (begun g old) last refl made in let ended = late.1 in cc)

  -- one more change was made of those that are left
  pub more_made : (changes : List Change) (i : ℕ) (change : Change) (now mid : Held S) (M : Held S → Result (Unit {0}) Trouble → Type 0) → i < length changes
      → change ≡ get_or changes i change → Makes g change now mid (Ok tt)
      → ((new : Held S) (r : Result (Unit {0}) Trouble) → MakesEach g (drop i changes) now new r → M new r)
      → (new : Held S) (r : Result (Unit {0}) Trouble) → MakesEach g (drop (i + 1) changes) mid new r → M new r
  more_made changes i change now mid M within is one all new r h = all new r (subst (λ l. MakesEach g l now new r) (sym (left_at changes i change within is)) (inr (mid, one, h)))

  -- the next of them wasn't made
  pub next_stops : (changes : List Change) (i : ℕ) (change : Change) (now new : Held S) (r : Result (Unit {0}) Trouble) (why : Trouble)
      (M : Held S → Result (Unit {0}) Trouble → Type 0) → i < length changes → change ≡ get_or changes i change → IsErr r → IsErrAnd r (λ e. e ≡ why)
      → Makes g change now new (Err why) → ((new : Held S) (r : Result (Unit {0}) Trouble) → MakesEach g (drop i changes) now new r → M new r) → M new r
  next_stops changes i change now new (Ok t) why M within is fails same one all = absurd cc
  next_stops changes i change now new (Err e) why M within is fails same one all =
      subst (λ w. M new (Err w)) (sym same)
      (all new (Err why) (subst (λ l. MakesEach g l now new (Err why)) (sym (left_at changes i change within is)) (inl (why, refl, one))))

  changes_of : (P Q : Type 0) (b : Bool) → b ≡ false → Q → MatchBool b P Q
  changes_of P Q true outside q = absurd cc
  changes_of P Q false outside q = q

  module _ (changes : List Change) (old start last new : Held S) (outside : old.in_transaction ≡ false) (is : start ≡ begun g old) where
    from_start : (r : Result (Unit {0}) Trouble) → (IsTrue start.in_transaction → MakesEach g changes start last r) → MakesEach g changes (begun g old) last r
    from_start r made = subst (λ s. IsTrue s.in_transaction → MakesEach g changes s last r) is made refl

    pub changes_made : (IsTrue start.in_transaction → MakesEach g changes start last (Ok tt)) → Commits (state g last) (state g new) → Changes g changes old new (Ok tt)
    changes_made made committed = changes_of _ _ old.in_transaction outside (record { last = last; made = from_start (Ok tt) made; committed = committed })

    pub changes_stopped : (r : Result (Unit {0}) Trouble) (why : Trouble) → IsErr r → IsErrAnd r (λ e. e ≡ why)
        → (IsTrue start.in_transaction → MakesEach g changes start last (Err why)) → IsRolledBack (state g last) (state g new) → Changes g changes old new r
    changes_stopped (Ok t) why fails same made back = absurd cc
    changes_stopped (Err e) why fails same made back =
        let all = from_start (Err why) made in
        changes_of _ _ old.in_transaction outside (undone_after changes old last new (Err why) all back, subst (Stops g changes old new) (sym same) (inl (last, all)))

    pub changes_uncommitted : (r : Result (Unit {0}) Trouble) (e : Error) → IsErr r → IsErrAnd r (λ why. why ≡ trouble_of e)
        → (IsTrue start.in_transaction → MakesEach g changes start last (Ok tt)) → FailsToCommit (state g last) (state g new) e → Changes g changes old new r
    changes_uncommitted (Ok t) e fails same made unmade = absurd cc
    changes_uncommitted (Err why) e fails same made unmade =
        let all = from_start (Ok tt) made in
        changes_of _ _ old.in_transaction outside (undone_by_commit changes old last new e all unmade, inr (last, e, all, unmade, same))

    pub crash_after : Survives (state g start) (state g last) (λ _. ⊥) → (IsClean g last → IsTrue start.in_transaction → MakesEach g changes start last (Ok tt))
        → Survives (state g last) (state g new) (λ db. db ≡ (state g last).now.trees) → Survives (state g old) (state g new) (IsAfter g changes old)
    crash_after one made two =
        let from : Survives (state g (begun g old)) (state g last) (λ _. ⊥) = subst (λ s. Survives (state g s) (state g last) (λ _. ⊥)) is one in
        survives_then (state g old) (state g last) (state g new) _ _ (IsAfter g changes old) (λ _ db none. absurd none)
        (λ clean db same. (last, from_start (Ok tt) (made (omega (arith, two.clean))), same)) (survives_begin g old (state g last) _ from) two
