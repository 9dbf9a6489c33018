-- What a load and a commit come to over a connection that is held or none.
use Rattle.std.proofs.Common.{◌≡◌, ◌∙◌, List, [], ◌∷◌, ◌++◌, Option, None, Some, Result, Ok, Err, inl, inr, ap, sym, subst}
use Rattle.desk_io.specs.declared.rows.Row.{Row}
use Rattle.desk_io.specs.declared.rows.Change.{Change}
use Rattle.keeper.specs.declared.account.AccountEntry.{AccountEntry}
use Rattle.keeper.specs.declared.account.AccountEntry.TheVariants.{Commit}
use Rattle.keeper.specs.declared.account.Outcome.{Outcome}
use Rattle.keeper.specs.declared.account.Outcome.TheVariants as outcome
use Rattle.keeper.specs.declared.keeping.KeepFault.{KeepFault}
use Rattle.keeper.specs.declared.keeping.KeepFault.TheVariants as keep
use Rattle.keeper.specs.Account.{AddsCommit}
use Rattle.sqlite.specs.Store.{Ghosts}
use Rattle.sqlite.specs.State.{Survives}
use Rattle.sqlite.specs.Held.{Held, state}
use Rattle.sqlite_keeper.specs.declared.trouble.Trouble.{Trouble}
use Rattle.sqlite_keeper.specs.declared.trouble.Trouble.TheVariants.{OutOfMemory, Refused, Lost}
use Rattle.sqlite_keeper.specs.Troubles.{told}
use Rattle.sqlite_keeper.specs.Transactions.{IsClean, Changes, IsAfter, ShowsAll}
use Rattle.sqlite_keeper.specs.Keeping.{AccountsOver, CommitsOver, IsReady, LoadsOver, held_on, outcome_of}

-- a commit's entry fits its result
fits_result : (given : Result (Unit {0}) Trouble) (old new : List AccountEntry) (changes : List Change) → new ≡ old ++ Commit changes (outcome_of given) ∷ [] → AddsCommit old new changes (told given)
fits_result (Ok x) old new changes grew = grew
fits_result (Err OutOfMemory) old new changes grew = grew
fits_result (Err Refused) old new changes grew = inl grew
fits_result (Err Lost) old new changes grew = inr grew

pub adds_commit : (made given : Result (Unit {0}) Trouble) (old new : List AccountEntry) (changes : List Change) (entered : Outcome) (r : Result (Unit {0}) KeepFault) → new ≡ old ++ Commit changes entered ∷ []
    → entered ≡ outcome_of made → made ≡ given → r ≡ told given → AddsCommit old new changes r
adds_commit made given old new changes entered r grew is made_is said =
    subst (AddsCommit old new changes) (sym said)
    (fits_result given old new changes (grew ∙ ap (λ o. old ++ Commit changes o ∷ []) (is ∙ ap outcome_of made_is)))

-- a commit that was refused
pub adds_refused : (old new : List AccountEntry) (changes : List Change) (fault : KeepFault) → new ≡ old ++ Commit changes outcome.Refused ∷ [] → fault ≡ keep.Failed
    → AddsCommit {T = Unit {0}} old new changes (Err fault)
adds_refused old new changes fault grew is = subst (λ f. AddsCommit {T = Unit {0}} old new changes (Err f)) (sym is) (inl grew)

module _ {S : Type 0} (g : Ghosts S) where
  pub commits_over : (changes : List Change) (was new : Option (Held S)) (old left : Held S) (answer given : Result (Unit {0}) Trouble) (r : Result (Unit {0}) KeepFault)
      → was ≡ Some old → answer ≡ given → (IsClean g left → Changes g changes old left answer) → Survives (state g old) (state g left) (IsAfter g changes old)
      → new ≡ held_on g left given → r ≡ told given → CommitsOver g changes was new r
  commits_over changes was new old left answer given r was_is is made crash held said =
      subst (λ w. CommitsOver g changes w new r) (sym was_is)
      (record { left = left; answer = given; made = λ clean. subst (Changes g changes old left) is (made clean); crash = crash; held = held; said = said })

  pub accounts_over : (changes : List Change) (was new : Option (Held S)) (old left : Held S) (answer given : Result (Unit {0}) Trouble) (account more : List AccountEntry) (entered : Outcome)
      → was ≡ Some old → answer ≡ given → (IsClean g left → Changes g changes old left answer) → new ≡ held_on g left given
      → more ≡ account ++ Commit changes entered ∷ [] → entered ≡ outcome_of answer → AccountsOver g changes was new account more
  accounts_over changes was new old left answer given account more entered was_is is made held grew fits =
      subst (λ w. AccountsOver g changes w new account more) (sym was_is)
      (record { left = left; answer = given; made = λ clean. subst (Changes g changes old left) is (made clean); held = held; grew = grew ∙ ap (λ o. account ++ Commit changes o ∷ []) (fits ∙ ap outcome_of is) })

  pub loads_held : (was : Option (Held S)) (old new : Held S) (rows : List Row) → was ≡ Some old → ShowsAll g old new rows → LoadsOver g was new rows
  loads_held was old new rows is shown = subst (λ w. LoadsOver g w new rows) (sym is) shown

  pub loads_opened : (was : Option (Held S)) (ready new : Held S) (rows : List Row) → was ≡ None → IsReady g ready → ShowsAll g ready new rows → LoadsOver g was new rows
  loads_opened was ready new rows is made shown = subst (λ w. LoadsOver g w new rows) (sym is) (ready, made, shown)
