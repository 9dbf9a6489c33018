-- What goes on through one call of a keeper goes on through two.
use Rattle.std.proofs.Common.{◌≡◌, ◌∙◌, List, [], ◌∷◌, ◌++◌, Option, None, Some, inl, inr, refl, sym, ap, subst}
use Rattle.std.specs.Prelude.{Result, Ok, Err, MatchResult, OnErr, OnOk}
use Rattle.std.proofs.lemmas.List.{append_assoc, append-nil}
use mathlib.Core.List.{IsPrefix}
use Rattle.desk_io.proofs.HealthLaws.{stays, goes_on}
use Rattle.desk_io.specs.Rows.{Rows, rows_of}
use Rattle.desk_io.specs.Told.{TellsAsBefore}
use Rattle.desk_io.specs.declared.rows.Change.{Change}
use Rattle.desk_io.specs.declared.rows.Row.{Row}
use Rattle.keeper.proofs.AccountLaws.{after_done, after_load, after_none, after_refused, after_unknown}
use Rattle.keeper.specs.Account.{AddsCommit, FailedCommit, changed_in, rows_by}
use Rattle.keeper.specs.Kept.{Leads, Lists}
use Rattle.keeper.specs.Seen.{KeeperSeen, KeeperGoesOn, either_rows, kept_rows}
use Rattle.keeper.specs.declared.account.AccountEntry.{AccountEntry}
use Rattle.keeper.specs.declared.account.AccountEntry.TheVariants.{Load, Commit}
use Rattle.keeper.specs.declared.account.Outcome.TheVariants.{Done, Refused, Unknown}
use Rattle.keeper.specs.declared.keeping.KeepFault.{KeepFault}
use Rattle.keeper.specs.declared.keeping.KeepFault.TheVariants.{Failed, OutOfMemory}

tells_still : {A : Type 0} (told : Option A) → TellsAsBefore told told
tells_still None = tt
tells_still (Some content) = tt

tells_on : {A : Type 0} (old mid new : Option A) → TellsAsBefore old mid → TellsAsBefore mid new → TellsAsBefore old new
tells_on None None None one two = tt
tells_on (Some old) (Some mid) (Some new) one two = tt
tells_on None None (Some new) one two = absurd two
tells_on None (Some mid) new one two = absurd one
tells_on (Some old) None new one two = absurd one
tells_on (Some old) (Some mid) None one two = absurd two

pub keeper_stays : (keeper : KeeperSeen) → KeeperGoesOn keeper keeper
keeper_stays keeper = record { telling = tells_still keeper.rows; account = ([], append-nil keeper.account); health = stays keeper.health }

-- an account that gained one entry grew
pub grows_one : (old new : List AccountEntry) (entry : AccountEntry) → new ≡ old ++ entry ∷ [] → IsPrefix old new
grows_one old new entry is = (entry ∷ [], sym is)

pub adds_grows : {T : Type 0} (old new : List AccountEntry) (changes : List Change) (r : Result T KeepFault) → AddsCommit old new changes r → IsPrefix old new
adds_grows old new changes (Ok x) adds = grows_one old new (Commit changes Done) adds
adds_grows old new changes (Err Failed) (inl refused) = grows_one old new (Commit changes Refused) refused
adds_grows old new changes (Err Failed) (inr unknown) = grows_one old new (Commit changes Unknown) unknown
adds_grows old new changes (Err OutOfMemory) adds = grows_one old new (Commit changes Refused) adds

pub loads_grows : {T : Type 0} (old new : List AccountEntry) (list : T → List Row) (r : Result T KeepFault)
    → MatchResult r (λ rows. new ≡ old ++ Load (Some (list rows)) ∷ []) (λ _. new ≡ old ++ Load None ∷ []) → IsPrefix old new
loads_grows old new list (Ok rows) loaded = grows_one old new (Load (Some (list rows))) loaded
loads_grows old new list (Err e) failed = grows_one old new (Load None) failed

grows_on : (old mid new : List AccountEntry) → IsPrefix old mid → IsPrefix mid new → IsPrefix old new
grows_on old mid new one two = (one.0 ++ two.0, sym (append_assoc old one.0 two.0) ∙ (ap (λ es. es ++ two.0) one.1 ∙ two.1))

pub keeper_on : (old mid new : KeeperSeen) → KeeperGoesOn old mid → KeeperGoesOn mid new → KeeperGoesOn old new
keeper_on old mid new one two = record {
  telling = tells_on old.rows mid.rows new.rows one.telling two.telling;
  account = grows_on old.account mid.account new.account one.account two.account;
  health = goes_on old.health mid.health new.health one.health two.health;
}

-- ---- the rows that are kept

lists_either : (old new by : Option Rows) (loaded : List Row) → new ≡ old → Lists old loaded → by ≡ Some (rows_of loaded) → Lists (either_rows new by) loaded
lists_either None None by loaded same lists is = subst (λ rows. Lists rows loaded) (sym is) (λ kind key. refl)
lists_either (Some rows) (Some others) by loaded same lists is = subst (λ told. Lists told loaded) (sym same) lists
lists_either None (Some others) by loaded same lists is = absurd (cc)
lists_either (Some rows) None by loaded same lists is = absurd (cc)

-- a load returns the rows that are kept then
pub loaded_kept : (old new : KeeperSeen) (loaded : List Row) → new.rows ≡ old.rows → Lists old.rows loaded → new.account ≡ old.account ++ Load (Some loaded) ∷ [] → Lists (kept_rows new) loaded
unfolding kept_rows
loaded_kept old new loaded same lists grew =
    lists_either old.rows new.rows (rows_by new.account) loaded same lists (ap rows_by grew ∙ after_load None old.account loaded)

leads_in : (changes : List Change) (rows by : Option Rows) → by ≡ changed_in changes rows → Leads rows changes by
leads_in changes None None is = tt
leads_in changes None (Some by) is = absurd (cc)
leads_in changes (Some rows) None is = absurd (cc)
leads_in changes (Some rows) (Some by) is = subst (Leads (Some rows) changes) (sym is) (λ kind key. refl)

leads_either : (old new was by : Option Rows) (changes : List Change) → Leads old changes new → by ≡ changed_in changes was → Leads (either_rows old was) changes (either_rows new by)
leads_either None None was by changes leads is = leads_in changes was by is
leads_either (Some rows) (Some others) was by changes leads is = leads
leads_either None (Some others) was by changes leads is = absurd leads
leads_either (Some rows) None was by changes leads is = absurd leads

-- a commit that was done changes them
pub done_kept : (old new : KeeperSeen) (changes : List Change) → Leads old.rows changes new.rows → new.account ≡ old.account ++ Commit changes Done ∷ [] → Leads (kept_rows old) changes (kept_rows new)
unfolding kept_rows
done_kept old new changes leads grew =
    leads_either old.rows new.rows (rows_by old.account) (rows_by new.account) changes leads (ap rows_by grew ∙ after_done None old.account changes)

fails_by : (old new : List AccountEntry) (changes : List Change) (why : KeepFault) → FailedCommit old new changes why → rows_by new ≡ rows_by old
fails_by old new changes Failed (inl grew) = ap rows_by grew ∙ after_refused None old changes
fails_by old new changes Failed (inr grew) = ap rows_by grew ∙ after_unknown None old changes
fails_by old new changes OutOfMemory grew = ap rows_by grew ∙ after_refused None old changes

-- one that fails doesn't
pub failed_kept : (old new : KeeperSeen) (changes : List Change) (why : KeepFault) → new.rows ≡ old.rows → FailedCommit old.account new.account changes why → kept_rows new ≡ kept_rows old
unfolding kept_rows
failed_kept old new changes why same failed =
    ap (λ rows. either_rows rows (rows_by new.account)) same ∙ ap (either_rows old.rows) (fails_by old.account new.account changes why failed)

-- the same of a commit's answer
pub commit_leads : {T : Type 0} (old new : KeeperSeen) (changes : List Change) (r : Result T KeepFault) → OnOk r (Leads old.rows changes new.rows) → AddsCommit old.account new.account changes r
    → OnOk r (Leads (kept_rows old) changes (kept_rows new))
commit_leads old new changes (Ok x) leads adds = done_kept old new changes leads adds
commit_leads old new changes (Err e) leads adds = tt

pub commit_keeps : {T : Type 0} (old new : KeeperSeen) (changes : List Change) (r : Result T KeepFault) → OnErr r (new.rows ≡ old.rows) → AddsCommit old.account new.account changes r
    → OnErr r (kept_rows new ≡ kept_rows old)
commit_keeps old new changes (Ok x) same adds = tt
commit_keeps old new changes (Err e) same adds = failed_kept old new changes e same adds

-- a load that fails doesn't either
pub unloaded_kept : (old new : KeeperSeen) → new.rows ≡ old.rows → new.account ≡ old.account ++ Load None ∷ [] → kept_rows new ≡ kept_rows old
unfolding kept_rows
unloaded_kept old new same grew =
    ap (λ rows. either_rows rows (rows_by new.account)) same ∙ ap (either_rows old.rows) (ap rows_by grew ∙ after_none None old.account)
