-- One more entry of an account: which rows are kept, and how many commits there were.
use Rattle.std.proofs.Common.{◌≡◌, ℕ, ◌+◌, ◌++◌, ◌∙◌, inl, inr, List, [], ◌∷◌, Option, None, Some, refl, sym, ap, arith}
use Rattle.desk_io.specs.declared.rows.Row.{Row}
use Rattle.desk_io.specs.declared.rows.Change.{Change}
use Rattle.desk_io.specs.Planned.{after}
use Rattle.desk_io.specs.Rows.{Rows, rows_of, changed_by}
use Rattle.keeper.specs.declared.account.AccountEntry.{AccountEntry}
use Rattle.keeper.specs.declared.account.AccountEntry.TheVariants.{Load, Commit}
use Rattle.keeper.specs.declared.account.Outcome.{Outcome}
use Rattle.keeper.specs.declared.account.Outcome.TheVariants.{Done, Refused, Unknown}
use Rattle.keeper.specs.declared.keeping.KeepFault.TheVariants.{Failed}
use Rattle.keeper.specs.Account.{FailedCommit, changed_in, kept_by, commits_in, count_of, rows_after}
use Rattle.keeper.specs.Kept.{AreSame}
use Rattle.keeper.proofs.OrderLaws.{same_changes}

by_load : (entries : List AccountEntry) (loaded : Option (List Row)) (rows : Rows) → kept_by (entries ++ Load loaded ∷ []) rows ≡ kept_by entries rows
by_load [] loaded rows = refl
by_load (Load l ∷ entries) loaded rows = by_load entries loaded rows
by_load (Commit changes Done ∷ entries) loaded rows = by_load entries loaded (changed_by changes rows)
by_load (Commit changes Refused ∷ entries) loaded rows = by_load entries loaded rows
by_load (Commit changes Unknown ∷ entries) loaded rows = by_load entries loaded rows

by_refused : (entries : List AccountEntry) (more : List Change) (rows : Rows) → kept_by (entries ++ Commit more Refused ∷ []) rows ≡ kept_by entries rows
by_refused [] more rows = refl
by_refused (Load l ∷ entries) more rows = by_refused entries more rows
by_refused (Commit changes Done ∷ entries) more rows = by_refused entries more (changed_by changes rows)
by_refused (Commit changes Refused ∷ entries) more rows = by_refused entries more rows
by_refused (Commit changes Unknown ∷ entries) more rows = by_refused entries more rows

by_done : (entries : List AccountEntry) (more : List Change) (rows : Rows) → kept_by (entries ++ Commit more Done ∷ []) rows ≡ changed_by more (kept_by entries rows)
by_done [] more rows = refl
by_done (Load l ∷ entries) more rows = by_done entries more rows
by_done (Commit changes Done ∷ entries) more rows = by_done entries more (changed_by changes rows)
by_done (Commit changes Refused ∷ entries) more rows = by_done entries more rows
by_done (Commit changes Unknown ∷ entries) more rows = by_done entries more rows

-- an empty account: the first rows are kept, and no commit was requested
pub kept_none : (entries : List AccountEntry) (rows began : List Row) → entries ≡ [] → began ≡ rows → AreSame (rows_of rows) (kept_by entries (rows_of began))
kept_none entries rows began none is a b = sym (ap (λ es. kept_by es (rows_of began) a b) none ∙ ap (λ xs. rows_of xs a b) is)

pub count_none : (entries : List AccountEntry) → entries ≡ [] → 0 ≡ count_of entries
count_none entries none = sym (ap count_of none)

-- the rows agree with the account after a load, a commit that was refused, and one that was done
pub kept_load : (old new : List AccountEntry) (loaded : Option (List Row)) (rows began : List Row) → new ≡ old ++ Load loaded ∷ []
    → AreSame (rows_of rows) (kept_by old (rows_of began)) → AreSame (rows_of rows) (kept_by new (rows_of began))
kept_load old new loaded rows began grew same a b = same a b ∙ sym (ap (λ k. k a b) (ap (λ es. kept_by es (rows_of began)) grew ∙ by_load old loaded (rows_of began)))

pub kept_refused : (old new : List AccountEntry) (changes : List Change) (rows fresh began : List Row) → new ≡ old ++ Commit changes Refused ∷ [] → fresh ≡ rows
    → AreSame (rows_of rows) (kept_by old (rows_of began)) → AreSame (rows_of fresh) (kept_by new (rows_of began))
kept_refused old new changes rows fresh began grew is same a b =
    ap (λ xs. rows_of xs a b) is ∙ same a b ∙ sym (ap (λ k. k a b) (ap (λ es. kept_by es (rows_of began)) grew ∙ by_refused old changes (rows_of began)))

pub kept_done : (old new : List AccountEntry) (changes : List Change) (rows fresh began : List Row) → new ≡ old ++ Commit changes Done ∷ []
    → AreSame (rows_of fresh) (changed_by changes (rows_of rows)) → AreSame (rows_of rows) (kept_by old (rows_of began)) → AreSame (rows_of fresh) (kept_by new (rows_of began))
kept_done old new changes rows fresh began grew made same a b =
    made a b ∙ same_changes changes (rows_of rows) (kept_by old (rows_of began)) same a b
    ∙ sym (ap (λ k. k a b) (ap (λ es. kept_by es (rows_of began)) grew ∙ by_done old changes (rows_of began)))

none_more : (entries : List AccountEntry) (loaded : Option (List Row)) → commits_in (entries ++ Load loaded ∷ []) ≡ commits_in entries
none_more [] loaded = refl
none_more (Load l ∷ entries) loaded = none_more entries loaded
none_more (Commit changes outcome ∷ entries) loaded = ap (λ n. n + 1) (none_more entries loaded)

one_more : (entries : List AccountEntry) (more : List Change) (result : Outcome) → commits_in (entries ++ Commit more result ∷ []) ≡ commits_in entries + 1
one_more [] more result = refl
one_more (Load l ∷ entries) more result = one_more entries more result
one_more (Commit changes outcome ∷ entries) more result = ap (λ n. n + 1) (one_more entries more result)

-- the count after a load and after a commit
pub count_load : (old new : List AccountEntry) (loaded : Option (List Row)) (was is : ℕ) → new ≡ old ++ Load loaded ∷ [] → is ≡ was → was ≡ count_of old → is ≡ count_of new
count_load old new loaded was is grew same counted =
    let more : commits_in new ≡ commits_in old = ap commits_in grew ∙ none_more old loaded in
    omega (arith, more, same, counted)

pub count_commit : (old new : List AccountEntry) (changes : List Change) (outcome : Outcome) (was is : ℕ) → new ≡ old ++ Commit changes outcome ∷ [] → is ≡ after was
    → was ≡ count_of old → is ≡ count_of new
count_commit old new changes outcome was is grew rose counted =
    let more : commits_in new ≡ commits_in old + 1 = ap commits_in grew ∙ one_more old changes outcome in
    omega (arith, more, rose, counted)

-- a failed commit was refused, or its outcome is unknown
pub fails_refused : (old new : List AccountEntry) (changes : List Change) → new ≡ old ++ Commit changes Refused ∷ [] → FailedCommit old new changes Failed
fails_refused old new changes grew = inl grew

pub fails_unknown : (old new : List AccountEntry) (changes : List Change) → new ≡ old ++ Commit changes Unknown ∷ [] → FailedCommit old new changes Failed
fails_unknown old new changes grew = inr grew

-- ---- the rows that an account leaves, after one more entry

pub after_load : (rows : Option Rows) (entries : List AccountEntry) (loaded : List Row) → rows_after rows (entries ++ Load (Some loaded) ∷ []) ≡ Some (rows_of loaded)
after_load rows [] loaded = refl
after_load rows (Load None ∷ entries) loaded = after_load rows entries loaded
after_load rows (Load (Some l) ∷ entries) loaded = after_load (Some (rows_of l)) entries loaded
after_load rows (Commit changes Done ∷ entries) loaded = after_load (changed_in changes rows) entries loaded
after_load rows (Commit changes Refused ∷ entries) loaded = after_load rows entries loaded
after_load rows (Commit changes Unknown ∷ entries) loaded = after_load rows entries loaded

pub after_none : (rows : Option Rows) (entries : List AccountEntry) → rows_after rows (entries ++ Load None ∷ []) ≡ rows_after rows entries
after_none rows [] = refl
after_none rows (Load None ∷ entries) = after_none rows entries
after_none rows (Load (Some l) ∷ entries) = after_none (Some (rows_of l)) entries
after_none rows (Commit changes Done ∷ entries) = after_none (changed_in changes rows) entries
after_none rows (Commit changes Refused ∷ entries) = after_none rows entries
after_none rows (Commit changes Unknown ∷ entries) = after_none rows entries

pub after_done : (rows : Option Rows) (entries : List AccountEntry) (more : List Change) → rows_after rows (entries ++ Commit more Done ∷ []) ≡ changed_in more (rows_after rows entries)
after_done rows [] more = refl
after_done rows (Load None ∷ entries) more = after_done rows entries more
after_done rows (Load (Some l) ∷ entries) more = after_done (Some (rows_of l)) entries more
after_done rows (Commit changes Done ∷ entries) more = after_done (changed_in changes rows) entries more
after_done rows (Commit changes Refused ∷ entries) more = after_done rows entries more
after_done rows (Commit changes Unknown ∷ entries) more = after_done rows entries more

pub after_refused : (rows : Option Rows) (entries : List AccountEntry) (more : List Change) → rows_after rows (entries ++ Commit more Refused ∷ []) ≡ rows_after rows entries
after_refused rows [] more = refl
after_refused rows (Load None ∷ entries) more = after_refused rows entries more
after_refused rows (Load (Some l) ∷ entries) more = after_refused (Some (rows_of l)) entries more
after_refused rows (Commit changes Done ∷ entries) more = after_refused (changed_in changes rows) entries more
after_refused rows (Commit changes Refused ∷ entries) more = after_refused rows entries more
after_refused rows (Commit changes Unknown ∷ entries) more = after_refused rows entries more

pub after_unknown : (rows : Option Rows) (entries : List AccountEntry) (more : List Change) → rows_after rows (entries ++ Commit more Unknown ∷ []) ≡ rows_after rows entries
after_unknown rows [] more = refl
after_unknown rows (Load None ∷ entries) more = after_unknown rows entries more
after_unknown rows (Load (Some l) ∷ entries) more = after_unknown (Some (rows_of l)) entries more
after_unknown rows (Commit changes Done ∷ entries) more = after_unknown (changed_in changes rows) entries more
after_unknown rows (Commit changes Refused ∷ entries) more = after_unknown rows entries more
after_unknown rows (Commit changes Unknown ∷ entries) more = after_unknown rows entries more
