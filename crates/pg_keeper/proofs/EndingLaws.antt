-- How the endings of a commit follow from what was sent and what came.
use Rattle.std.proofs.Common.{◌≡◌, ℕ, List, ◌++◌, ◌∙◌, Bool, false, Option, None, Some, length, inl, inr, refl, sym, ap, subst, Result, OnOk, ◌∷◌, []}
use Rattle.std.specs.Option.{is_some}
use Rattle.std.proofs.Math.Seq.{take-length}
use Rattle.desk_net.specs.declared.crossed.Crossed.{Crossed}
use Rattle.pg_wire.specs.declared.session.Answer.{Answer}
use Rattle.pg_wire.specs.Answers.{HasAnswered, told_of}
use Rattle.pg_wire.specs.Crossing.{came, took, TakesFront}
use Rattle.desk_io.specs.declared.rows.Change.{Change}
use Rattle.keeper.specs.Account.{AddsCommit}
use Rattle.keeper.specs.declared.account.AccountEntry.{AccountEntry}
use Rattle.keeper.specs.declared.account.AccountEntry.TheVariants.{Commit}
use Rattle.keeper.specs.declared.keeping.KeepFault.{KeepFault}
use Rattle.pg_keeper.specs.Batch.{batch}
use Rattle.pg_keeper.specs.declared.ending.Cause.{Cause}
use Rattle.pg_keeper.specs.Endings.{Attempts, Commits, HasMade, HasRefused, Ends, OnBoth, RecordsCommit, Settles, StaysQuiet, is_lost, outcome_of, said}
use Rattle.pg_keeper.specs.declared.ending.Ending.{Ending}
use Rattle.pg_keeper.specs.declared.ending.Ending.TheVariants.{Done, OutOfMemory, Refused, Lost}

pub has_made : (before after : List ℕ) (count : ℕ) (a : Answer) → HasAnswered before after (told_of a) → a.refused ≡ None → a.completed ≡ count → HasMade before after count
has_made before after count a answered none counted =
    record { told = told_of a; answered = answered; completed = counted; calm = ap is_some none }

pub has_refused : (before after : List ℕ) (a : Answer) (state : List ℕ) → HasAnswered before after (told_of a) → a.refused ≡ Some state → HasRefused before after
has_refused before after a state answered some = record { told = told_of a; answered = answered; failed = ap is_some some }

-- a request that was sent whole was sent
whole : (old new : List Crossed) (request : List ℕ) → took new ≡ took old ++ request → TakesFront old new request
unfolding TakesFront
whole old new request sent = (length request, sent ∙ ap (λ l. took old ++ l) (sym (take-length request)))

pub ends_settled : (old mid new : List Crossed) (request : List ℕ) (count : ℕ) (ending : Ending) → took mid ≡ took old ++ request → came mid ≡ came old
    → Settles count (came mid) (came new) ending → took new ≡ took mid → Ends request count old new ending
ends_settled old mid new request count Done sent same made still =
    (still ∙ sent, subst (λ l. HasMade l (came new) count) same made)
ends_settled old mid new request count OutOfMemory sent same made still = absurd made
ends_settled old mid new request count (Refused cause) sent same made still =
    inr (still ∙ sent, subst (λ l. HasRefused l (came new)) same made)
ends_settled old mid new request count Lost sent same made still = whole old new request (still ∙ sent)

over_some : (changes : List Change) (broken breaks : Bool) (old new : List Crossed) (ending : Ending) → broken ≡ false → breaks ≡ is_lost ending
    → Ends (batch changes) (length changes) old new ending → Attempts changes broken breaks (Some old) (Some new) ending
over_some changes broken breaks old new Done whole is ends = (whole, is, ends)
over_some changes broken breaks old new OutOfMemory whole is ends = (whole, is, ends)
over_some changes broken breaks old new (Refused cause) whole is ends = (is ∙ sym whole, ends)
over_some changes broken breaks old new Lost whole is ends = (whole, is, ends)

pub attempts_over : (changes : List Change) (broken breaks : Bool) (link : Option (List Crossed)) (old new : List Crossed) (request : List ℕ) (ending : Ending)
    → link ≡ Some old → request ≡ batch changes → broken ≡ false → breaks ≡ is_lost ending → Ends request (length changes) old new ending
    → Attempts changes broken breaks link (Some new) ending
attempts_over changes broken breaks link old new request ending some asks whole is ends =
    subst (λ l. Attempts changes broken breaks l (Some new) ending) (sym some)
    (over_some changes broken breaks old new ending whole is (subst (λ r. Ends r (length changes) old new ending) asks ends))

quiet : (link : Option (List Crossed)) → StaysQuiet link link
quiet None = tt
quiet (Some l) = (refl, refl)

-- nothing is sent
pub attempts_refused : (changes : List Change) (broken breaks : Bool) (old new : Option (List Crossed)) (cause : Cause) → breaks ≡ broken → new ≡ old
    → Attempts changes broken breaks old new (Refused cause)
attempts_refused changes broken breaks old new cause same is = (same, inl (subst (StaysQuiet old) (sym is) (quiet old)))

pub attempts_memory : (changes : List Change) (broken breaks : Bool) (old new : Option (List Crossed)) → broken ≡ false → breaks ≡ broken → new ≡ old
    → Attempts changes broken breaks old new OutOfMemory
attempts_memory changes broken breaks old new whole same is = (whole, same ∙ whole, subst (StaysQuiet old) (sym is) (quiet old))

-- an entry fits the result
fits : (ending : Ending) (old new : List AccountEntry) (changes : List Change) → new ≡ old ++ Commit changes (outcome_of ending) ∷ [] → AddsCommit old new changes (said ending)
fits Done old new changes grew = grew
fits OutOfMemory old new changes grew = grew
fits (Refused cause) old new changes grew = inl grew
fits Lost old new changes grew = inr grew

pub adds_commit : (ending : Ending) (old new : List AccountEntry) (changes : List Change) (r : Result (Unit {0}) KeepFault)
    → new ≡ old ++ Commit changes (outcome_of ending) ∷ [] → r ≡ said ending → AddsCommit old new changes r
adds_commit ending old new changes r grew is = subst (AddsCommit old new changes) (sym is) (fits ending old new changes grew)

pub records_commit : (changes : List Change) (broken breaks : Bool) (old new : Option (List Crossed)) (was is : List AccountEntry) (ending : Ending)
    → Attempts changes broken breaks old new ending → is ≡ was ++ Commit changes (outcome_of ending) ∷ [] → RecordsCommit changes broken breaks old new was is
records_commit changes broken breaks old new was is ending attempted grew = record { ending = ending; attempted = attempted; entered = grew }

done_is_kept : (ending : Ending) (changes : List Change) (broken breaks : Bool) (old new : Option (List Crossed)) → Attempts changes broken breaks old new ending
    → OnOk (said ending) (OnBoth old new (Commits (batch changes) (length changes)))
done_is_kept Done changes broken breaks old new attempted = attempted.2
done_is_kept OutOfMemory changes broken breaks old new attempted = tt
done_is_kept (Refused cause) changes broken breaks old new attempted = tt
done_is_kept Lost changes broken breaks old new attempted = tt

pub kept_done : (ending : Ending) (changes : List Change) (broken breaks : Bool) (old new : Option (List Crossed)) (r : Result (Unit {0}) KeepFault)
    → Attempts changes broken breaks old new ending → r ≡ said ending → OnOk r (OnBoth old new (Commits (batch changes) (length changes)))
kept_done ending changes broken breaks old new r attempted is =
    subst (λ r. OnOk r (OnBoth old new (Commits (batch changes) (length changes)))) (sym is) (done_is_kept ending changes broken breaks old new attempted)
