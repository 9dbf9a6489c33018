-- The commits that a keeper was asked for, and what it has come to.
use Rattle.std.proofs.Common.{◌≡◌, ℕ, Bool, true, false, List, [], ◌∷◌, ◌++◌, append-nil, append_assoc, Option, None, Some, inl, inr, refl, ap, sym, ◌∙◌, subst, arith}
use Rattle.asks.specs.declared.call.Call.{Call}
use Rattle.asks.specs.declared.reply.Reply.{Reply}
use Rattle.desk_io.specs.Planned.{after}
use Rattle.desk_io.specs.declared.rows.Change.{Change}
use Rattle.desk_state.specs.State.{State}
use Rattle.desk_state.specs.Step.{tick_to}
use Rattle.keeper.specs.Account.{FailedCommit}
use Rattle.keeper.specs.Seen.{KeeperGoesOn, KeeperSeen}
use Rattle.keeper.specs.declared.account.AccountEntry.{AccountEntry}
use Rattle.keeper.specs.declared.account.AccountEntry.TheVariants.{Load, Commit}
use Rattle.keeper.specs.declared.account.Outcome.TheVariants.{Done, Refused, Unknown}
use Rattle.keeper.specs.declared.keeping.KeepFault.TheVariants.{Failed}
use Rattle.desk.specs.Keeping.{Asks, Choice, KeptAt, KeptLater, adds, asked_if, asked_late, asked_once, commits_after, is_stored, kept_at, ticked_with}
use Rattle.desk.specs.Saved.{stored_in}
use Rattle.desk.proofs.Choices.{choice_as}

-- ---- an account

pub stored_on : (one two : List AccountEntry) → stored_in (one ++ two) ≡ stored_in one ++ stored_in two
stored_on [] two = refl
stored_on (Load rows ∷ one) two = stored_on one two
stored_on (Commit changes Done ∷ one) two = ap (λ bs. true ∷ bs) (stored_on one two)
stored_on (Commit changes Refused ∷ one) two = ap (λ bs. false ∷ bs) (stored_on one two)
stored_on (Commit changes Unknown ∷ one) two = ap (λ bs. false ∷ bs) (stored_on one two)

commits_on : (one two : List Bool) (n : ℕ) → commits_after (one ++ two) n ≡ commits_after two (commits_after one n)
commits_on [] two n = refl
commits_on (stored ∷ one) two n = commits_on one two (after n)

-- ---- one step

-- nothing was asked for
pub asks_none : (keeper : KeeperSeen) → Asks keeper keeper []
asks_none keeper = record { commits = refl; stored = sym (append-nil (stored_in keeper.account)) }

pub asks_nothing : (keeper : KeeperSeen) (adding : Bool) (fault : Option ℕ) → adding ≡ false → Asks keeper keeper (asked_if adding fault)
asks_nothing keeper adding fault none = subst (λ (b : Bool). Asks keeper keeper (asked_if b fault)) (sym none) (asks_none keeper)

asks_one : (old new : KeeperSeen) (adding stored : Bool) (fault : Option ℕ) → adding ≡ true → is_stored fault ≡ stored → new.commits ≡ after old.commits → stored_in new.account ≡ stored_in old.account ++ stored ∷ []
    → Asks old new (asked_if adding fault)
asks_one old new adding stored fault some is count account =
    subst (λ (b : Bool). Asks old new (asked_if b fault)) (sym some) (subst (λ (b : Bool). Asks old new (b ∷ [])) (sym is) (record { commits = count; stored = account }))

-- a commit was done
pub asks_done : (old new : KeeperSeen) (changes : List Change) (adding : Bool) (fault : Option ℕ) → adding ≡ true → fault ≡ None → new.commits ≡ after old.commits
    → new.account ≡ old.account ++ Commit changes Done ∷ [] → Asks old new (asked_if adding fault)
asks_done old new changes adding fault some none count done =
    asks_one old new adding true fault some (ap is_stored none) count (ap stored_in done ∙ stored_on old.account (Commit changes Done ∷ []))

-- a commit failed
pub asks_failed : (old new : KeeperSeen) (changes : List Change) (adding : Bool) (fault : Option ℕ) (faults : ℕ) → adding ≡ true → fault ≡ Some faults → new.commits ≡ after old.commits
    → FailedCommit old.account new.account changes Failed → Asks old new (asked_if adding fault)
asks_failed old new changes adding fault faults some is count (inl refused) =
    asks_one old new adding false fault some (ap is_stored is) count (ap stored_in refused ∙ stored_on old.account (Commit changes Refused ∷ []))
asks_failed old new changes adding fault faults some is count (inr unknown) =
    asks_one old new adding false fault some (ap is_stored is) count (ap stored_in unknown ∙ stored_on old.account (Commit changes Unknown ∷ []))

-- ---- a call

-- one after another
pub asks_on : (old mid new : KeeperSeen) (one two : List Bool) → Asks old mid one → Asks mid new two → Asks old new (one ++ two)
asks_on old mid new one two first second = record {
  commits = second.commits ∙ ap (commits_after two) first.commits ∙ sym (commits_on one two old.commits);
  stored = second.stored ∙ ap (λ bs. bs ++ two) first.stored ∙ append_assoc (stored_in old.account) one two;
}

-- a call without a tick
pub asks_now : (old new : KeeperSeen) (adding : Bool) (fault call : Option ℕ) → call ≡ fault → Asks old new (asked_if adding fault) → Asks old new (asked_if adding call)
asks_now old new adding fault call is asks = subst (λ (o : Option ℕ). Asks old new (asked_if adding o)) (sym is) asks

-- a call after its tick
pub asks_late : (old mid new : KeeperSeen) (c : Choice) (tick call : Option ℕ) (lane : ℕ) (s t : State) (at : ℕ) (ask : Call) (reply : Option Reply) → c.tick ≡ tick → c.call ≡ call
    → reply ≡ (ticked_with tick lane s at).reply → t ≡ (ticked_with tick lane s at).state → Asks old mid (asked_if (adds s (tick_to s lane at)) tick) → Asks mid new (asked_once reply call lane t ask)
    → Asks old new (asked_late c lane s at ask)
asks_late old mid new c tick call lane s t at ask reply first second replied state ticked called =
    let before = subst (λ (o : Option Reply). Asks mid new (asked_once o call lane t ask)) replied called in
    let after_it = subst (λ (u : State). Asks mid new (asked_once (ticked_with tick lane s at).reply call lane u ask)) state before in
    subst (λ (x : Choice). Asks old new (asked_late x lane s at ask)) (sym (choice_as c tick call first second))
    (asks_on old mid new (asked_if (adds s (tick_to s lane at)) tick) (asked_once (ticked_with tick lane s at).reply call lane (ticked_with tick lane s at).state ask) ticked after_it)

-- ---- what a keeper has come to

pub later_refl : (kept : KeptAt) → KeptLater kept kept
later_refl kept = record { asked = []; stored = sym (append-nil kept.stored); faults = omega arith }

pub later_on : (one two three : KeptAt) → KeptLater one two → KeptLater two three → KeptLater one three
later_on one two three first second = record {
  asked = first.asked ++ second.asked;
  stored = second.stored ∙ ap (λ bs. bs ++ second.asked) first.stored ∙ append_assoc one.stored first.asked second.asked;
  faults = let less = first.faults in let more = second.faults in omega (arith, less, more);
}

pub keeper_later : (old new : KeeperSeen) → KeeperGoesOn old new → KeptLater (kept_at old) (kept_at new)
keeper_later old new on = record {
  asked = stored_in on.account.0;
  stored = ap stored_in (sym on.account.1) ∙ stored_on old.account on.account.0;
  faults = on.health.later;
}
