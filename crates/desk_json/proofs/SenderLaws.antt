-- The first keys of a relief line or a planned line, and objects that have a name: what is read of them, and what is named.
use Rattle.std.proofs.Common.{◌≡◌, inl, inr, ℕ, Bool, false, List, Option, None, Some, IfOk, Result, Ok, Err, nat_cmp, codes, refl, sym, ap, ◌∙◌, subst, true≢false}
use Rattle.std.specs.Prelude.{is_some}
use Rattle.std.specs.Ordering.{is_gt}
use Rattle.std.specs.Cmp.Lexicographic.{slice_cmp}
use Rattle.serde_json.specs.Data.{Data}
use Rattle.serde_json.specs.Find.{get}
use Rattle.desk_time.specs.Limits.{IsMoment}
use Rattle.asks.specs.Fields.{text_at, short_at, moment_at}
use Rattle.asks.specs.Forms.{IsShort}
use Rattle.asks.specs.Plain.{HasText}
use Rattle.asks.specs.declared.bad_call.BadCall.{BadCall}
use Rattle.desk_json.specs.declared.bad_call.CallFault.{CallFault}
use Rattle.desk_json.specs.declared.bad_call.CallFault.TheVariants as fault
use Rattle.desk_json.specs.declared.keys.Object.{Object}
use Rattle.desk_json.specs.declared.senders.Sender.{Sender}
use Rattle.desk_json.specs.Keys.{and_then, found, is_key, only_keys}
use Rattle.desk_json.specs.Faults.{named_by, named, sent_by, sender_of, IsUnreadOfSender, IsUnreadNamed}
use Rattle.desk_json.specs.Calls.{HasOnly, HasSender}
use Rattle.desk_json.proofs.Results.{told, chain, after, formed_after, passed, passed_after}
use Rattle.desk_json.proofs.Members.{only_found, only_passed}
use Rattle.desk_json.proofs.Formed.{short_then, moment_then}
use Rattle.desk_json.proofs.Unread.{here, past, before}

-- ---- senders

-- a chain within a chain, as one
flat_by : {A : Type 0} (d : Data) (a : Option (List ℕ)) (m : Option ℕ) (k : Option (List ℕ)) (f : Sender → Result A BadCall)
    → and_then (and_then (found (codes "actor") d a) (λ actor. and_then (found (codes "at") d m) (λ at. and_then (found (codes "key") d k) (λ key. Ok (sent_by at actor key))))) f
    ≡ and_then (found (codes "actor") d a) (λ actor. and_then (found (codes "at") d m) (λ at. and_then (found (codes "key") d k) (λ key. f (sent_by at actor key))))
flat_by d None m k f = refl
flat_by d (Some actor) None k f = refl
flat_by d (Some actor) (Some at) None f = refl
flat_by d (Some actor) (Some at) (Some key) f = refl

abbrev pub sender_with : {A : Type 0} → Data → (Sender → Result A BadCall) → Result A BadCall
sender_with d f =
    and_then (found (codes "actor") d (short_at (codes "actor") d)) (λ actor.
    and_then (found (codes "at") d (moment_at (codes "at") d)) (λ at.
    and_then (found (codes "key") d (short_at (codes "key") d)) (λ key. f (sent_by at actor key))))

sender_flat : {A : Type 0} (d : Data) (f : Sender → Result A BadCall) → and_then (sender_of d) f ≡ sender_with d f
sender_flat d f = flat_by d (short_at (codes "actor") d) (moment_at (codes "at") d) (short_at (codes "key") d) f

-- what holds of each fault and of what follows holds
pub sender_given : {A : Type 0} (N : Result A CallFault → Type 0) (d : Data) (f : Sender → Result A BadCall) → ((b : BadCall) → N (Err (fault.Bad b)))
    → ((s : Sender) → HasSender d s → N (told (f s))) → N (told (and_then (sender_of d) f))
sender_given N d f none some =
    subst (λ r. N (told r)) (sym (sender_flat d f))
    (chain N (codes "actor") d (short_at (codes "actor") d) _ (λ e. none _) (λ actor is_actor.
    chain N (codes "at") d (moment_at (codes "at") d) _ (λ e. none _) (λ at is_at.
    chain N (codes "key") d (short_at (codes "key") d) _ (λ e. none _) (λ key is_key.
    some (sent_by at actor key) (record { actor = is_actor; moment = is_at; key = is_key })))))

pub sender_passed : {A : Type 0} (d : Data) (s : Sender) (f : Sender → Result A BadCall) (y : Result A BadCall) → HasSender d s → f s ≡ y → and_then (sender_of d) f ≡ y
sender_passed d s f y is next =
    sender_flat d f
    ∙ passed (codes "actor") d (short_at (codes "actor") d) _ s.actor y is.actor
    (passed (codes "at") d (moment_at (codes "at") d) _ s.at y is.moment
    (passed (codes "key") d (short_at (codes "key") d) _ s.key y is.key next))

pub record SenderHasForms (s : Sender) : Type 0 where
  pub at : IsMoment s.at
  pub actor : IsShort s.actor
  pub key : IsShort s.key

pub sender_formed : {A : Type 0} (d : Data) (f : Sender → Result A BadCall) (Q : A → Type 0) → HasText d → ((s : Sender) → SenderHasForms s → IfOk (told (f s)) Q) → IfOk (told (and_then (sender_of d) f)) Q
sender_formed d f Q has next =
    formed_after (sender_of d) f SenderHasForms Q
    (short_then (codes "actor") d _ SenderHasForms has (λ actor is_actor.
    moment_then (codes "at") d _ SenderHasForms (λ at is_at.
    short_then (codes "key") d _ SenderHasForms has (λ key is_key. record { at = is_at; actor = is_actor; key = is_key })))) next

-- ---- which of its keys is named

-- the key is one of the sender's
pub sender_here : {A : Type 0} (expected : List ℕ → Bool) (unread : Data → List ℕ → Type 0) (d : Data) (k : List ℕ) (f : Sender → Result A BadCall)
    → ((q : List ℕ) → IsUnreadOfSender d q → unread d q) → IsUnreadOfSender d k → IsUnreadNamed expected unread d k (told (and_then (sender_of d) f))
sender_here expected unread d k f at is = subst (λ r. IsUnreadNamed expected unread d k (told r)) (sym (sender_flat d f)) (by is)
  where
    by : IsUnreadOfSender d k → IsUnreadNamed expected unread d k (told (sender_with d f))
    by (inl (same, none)) = here expected unread (codes "actor") k d (short_at (codes "actor") d) _ same none (at (codes "actor") (inl (refl, none)))
    by (inr (inl (same, none))) =
        past expected unread (codes "actor") k d (short_at (codes "actor") d) _ (λ e. at (codes "actor") (inl (refl, e))) (before (codes "actor") (codes "at") k same refl) (λ actor.
        here expected unread (codes "at") k d (moment_at (codes "at") d) _ same none (at (codes "at") (inr (inl (refl, none)))))
    by (inr (inr (same, none))) =
        past expected unread (codes "actor") k d (short_at (codes "actor") d) _ (λ e. at (codes "actor") (inl (refl, e))) (before (codes "actor") (codes "key") k same refl) (λ actor.
        past expected unread (codes "at") k d (moment_at (codes "at") d) _ (λ e. at (codes "at") (inr (inl (refl, e)))) (before (codes "at") (codes "key") k same refl) (λ moment.
        here expected unread (codes "key") k d (short_at (codes "key") d) _ same none (at (codes "key") (inr (inr (refl, none))))))

-- the key comes after the sender's
pub sender_past : {A : Type 0} (expected : List ℕ → Bool) (unread : Data → List ℕ → Type 0) (d : Data) (k : List ℕ) (f : Sender → Result A BadCall)
    → ((q : List ℕ) → IsUnreadOfSender d q → unread d q) → is_gt (slice_cmp nat_cmp (codes "actor") k) ≡ false → is_gt (slice_cmp nat_cmp (codes "at") k) ≡ false → is_gt (slice_cmp nat_cmp (codes "key") k) ≡ false
    → ((s : Sender) → IsUnreadNamed expected unread d k (told (f s))) → IsUnreadNamed expected unread d k (told (and_then (sender_of d) f))
sender_past expected unread d k f at one two three next =
    subst (λ r. IsUnreadNamed expected unread d k (told r)) (sym (sender_flat d f))
    (past expected unread (codes "actor") k d (short_at (codes "actor") d) _ (λ e. at (codes "actor") (inl (refl, e))) one (λ actor.
    past expected unread (codes "at") k d (moment_at (codes "at") d) _ (λ e. at (codes "at") (inr (inl (refl, e)))) two (λ moment.
    past expected unread (codes "key") k d (short_at (codes "key") d) _ (λ e. at (codes "key") (inr (inr (refl, e)))) three (λ key.
    next (sent_by moment actor key)))))

-- ---- objects with a name

module _ {K A : Type 0} (kind_of : List ℕ → Option K) (keys : K → Object) (fields : K → Data → Result A BadCall) (d : Data) where
  kind_given : (N : Result A CallFault → Type 0) (o : Option K) → ((b : BadCall) → N (Err (fault.Bad b)))
      → ((k : K) → o ≡ Some k → HasOnly (is_key (keys k)) d → N (told (fields k d))) → N (told (named_by keys fields o d))
  kind_given N None none some = none _
  kind_given N (Some k) none some = after N (only_keys (keys k) d) _ (λ b is. none b) (λ only is_only. some k refl (only_found (keys k) d only is_only))

  -- what holds of each fault and of each kind's fields holds
  pub named_given : (N : Result A CallFault → Type 0) → ((b : BadCall) → N (Err (fault.Bad b)))
      → ((name : List ℕ) (k : K) → text_at (codes "do") d ≡ Some name → kind_of name ≡ Some k → HasOnly (is_key (keys k)) d → N (told (fields k d))) → N (told (named kind_of keys fields d))
  named_given N none some =
      chain N (codes "do") d (text_at (codes "do") d) _ (λ e. none _) (λ name there. kind_given N (kind_of name) none (λ k is only. some name k there is only))

  pub named_passed : (name : List ℕ) (k : K) (y : Result A BadCall) → text_at (codes "do") d ≡ Some name → kind_of name ≡ Some k → HasOnly (is_key (keys k)) d → fields k d ≡ y
      → named kind_of keys fields d ≡ y
  named_passed name k y there is only next =
      passed (codes "do") d (text_at (codes "do") d) _ name y there
      (ap (λ o. named_by keys fields o d) is ∙ passed_after (only_keys (keys k) d) _ tt y (only_passed (keys k) d only) next)

-- a key that isn't expected isn't there
pub none_there : (expected : List ℕ → Bool) (key : List ℕ) (d : Data) (o : Option Data) → get key d ≡ o → HasOnly expected d → expected key ≡ false → o ≡ None
none_there expected key d None is only not = refl
none_there expected key d (Some v) is only not = absurd (true≢false (sym (only.1 key (ap is_some is)) ∙ not))
