-- Of the keys at the top that are missing or whose value doesn't fit the least is named.
use Rattle.std.proofs.Common.{◌≡◌, inl, inr, ℕ, Bool, true, false, List, Option, None, Some, Result, Ok, Err, nat_cmp, codes, refl, sym, subst, true≢false}
use Rattle.std.specs.Prelude.{is_some}
use Rattle.std.specs.Ordering.{is_gt}
use Rattle.std.specs.Cmp.Lexicographic.{slice_cmp}
use Rattle.serde_json.specs.Data.{Data, null, boolean, number, string, array, object, Members}
use Rattle.serde_json.specs.Find.{as_object}
use Rattle.asks.specs.Fields.{data_of, short_at, moment_at}
use Rattle.asks.specs.declared.bad_call.BadCall.{BadCall}
use Rattle.asks.specs.declared.call.Call.{Call}
use Rattle.desk_json.specs.declared.bad_call.CallFault.{CallFault}
use Rattle.desk_json.specs.declared.keys.Object.{Object}
use Rattle.desk_json.specs.declared.keys.Object.TheVariants as of
use Rattle.desk_json.specs.Keys.{and_then, first_extra, found, is_call_key, is_key, is_line_key, no_extra, only_keys}
use Rattle.desk_json.specs.Faults.{object_at, request_at, call_fields, line_fields, read_as, call_or_fault, line_or_fault, Answers, IsUnreadOfCall, IsUnreadOfLine, IsUnreadNamed, NamesUnread, NamesUnreadOf}
use Rattle.desk_json.proofs.Members.{first_more, same_place}
use Rattle.desk_json.proofs.Results.{told, answered, chain}

-- nothing is read at this key
pub here : {A B : Type 0} (expected : List ℕ → Bool) (unread : Data → List ℕ → Type 0) (key k : List ℕ) (d : Data) (o : Option A) (f : A → Result B BadCall) → k ≡ key → o ≡ None → unread d key
    → IsUnreadNamed expected unread d k (told (and_then (found key d o) f))
here expected unread key k d o f is none at =
    subst (λ q. IsUnreadNamed expected unread d q (told (and_then (found key d o) f))) (sym is)
    (subst (λ p. IsUnreadNamed expected unread d key (told (and_then (found key d p) f))) (sym none) (inr (refl, at, same_place key)))

-- it comes after this one
pub past : {A B : Type 0} (expected : List ℕ → Bool) (unread : Data → List ℕ → Type 0) (key k : List ℕ) (d : Data) (o : Option A) (f : A → Result B BadCall) → (o ≡ None → unread d key)
    → is_gt (slice_cmp nat_cmp key k) ≡ false → ((x : A) → IsUnreadNamed expected unread d k (told (f x))) → IsUnreadNamed expected unread d k (told (and_then (found key d o) f))
past expected unread key k d o f at before next = chain (λ r. IsUnreadNamed expected unread d k r) key d o f (λ none. inr (refl, at none, before)) (λ x is. next x)

-- after a chain within a chain, as after one
pub flat : {A B C : Type 0} (expected : List ℕ → Bool) (unread : Data → List ℕ → Type 0) (k : List ℕ) (d : Data) (r : Result A BadCall) (f : A → Result B BadCall) (g : B → Result C BadCall)
    → IsUnreadNamed expected unread d k (told (and_then r (λ x. and_then (f x) g))) → IsUnreadNamed expected unread d k (told (and_then (and_then r f) g))
flat expected unread k d (Ok x) f g is = is
flat expected unread k d (Err b) f g is = is

-- a key is after another, wherever it is named
pub before : (key other k : List ℕ) → k ≡ other → is_gt (slice_cmp nat_cmp key other) ≡ false → is_gt (slice_cmp nat_cmp key k) ≡ false
before key other k is lower = subst (λ q. is_gt (slice_cmp nat_cmp key q) ≡ false) (sym is) lower

pub actor_of : (d : Data) → short_at (codes "actor") d ≡ None → IsUnreadOfCall d (codes "actor")
actor_of d none = inl (refl, none)

pub ask_of : (d : Data) → object_at (codes "ask") d ≡ None → IsUnreadOfCall d (codes "ask")
ask_of d none = inr (inr (inr (refl, none)))

pub key_of : (d : Data) → short_at (codes "key") d ≡ None → IsUnreadOfCall d (codes "key")
key_of d none = inr (inl (refl, none))

pub number_of : (d : Data) → request_at (codes "number") d ≡ None → IsUnreadOfCall d (codes "number")
number_of d none = inr (inr (inl (refl, none)))

call_first : (d : Data) (k : List ℕ) → IsUnreadOfCall d k → IsUnreadNamed is_call_key IsUnreadOfCall d k (told (call_fields d))
call_first d k (inl (is, none)) = here is_call_key IsUnreadOfCall (codes "actor") k d (short_at (codes "actor") d) _ is none (actor_of d none)
call_first d k (inr (inr (inr (is, none)))) =
    past is_call_key IsUnreadOfCall (codes "actor") k d (short_at (codes "actor") d) _ (actor_of d) (before (codes "actor") (codes "ask") k is refl) (λ actor.
    here is_call_key IsUnreadOfCall (codes "ask") k d (object_at (codes "ask") d) _ is none (ask_of d none))
call_first d k (inr (inl (is, none))) =
    past is_call_key IsUnreadOfCall (codes "actor") k d (short_at (codes "actor") d) _ (actor_of d) (before (codes "actor") (codes "key") k is refl) (λ actor.
    past is_call_key IsUnreadOfCall (codes "ask") k d (object_at (codes "ask") d) _ (ask_of d) (before (codes "ask") (codes "key") k is refl) (λ ask.
    here is_call_key IsUnreadOfCall (codes "key") k d (short_at (codes "key") d) _ is none (key_of d none)))
call_first d k (inr (inr (inl (is, none)))) =
    past is_call_key IsUnreadOfCall (codes "actor") k d (short_at (codes "actor") d) _ (actor_of d) (before (codes "actor") (codes "number") k is refl) (λ actor.
    past is_call_key IsUnreadOfCall (codes "ask") k d (object_at (codes "ask") d) _ (ask_of d) (before (codes "ask") (codes "number") k is refl) (λ ask.
    past is_call_key IsUnreadOfCall (codes "key") k d (short_at (codes "key") d) _ (key_of d) (before (codes "key") (codes "number") k is refl) (λ key.
    here is_call_key IsUnreadOfCall (codes "number") k d (request_at (codes "number") d) _ is none (number_of d none))))

pub line_first : (d : Data) (k : List ℕ) → IsUnreadOfLine d k → IsUnreadNamed is_line_key IsUnreadOfLine d k (told (line_fields d))
line_first d k (inr (inl (is, none))) = here is_line_key IsUnreadOfLine (codes "actor") k d (short_at (codes "actor") d) _ is none (inr (actor_of d none))
line_first d k (inr (inr (inr (inr (is, none))))) =
    past is_line_key IsUnreadOfLine (codes "actor") k d (short_at (codes "actor") d) _ (λ e. inr (actor_of d e)) (before (codes "actor") (codes "ask") k is refl) (λ actor.
    here is_line_key IsUnreadOfLine (codes "ask") k d (object_at (codes "ask") d) _ is none (inr (ask_of d none)))
line_first d k (inl (is, none)) =
    past is_line_key IsUnreadOfLine (codes "actor") k d (short_at (codes "actor") d) _ (λ e. inr (actor_of d e)) (before (codes "actor") (codes "at") k is refl) (λ actor.
    past is_line_key IsUnreadOfLine (codes "ask") k d (object_at (codes "ask") d) _ (λ e. inr (ask_of d e)) (before (codes "ask") (codes "at") k is refl) (λ ask.
    here is_line_key IsUnreadOfLine (codes "at") k d (moment_at (codes "at") d) _ is none (inl (refl, none))))
line_first d k (inr (inr (inl (is, none)))) =
    past is_line_key IsUnreadOfLine (codes "actor") k d (short_at (codes "actor") d) _ (λ e. inr (actor_of d e)) (before (codes "actor") (codes "key") k is refl) (λ actor.
    past is_line_key IsUnreadOfLine (codes "ask") k d (object_at (codes "ask") d) _ (λ e. inr (ask_of d e)) (before (codes "ask") (codes "key") k is refl) (λ ask.
    past is_line_key IsUnreadOfLine (codes "at") k d (moment_at (codes "at") d) _ (λ e. inl (refl, e)) (before (codes "at") (codes "key") k is refl) (λ at.
    flat is_line_key IsUnreadOfLine k d (found (codes "key") d (short_at (codes "key") d)) _ _
    (here is_line_key IsUnreadOfLine (codes "key") k d (short_at (codes "key") d) _ is none (inr (key_of d none))))))
line_first d k (inr (inr (inr (inl (is, none))))) =
    past is_line_key IsUnreadOfLine (codes "actor") k d (short_at (codes "actor") d) _ (λ e. inr (actor_of d e)) (before (codes "actor") (codes "number") k is refl) (λ actor.
    past is_line_key IsUnreadOfLine (codes "ask") k d (object_at (codes "ask") d) _ (λ e. inr (ask_of d e)) (before (codes "ask") (codes "number") k is refl) (λ ask.
    past is_line_key IsUnreadOfLine (codes "at") k d (moment_at (codes "at") d) _ (λ e. inl (refl, e)) (before (codes "at") (codes "number") k is refl) (λ at.
    flat is_line_key IsUnreadOfLine k d (found (codes "key") d (short_at (codes "key") d)) _ _
    (past is_line_key IsUnreadOfLine (codes "key") k d (short_at (codes "key") d) _ (λ e. inr (key_of d e)) (before (codes "key") (codes "number") k is refl) (λ key.
    flat is_line_key IsUnreadOfLine k d (found (codes "number") d (request_at (codes "number") d)) _ _
    (here is_line_key IsUnreadOfLine (codes "number") k d (request_at (codes "number") d) _ is none (inr (number_of d none))))))))

-- ---- what is named

under_more : {A : Type 0} (o : Object) (unread : Data → List ℕ → Type 0) (ms : Members) (k : List ℕ) (more : Option (List ℕ)) (r : Result A BadCall) → first_extra o ms ≡ more
    → IsUnreadNamed (is_key o) unread (object ms) k (told r) → IsUnreadNamed (is_key o) unread (object ms) k (told (and_then (no_extra more) (λ only. r)))
under_more o unread ms k None r first is = is
under_more o unread ms k (Some key) r first is = let more = first_more o ms key first in inl (refl, more.0, more.1)

-- an object in which that key is unread, unless it has a key more
under_keys : {A : Type 0} (o : Object) (unread : Data → List ℕ → Type 0) (d : Data) (k : List ℕ) (r : Result A BadCall) → is_some (as_object d) ≡ true
    → IsUnreadNamed (is_key o) unread d k (told r) → IsUnreadNamed (is_key o) unread d k (told (and_then (only_keys o d) (λ only. r)))
under_keys o unread null k r some is = absurd (true≢false (sym some))
under_keys o unread (boolean b) k r some is = absurd (true≢false (sym some))
under_keys o unread (number n) k r some is = absurd (true≢false (sym some))
under_keys o unread (string t) k r some is = absurd (true≢false (sym some))
under_keys o unread (array ds) k r some is = absurd (true≢false (sym some))
under_keys o unread (object ms) k r some is = under_more o unread ms k (first_extra o ms) r refl is

pub names : {A : Type 0} (o : Data → Object) (unread : Data → List ℕ → Type 0) (f : Data → Result A BadCall) (text : List ℕ) (r : Result A CallFault)
    → ((d : Data) (k : List ℕ) → unread d k → IsUnreadNamed (is_key (o d)) unread d k (told (f d)))
    → Answers (read_as (λ d. and_then (only_keys (o d) d) (λ only. f d)) (data_of text)) r → NamesUnreadOf (λ d. is_key (o d)) unread text r
names o unread f text r first is = λ d k same some none.
    answered (λ x. IsUnreadNamed (is_key (o d)) unread d k x) (and_then (only_keys (o d) d) (λ only. f d)) r tt (under_keys (o d) unread d k (f d) some (first d k none))
    (subst (λ p. Answers (read_as (λ q. and_then (only_keys (o q) q) (λ only. f q)) p) r) same is)

pub call_unread : (text : List ℕ) (r : Result Call CallFault) → Answers (call_or_fault text) r → NamesUnread is_call_key IsUnreadOfCall text r
unfolding call_or_fault
call_unread text r is = names (λ d. of.Call) IsUnreadOfCall call_fields text r call_first is

pub line_unread : (line : List ℕ) (r : Result (ℕ × Call) CallFault) → Answers (line_or_fault line) r → NamesUnread is_line_key IsUnreadOfLine line r
unfolding line_or_fault
line_unread line r is = names (λ d. of.Line) IsUnreadOfLine line_fields line r line_first is
