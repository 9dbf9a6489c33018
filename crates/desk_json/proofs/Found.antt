-- A line or a call is read exactly where its fields are there and nothing else.
use Rattle.std.proofs.Common.{◌≡◌, ℕ, Bool, true, false, if◌then◌else◌, List, Option, None, Some, IfOk, Result, Ok, Err, codes, refl, ap, ◌∙◌, subst}
use Rattle.std.proofs.lemmas.Result.{IfOk-weaker}
use Rattle.std.specs.Prelude.{is_some, option_and_then}
use Rattle.serde_json.specs.Data.{Data}
use Rattle.serde_json.specs.Find.{get, as_object}
use Rattle.asks.specs.declared.call.Ask.{Ask}
use Rattle.asks.specs.declared.call.Call.{Call}
use Rattle.asks.specs.declared.bad_call.BadCall.{BadCall}
use Rattle.asks.specs.Fields.{data_of, text_at, short_at, moment_at}
use Rattle.desk_json.specs.declared.keys.AskKind.{AskKind}
use Rattle.desk_json.specs.declared.keys.Object.TheVariants as object
use Rattle.desk_json.specs.declared.bad_call.CallFault.{CallFault}
use Rattle.desk_json.specs.Keys.{only_keys}
use Rattle.desk_json.specs.Faults.{kind_of, ask_of_kind, ask_by, ask_or_fault, if_object, object_at, request_at, call_by, call_in, line_fields, line_in, read_as, call_or_fault, line_or_fault, Answers}
use Rattle.desk_json.specs.Calls.{HasAsk, HasCall, IsCallOf, IsLineOf, IsFound}
use Rattle.desk_json.proofs.Results.{told, answered, gives, chain, after, passed, passed_after}
use Rattle.desk_json.proofs.Members.{only_found, only_passed}

-- ---- asks

fields_found : (d : Data) (k : AskKind) (r : Result Ask BadCall) → ask_of_kind k d ≡ r → ((a : Ask) → ask_of_kind k d ≡ Ok a → HasAsk d a) → IfOk (told r) (HasAsk d)
fields_found d k (Ok a) is has = has a is
fields_found d k (Err b) is has = tt

kind_found : (d : Data) (k : Option AskKind) → option_and_then kind_of (text_at (codes "do") d) ≡ k → IfOk (told (ask_by k d)) (HasAsk d)
kind_found d None name = tt
kind_found d (Some k) name =
    let N : Result Ask CallFault → Type 0 = λ r. IfOk r (HasAsk d) in
    after N (only_keys (object.Asked k) d) _ (λ b is. tt) (λ only is_only.
    fields_found d k (ask_of_kind k d) refl (λ a is. record { kind = k; name = name; only = only_found (object.Asked k) d only is_only; fields = is }))

ask_found : (d : Data) → IfOk (told (ask_or_fault d)) (HasAsk d)
ask_found d =
    chain (λ (r : Result Ask CallFault). IfOk r (HasAsk d)) (codes "do") d (text_at (codes "do") d) _ (λ none. tt) (λ name known.
    kind_found d (kind_of name) (ap (option_and_then kind_of) known))

named_passed : (d : Data) (name : Option (List ℕ)) (k : AskKind) (a : Ask) → text_at (codes "do") d ≡ name → option_and_then kind_of name ≡ Some k → only_keys (object.Asked k) d ≡ Ok tt → ask_of_kind k d ≡ Ok a
    → ask_or_fault d ≡ Ok a
named_passed d None k a there known only fields = absurd (cc known)
named_passed d (Some name) k a there known only fields =
    passed (codes "do") d (text_at (codes "do") d) _ name (Ok a) there
    (ap (λ o. ask_by o d) known ∙ passed_after (only_keys (object.Asked k) d) _ tt (Ok a) only fields)

ask_passed : (d : Data) (a : Ask) → HasAsk d a → ask_or_fault d ≡ Ok a
ask_passed d a is = named_passed d (text_at (codes "do") d) is.kind a refl is.name (only_passed (object.Asked is.kind) d is.only) is.fields

-- ---- calls

object_is : (b : Bool) (d q : Data) → (if b then Some d else None) ≡ Some q → Some d ≡ Some q
object_is true d q is = is
object_is false d q is = absurd (cc is)

-- an object that is found stands at its key
pub object_there : (o : Option Data) (q : Data) → option_and_then if_object o ≡ Some q → o ≡ Some q
object_there None q is = is
object_there (Some d) q is = object_is (is_some (as_object d)) d q is

pub object_passed : (o : Option Data) (q : Data) → o ≡ Some q → is_some (as_object q) ≡ true → option_and_then if_object o ≡ Some q
object_passed o q there is = ap (option_and_then if_object) there ∙ ap (λ b. if b then Some q else None) is

pub call_found : (d inner : Data) (actor : List ℕ) → short_at (codes "actor") d ≡ Some actor → object_at (codes "ask") d ≡ Some inner → IfOk (told (call_by actor inner d)) (HasCall d)
call_found d inner actor is_actor is_inner =
    let N : Result Call CallFault → Type 0 = λ r. IfOk r (HasCall d) in
    chain N (codes "key") d (short_at (codes "key") d) _ (λ none. tt) (λ key is_key.
    chain N (codes "number") d (request_at (codes "number") d) _ (λ none. tt) (λ number is_number.
    after N (ask_or_fault inner) _ (λ b is. tt) (λ ask is_ask. record {
      actor = is_actor;
      key = is_key;
      number = is_number;
      inner = inner;
      found = object_there (get (codes "ask") d) inner is_inner;
      ask = subst (λ (r : Result Ask BadCall). IfOk (told r) (HasAsk inner)) is_ask (ask_found inner);
    })))

pub call_passed : (d : Data) (c : Call) (is : HasCall d c) → call_by c.actor is.inner d ≡ Ok c
call_passed d c is =
    passed (codes "key") d (short_at (codes "key") d) _ c.key (Ok c) is.key
    (passed (codes "number") d (request_at (codes "number") d) _ c.number (Ok c) is.number
    (passed_after (ask_or_fault is.inner) _ c.ask (Ok c) (ask_passed is.inner c.ask is.ask) refl))

call_held : (text : List ℕ) (d : Data) (only : Unit {0}) → only_keys object.Call d ≡ Ok only → data_of text ≡ Some d → (r : Result Call BadCall) → IfOk (told r) (HasCall d) → IfOk (told r) (IsCallOf text)
call_held text d only is_only json (Ok c) is = record { value = d; json = json; only = only_found object.Call d only is_only; fields = is }
call_held text d only is_only json (Err b) is = tt

data_call : (text : List ℕ) (d : Data) → data_of text ≡ Some d → IfOk (told (call_in d)) (IsCallOf text)
data_call text d json =
    let N : Result Call CallFault → Type 0 = λ r. IfOk r (IsCallOf text) in
    after N (only_keys object.Call d) _ (λ b is. tt) (λ only is_only.
    chain N (codes "actor") d (short_at (codes "actor") d) _ (λ none. tt) (λ actor is_actor.
    chain N (codes "ask") d (object_at (codes "ask") d) _ (λ none. tt) (λ inner is_inner.
    call_held text d only is_only json (call_by actor inner d) (call_found d inner actor is_actor is_inner))))

-- the moment and the fields of a call
abbrev pub HasLine : Data → ℕ × Call → Type 0
HasLine d line = (moment_at (codes "at") d ≡ Some line.0) × HasCall d line.1

pub line_fields_found : (d : Data) → IfOk (told (line_fields d)) (HasLine d)
line_fields_found d =
    let N : Result (ℕ × Call) CallFault → Type 0 = λ r. IfOk r (HasLine d) in
    chain N (codes "actor") d (short_at (codes "actor") d) _ (λ none. tt) (λ actor is_actor.
    chain N (codes "ask") d (object_at (codes "ask") d) _ (λ none. tt) (λ inner is_inner.
    chain N (codes "at") d (moment_at (codes "at") d) _ (λ none. tt) (λ at is_at.
    after N (call_by actor inner d) _ (λ b is. tt) (λ call is_call. (is_at, subst (λ (r : Result Call BadCall). IfOk (told r) (HasCall d)) is_call (call_found d inner actor is_actor is_inner))))))

data_line : (text : List ℕ) (d : Data) → data_of text ≡ Some d → IfOk (told (line_in d)) (IsLineOf text)
data_line text d json =
    after (λ r. IfOk r (IsLineOf text)) (only_keys object.Line d) _ (λ b is. tt) (λ only is_only.
    IfOk-weaker (told (line_fields d)) _ _ (λ line is. record { value = d; json = json; only = only_found object.Line d only is_only; moment = is.0; fields = is.1 }) (line_fields_found d))

pub line_fields_passed : (d : Data) (line : ℕ × Call) → HasLine d line → line_fields d ≡ Ok line
line_fields_passed d l is =
    passed (codes "actor") d (short_at (codes "actor") d) _ l.1.actor (Ok l) is.1.actor
    (passed (codes "ask") d (object_at (codes "ask") d) _ is.1.inner (Ok l) (object_passed (get (codes "ask") d) is.1.inner is.1.found is.1.ask.only.0)
    (passed (codes "at") d (moment_at (codes "at") d) _ l.0 (Ok l) is.0
    (passed_after (call_by l.1.actor is.1.inner d) _ l.1 (Ok l) (call_passed d l.1 is.1) refl)))

-- ---- texts

pub read_found : {A : Type 0} (f : Data → Result A BadCall) (Is : A → Type 0) (o : Option Data) → ((d : Data) → o ≡ Some d → IfOk (told (f d)) Is) → IfOk (told (read_as f o)) Is
read_found f Is None each = tt
read_found f Is (Some d) each = each d refl

call_read : (text : List ℕ) (c : Call) → IsCallOf text c → call_or_fault text ≡ Ok c
unfolding call_or_fault
call_read text c is =
    ap (read_as call_in) is.json
    ∙ passed_after (only_keys object.Call is.value) _ tt (Ok c) (only_passed object.Call is.value is.only)
    (passed (codes "actor") is.value (short_at (codes "actor") is.value) _ c.actor (Ok c) is.fields.actor
    (passed (codes "ask") is.value (object_at (codes "ask") is.value) _ is.fields.inner (Ok c) (object_passed (get (codes "ask") is.value) is.fields.inner is.fields.found is.fields.ask.only.0)
    (call_passed is.value c is.fields)))

line_read : (line : List ℕ) (l : ℕ × Call) → IsLineOf line l → line_or_fault line ≡ Ok l
unfolding line_or_fault
line_read line l is =
    ap (read_as line_in) is.json
    ∙ passed_after (only_keys object.Line is.value) _ tt (Ok l) (only_passed object.Line is.value is.only) (line_fields_passed is.value l (is.moment, is.fields))

pub call_finds : (text : List ℕ) (r : Result Call CallFault) → Answers (call_or_fault text) r → IsFound (IsCallOf text) r
unfolding call_or_fault
call_finds text r is = record {
  sound = answered (λ (x : Result Call CallFault). IfOk x (IsCallOf text)) (read_as call_in (data_of text)) r tt (read_found call_in (IsCallOf text) (data_of text) (data_call text)) is;
  whole = λ c of. gives c (call_or_fault text) r (call_read text c of) is;
}

pub line_finds : (line : List ℕ) (r : Result (ℕ × Call) CallFault) → Answers (line_or_fault line) r → IsFound (IsLineOf line) r
unfolding line_or_fault
line_finds line r is = record {
  sound = answered (λ (x : Result (ℕ × Call) CallFault). IfOk x (IsLineOf line)) (read_as line_in (data_of line)) r tt (read_found line_in (IsLineOf line) (data_of line) (data_line line)) is;
  whole = λ l of. gives l (line_or_fault line) r (line_read line l of) is;
}
