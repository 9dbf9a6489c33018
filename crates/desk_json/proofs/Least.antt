-- The key more that is told is the least of those of its object.
use Rattle.std.proofs.Common.{◌≡◌, ℕ, true, false, List, Option, None, Some, IfSome, Result, refl, sym, subst, true≢false}
use Rattle.std.specs.Prelude.{is_some}
use Rattle.serde_json.specs.Data.{Data, null, boolean, number, string, array, object}
use Rattle.serde_json.specs.Find.{get}
use Rattle.asks.specs.Fields.{data_of}
use Rattle.asks.specs.declared.bad_call.BadCall.{BadCall}
use Rattle.asks.specs.declared.call.Call.{Call}
use Rattle.desk_json.specs.declared.bad_call.CallFault.{CallFault}
use Rattle.desk_json.specs.declared.keys.Object.{Object}
use Rattle.desk_json.specs.declared.keys.Object.TheVariants as of
use Rattle.desk_json.specs.Keys.{is_key, is_line_key, is_call_key, first_extra, no_extra, only_keys, and_then}
use Rattle.desk_json.specs.Faults.{call_fields, line_fields, read_as, call_or_fault, line_or_fault, Answers, IsExtraNamed, NamesExtra, NamesExtraOf}
use Rattle.desk_json.proofs.Members.{IsUpTo, first_least}
use Rattle.desk_json.proofs.Orders.{Ordered, data_ordered}
use Rattle.desk_json.proofs.Results.{told, answered}

told_first : {A : Type 0} (k : List ℕ) (more : Option (List ℕ)) (f : Unit {0} → Result A BadCall) → IsUpTo k more → IsExtraNamed k (told (and_then (no_extra more) f))
told_first k None f is = absurd is
told_first k (Some first) f is = (refl, is)

-- an object with a key more, whatever is read of it otherwise
told_more : {A : Type 0} (o : Object) (f : Unit {0} → Result A BadCall) (d : Data) (k : List ℕ) → Ordered d → is_some (get k d) ≡ true → is_key o k ≡ false
    → IsExtraNamed k (told (and_then (only_keys o d) f))
told_more o f null k is some extra = absurd (true≢false (sym some))
told_more o f (boolean b) k is some extra = absurd (true≢false (sym some))
told_more o f (number n) k is some extra = absurd (true≢false (sym some))
told_more o f (string t) k is some extra = absurd (true≢false (sym some))
told_more o f (array ds) k is some extra = absurd (true≢false (sym some))
told_more o f (object ms) k is some extra = told_first k (first_extra o ms) f (first_least o k ms is.0 some extra)

in_order : (text : List ℕ) (d : Data) → data_of text ≡ Some d → Ordered d
in_order text d same = subst (λ o. IfSome o Ordered) same (data_ordered text)

pub tells : {A : Type 0} (o : Data → Object) (f : Data → Result A BadCall) (text : List ℕ) (r : Result A CallFault)
    → Answers (read_as (λ d. and_then (only_keys (o d) d) (λ only. f d)) (data_of text)) r → NamesExtraOf (λ d. is_key (o d)) text r
tells o f text r is = λ d k same some extra.
    answered (λ x. IsExtraNamed k x) (and_then (only_keys (o d) d) (λ only. f d)) r tt (told_more (o d) (λ only. f d) d k (in_order text d same) some extra)
    (subst (λ p. Answers (read_as (λ q. and_then (only_keys (o q) q) (λ only. f q)) p) r) same is)

pub call_tells : (text : List ℕ) (r : Result Call CallFault) → Answers (call_or_fault text) r → NamesExtra is_call_key text r
unfolding call_or_fault
call_tells text r is = tells (λ d. of.Call) call_fields text r is

pub line_tells : (line : List ℕ) (r : Result (ℕ × Call) CallFault) → Answers (line_or_fault line) r → NamesExtra is_line_key line r
unfolding line_or_fault
line_tells line r is = tells (λ d. of.Line) line_fields line r is
