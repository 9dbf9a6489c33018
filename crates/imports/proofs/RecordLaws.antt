-- A record is read as a call exactly where it is what is written of that call.
use Rattle.std.proofs.Common.{◌≡◌, ◌↔◌, ◌∙◌, sym, ap, subst, refl, ℕ, ◌≤◌, arith, Bool, true, false, List, [], ◌∷◌, length, Option, None, Some, Result, Ok, Err, IfOk, codes, decimal, IsUtf8, eq-eqb, le-leb}
use Rattle.std.specs.Str.Lossy.{utf8_valid_len}
use Rattle.std.proofs.lemmas.Str.{utf8_valid_len-IsUtf8}
use Rattle.asks.specs.declared.call.Ask.{Ask}
use Rattle.asks.specs.declared.call.Ask.TheVariants.{Admit}
use Rattle.asks.specs.declared.call.Call.{Call}
use Rattle.asks.specs.Forms.{IsShort, AskHasForms}
use Rattle.desk_time.specs.Moments.{minute_of, shown}
use Rattle.desk_time.specs.Numbers.{number_in}
use Rattle.desk_time.proofs.NumberLaws.{number_again, number_exact}
use Rattle.desk_time.proofs.MomentLaws.{minute_again}
use Rattle.desk_time.proofs.ReadLaws.{minute_is_shown}
use Rattle.imports.specs.Records.{Line, is_text, is_short, admit_of, formed, read_as, line_of, record_or_fault, IsRecordOf, HasForms}

-- ---- from what was read

formed_ok : (b : Bool) (name : List ℕ) (rest : Line) (p : ℕ × Call) → formed b name rest ≡ Ok p → rest ≡ Ok p
formed_ok true name rest p is = is
formed_ok false name rest p is = absurd (cc)

read_ok : (o : Option ℕ) (name : List ℕ) (rest : ℕ → Line) (p : ℕ × Call) → read_as o name rest ≡ Ok p → (x : ℕ) × (o ≡ Some x) × (rest x ≡ Ok p)
read_ok None name rest p is = absurd (cc)
read_ok (Some x) name rest p is = (x, refl, is)

-- what was written of it
Written : List ℕ → List ℕ → List ℕ → List ℕ → List ℕ → ℕ × Call → Type 0
Written actor key number at text p = (n : ℕ) × (number ≡ decimal n) × (at ≡ shown p.0) × (p.1 ≡ admit_of actor key n text)

abbrev from_text : List ℕ → List ℕ → ℕ → ℕ → List ℕ → Line
from_text actor key n m text = formed (is_text text) (codes "text") (Ok (m, admit_of actor key n text))

abbrev from_at : List ℕ → List ℕ → ℕ → List ℕ → List ℕ → Line
from_at actor key n at text = read_as (minute_of at) (codes "at") (λ m. from_text actor key n m text)

abbrev from_number : List ℕ → List ℕ → List ℕ → List ℕ → List ℕ → Line
from_number actor key number at text = read_as (number_in 1_000_000_000_000 number) (codes "number") (λ n. from_at actor key n at text)

at_end : (actor key number at text : List ℕ) (n m : ℕ) (p : ℕ × Call) (line : Line) → number ≡ decimal n → at ≡ shown m → line ≡ Ok (m, admit_of actor key n text) → line ≡ Ok p → Written actor key number at text p
unfolding Written
at_end actor key number at text n m p line number_is at_is made end =
    let same : (m, admit_of actor key n text) ≡ p = cc in
    (n, number_is, subst (λ (q : ℕ × Call). at ≡ shown q.0) same at_is, ap (λ (q : ℕ × Call). q.1) (sym same))

line_written : (actor key number at text : List ℕ) (p : ℕ × Call) → line_of actor key number at text ≡ Ok p → Written actor key number at text p
line_written actor key number at text p is =
    let a = formed_ok (is_short actor) (codes "actor") (formed (is_short key) (codes "key") (from_number actor key number at text)) p is in
    let b = formed_ok (is_short key) (codes "key") (from_number actor key number at text) p a in
    let n = read_ok (number_in 1_000_000_000_000 number) (codes "number") (λ n. from_at actor key n at text) p b in
    let m = read_ok (minute_of at) (codes "at") (λ m. from_text actor key n.0 m text) p n.2 in
    let end = formed_ok (is_text text) (codes "text") (Ok (m.0, admit_of actor key n.0 text)) p m.2 in
    let number_is = (number_exact 1_000_000_000_000 number (number_in 1_000_000_000_000 number) (omega arith) refl n.0).0 n.1 in
    at_end actor key number at text n.0 m.0 p (Ok (m.0, admit_of actor key n.0 text)) number_is.1 (minute_is_shown at m.0 m.1) refl end

whole : (a b c d e : List ℕ) (n at : ℕ) (call : Call) → call ≡ admit_of a b n e → c ≡ decimal n → d ≡ shown at
    → a ∷ b ∷ c ∷ d ∷ e ∷ [] ≡ call.actor ∷ call.key ∷ decimal call.number ∷ shown at ∷ e ∷ []
whole a b c d e n at call is number moment = rw (is, number, moment) refl

-- what is read of a record is written so
back : (fields : List (List ℕ)) (at : ℕ) (call : Call) → record_or_fault fields ≡ Ok (at, call) → HasForms (record_or_fault fields) → IsRecordOf at call fields
unfolding Written
back [] at call is forms = absurd (cc)
back (a ∷ []) at call is forms = absurd (cc)
back (a ∷ b ∷ []) at call is forms = absurd (cc)
back (a ∷ b ∷ c ∷ []) at call is forms = absurd (cc)
back (a ∷ b ∷ c ∷ d ∷ []) at call is forms = absurd (cc)
back (a ∷ b ∷ c ∷ d ∷ e ∷ []) at call is forms =
    let w = line_written a b c d e (at, call) is in
    let has = subst HasForms is forms in
    record {
      text = e;
      admits = ap (λ (x : Call). x.ask) w.3;
      written = whole a b c d e w.0 at call w.3 w.1 w.2;
      moment = has.0;
      forms = has.1;
    }
back (a ∷ b ∷ c ∷ d ∷ e ∷ f ∷ more) at call is forms = absurd (cc)

-- ---- from what is written

text_of : (t : List ℕ) → IsUtf8 t → is_text t ≡ true
text_of t is = eq-eqb (utf8_valid_len t) (length t) (utf8_valid_len-IsUtf8 t is)

short_of : (t : List ℕ) → IsShort t → is_short t ≡ true
short_of t is = rw (text_of t is.text, le-leb (length t) 64 is.few) refl

again : (actor key text : List ℕ) (number at : ℕ) → IsShort actor → IsShort key → number ≤ 1_000_000_000_000 → IsUtf8 text → 15_778_080 ≤ at → at ≤ 68_374_079
    → line_of actor key (decimal number) (shown at) text ≡ Ok (at, admit_of actor key number text)
again actor key text number at a k n t low high =
    rw (short_of actor a, short_of key k, number_again 1_000_000_000_000 number n (omega (arith, n)), minute_again at low high, text_of text t) refl

forth_of : (actor key : List ℕ) (number : ℕ) (ask : Ask) (at : ℕ) (fields : List (List ℕ)) → let call : Call = record { actor = actor; key = key; number = number; ask = ask } in
    IsRecordOf at call fields → record_or_fault fields ≡ Ok (at, call)
forth_of actor key number ask at fields is =
    let t : AskHasForms (Admit is.text) = subst AskHasForms is.admits is.forms.ask in
    rw (is.written, is.admits) (again actor key is.text number at is.forms.actor is.forms.key is.forms.number t is.moment.0 is.moment.1)

exact_line : (fields : List (List ℕ)) (line : Line) → line ≡ record_or_fault fields → HasForms line → (at : ℕ) (call : Call) → (line ≡ Ok (at, call)) ↔ IsRecordOf at call fields
exact_line fields line value forms at call = (
  λ is. back fields at call (sym value ∙ is) (subst HasForms value forms),
  λ is. value ∙ forth_of call.actor call.key call.number call.ask at fields is,
)

pub exact : {E : Type 0} (fields : List (List ℕ)) (r : Result Line E) → IfOk r (λ line. line ≡ record_or_fault fields) → IfOk r HasForms
    → IfOk r (λ line. (at : ℕ) (call : Call) → (line ≡ Ok (at, call)) ↔ IsRecordOf at call fields)
exact fields (Ok line) value forms = exact_line fields line value forms
exact fields (Err e) value forms = tt
