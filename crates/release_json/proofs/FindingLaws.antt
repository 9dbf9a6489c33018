-- The text of a finding is read as it, and lists of findings in order, each once, are read again.
use Rattle.std.proofs.Common.{◌≡◌, ◌↔◌, ℕ, ◌^◌, ◌<◌, ◌≤◌, true, List, [], ◌∷◌, ◌++◌, map, Option, None, Some, IfSome, decimal, IsUtf8, refl, ap, sym, subst, ◌∙◌, arith, bytes_eq, append-nil}
use Rattle.std.specs.List.{AllByRecursion}
use Rattle.std.proofs.lemmas.Bool.{and_parts}
use Rattle.std.proofs.lemmas.Fmt.{IsAscii-decimal}
use Rattle.std.proofs.lemmas.Str.{IsUtf8-append, IsUtf8-from_ascii, utf8_lossy-IsUtf8}
use Rattle.std.proofs.lemmas.Slice.Eq.{bytes_eq-Decides}
use Rattle.json.proofs.Printed.Utf8.{IsUtf8-are_ascii, are_ascii}
use Rattle.serde_json.specs.Data.{Items}
use Rattle.serde_json.specs.View.{items_of}
use Rattle.desk_time.specs.Digits.{◌>>=◌}
use Rattle.plan.specs.Findings.{code_of, is_before, AreInOrder, every_rule}
use Rattle.plan.specs.Texts.{finding_text}
use Rattle.plan.proofs.Rows.{is_before_trans, each_rule}
use Rattle.plan.specs.declared.findings.Rule.{Rule}
use Rattle.plan.specs.declared.findings.Finding.{Finding}
use Rattle.asks.specs.Fields.{each_read}
use Rattle.asks.proofs.Again.{each_again}
use Rattle.desk_time.specs.Numbers.{number_in}
use Rattle.release_json.specs.Cuts.{leg_of, cut}
use Rattle.release_json.specs.Findings.{rule_among, rule_of, finding_at, finding_with, finding_within, finding_data, finding_in, comes_before, are_in_order, findings_of}
use Rattle.asks.specs.Forms.{IsFinding, FindingWithin}
use Rattle.desk_time.proofs.Chains.{bind_if, bind_any, under, either_known}
use Rattle.desk_time.proofs.NumberLaws.{number_again, number_within, number_back}
use Rattle.release_json.proofs.CutLaws.{leg_again, IsCut, cut_at, cut_back}
use Rattle.release_text.specs.Legible.{is_free}
use Rattle.release_text.proofs.Pieces.{decimal_free}

rule_again : (r : Rule) → rule_of (code_of r) ≡ Some r
rule_again = each_rule (λ r. rule_of (code_of r)) Some refl

code_free : (r : Rule) → is_free 47 (code_of r) ≡ true
code_free = each_rule (λ r. is_free 47 (code_of r)) (λ r. true) refl

code_utf8 : (r : Rule) → IsUtf8 (code_of r)
code_utf8 r = IsUtf8-are_ascii (code_of r) (each_rule (λ r. are_ascii (code_of r)) (λ r. true) refl r)

at_again : (places : ℕ) (r : Rule) (leg place : ℕ) → leg ≤ 4_294_967_295 → place ≤ places → places < 2 ^ 64
    → finding_at places r (decimal leg, decimal place ++ []) ≡ Some (record { rule = r; leg = leg; place = place })
at_again places r leg place few small most =
    rw (append-nil (decimal place), leg_again leg few, number_again places place small (omega (arith, small, most))) refl

with_again : (places : ℕ) (r : Rule) (leg place : ℕ) → leg ≤ 4_294_967_295 → place ≤ places → places < 2 ^ 64
    → finding_with places (code_of r, decimal leg ++ 47 ∷ (decimal place ++ [])) ≡ Some (record { rule = r; leg = leg; place = place })
with_again places r leg place few small most =
    ap (λ o. o >>= λ rule. cut 47 (decimal leg ++ 47 ∷ (decimal place ++ [])) >>= λ both. finding_at places rule both) (rule_again r)
    ∙ ap (λ o. o >>= λ both. finding_at places r both) (cut_at 47 (decimal leg) (decimal place ++ []) (decimal_free 47 leg refl (omega arith)))
    ∙ at_again places r leg place few small most

-- the finding whose text it is
pub finding_again : (places : ℕ) (f : Finding) → places < 2 ^ 64 → FindingWithin places f → finding_within places (finding_text f) ≡ Some f
unfolding finding_within finding_text
finding_again places f most is =
    ap (λ o. o >>= finding_with places) (cut_at 47 (code_of f.rule) (decimal f.leg ++ 47 ∷ (decimal f.place ++ [])) (code_free f.rule))
    ∙ with_again places f.rule f.leg f.place is.leg is.place most

pub finding_utf8 : (places : ℕ) (f : Finding) → places < 2 ^ 64 → FindingWithin places f → IsUtf8 (finding_text f)
unfolding finding_text
finding_utf8 places f most is =
    IsUtf8-append (code_of f.rule) _ (code_utf8 f.rule)
    (IsUtf8-append (47 ∷ []) _ (IsUtf8-are_ascii _ refl)
    (IsUtf8-append (decimal f.leg) _ (IsUtf8-from_ascii _ (IsAscii-decimal f.leg (let few = is.leg in omega arith)))
    (IsUtf8-append (47 ∷ []) _ (IsUtf8-are_ascii _ refl)
    (IsUtf8-append (decimal f.place) [] (IsUtf8-from_ascii _ (IsAscii-decimal f.place (let few = is.place in omega (arith, few, most)))) (IsUtf8-are_ascii [] refl)))))

item_again : (f : Finding) → IsFinding f → finding_in (finding_data f) ≡ Some f
item_again f is = rw (utf8_lossy-IsUtf8 (finding_text f) (finding_utf8 1_000_000_000_000_000 f (omega arith) is)) (finding_again 1_000_000_000_000_000 f (omega arith) is)

-- ---- the order

earlier : (f g : Finding) (hs : List Finding) → is_before f g ≡ true → AllByRecursion (λ h. is_before g h ≡ true) hs → AllByRecursion (λ h. is_before f h ≡ true) hs
earlier f g [] one all = tt
earlier f g (h ∷ hs) one all = (is_before_trans f g h one all.0, earlier f g hs one all.1)

before_all : (f : Finding) (fs : List Finding) → comes_before f fs ≡ true → AreInOrder fs → AllByRecursion (λ g. is_before f g ≡ true) fs
before_all f [] one order = tt
before_all f (g ∷ gs) one order = (one, earlier f g gs one order.0)

order_from_test : (fs : List Finding) → are_in_order fs ≡ true → AreInOrder fs
order_from_test [] is = tt
order_from_test (f ∷ fs) is =
    let parts = and_parts (comes_before f fs) (are_in_order fs) is in
    let order = order_from_test fs parts.1 in
    (before_all f fs parts.0 order, order)

before_next : (f : Finding) (fs : List Finding) → AllByRecursion (λ g. is_before f g ≡ true) fs → comes_before f fs ≡ true
before_next f [] all = refl
before_next f (g ∷ gs) all = all.0

test_from_order : (fs : List Finding) → AreInOrder fs → are_in_order fs ≡ true
test_from_order [] order = refl
test_from_order (f ∷ fs) order = rw (before_next f fs order.0, test_from_order fs order.1) refl

-- the test says whether findings stand in order, each once
pub order_tested : (fs : List Finding) → (are_in_order fs ≡ true) ↔ AreInOrder fs
order_tested fs = (order_from_test fs, test_from_order fs)

-- findings in order are read again
pub findings_again : (fs : List Finding) → AreInOrder fs → AllByRecursion IsFinding fs → findings_of (items_of (map finding_data fs)) ≡ Some fs
unfolding findings_of
findings_again fs order all = rw (each_again IsFinding finding_in finding_data item_again fs all, test_from_order fs order) refl

-- what is read stands in order
pub findings_ordered : (ds : Items) → IfSome (findings_of ds) AreInOrder
unfolding findings_of
findings_ordered ds = bind_any (each_read finding_in ds) _ AreInOrder (λ fs. under (are_in_order fs) (Some fs) AreInOrder (order_from_test fs))

-- ---- what is read has its form

at_formed : (places : ℕ) (r : Rule) (halves : List ℕ × List ℕ) → IfSome (finding_at places r halves) (FindingWithin places)
at_formed places r halves =
    bind_if (leg_of halves.0) _ (λ leg. leg ≤ 4_294_967_295) (FindingWithin places) (number_within 4_294_967_295 halves.0) (λ leg few.
    bind_if (number_in places halves.1) _ (λ place. place ≤ places) (FindingWithin places) (number_within places halves.1) (λ place small. record { leg = few; place = small }))

pub finding_formed : (places : ℕ) (text : List ℕ) → IfSome (finding_within places text) (FindingWithin places)
unfolding finding_within
finding_formed places text =
    bind_any (cut 47 text) _ (FindingWithin places) (λ halves. bind_any (rule_of halves.0) _ (FindingWithin places) (λ r. bind_any (cut 47 halves.1) _ (FindingWithin places) (λ both. at_formed places r both)))

-- ---- only the text of a finding is read

abbrev Writes : List ℕ → Finding → Type 0
Writes text f = finding_text f ≡ text

code_back : (code : List ℕ) (rules : List Rule) → IfSome (rule_among rules code) (λ r. code_of r ≡ code)
code_back code [] = tt
code_back code (r ∷ rs) = either_known (bytes_eq (code_of r) code) (Some r) (rule_among rs code) (λ r. code_of r ≡ code) (λ is. (bytes_eq-Decides (code_of r) code).0 is) (code_back code rs)

written : (r : Rule) (leg place : ℕ) (code number last : List ℕ) → code_of r ≡ code → decimal leg ≡ number → decimal place ≡ last
    → Writes (code ++ 47 ∷ (number ++ 47 ∷ last)) (record { rule = r; leg = leg; place = place })
unfolding finding_text
written r leg place code number last one two three =
    ap (λ (l : List ℕ). l ++ 47 ∷ (decimal leg ++ 47 ∷ (decimal place ++ []))) one
    ∙ ap (λ (l : List ℕ). code ++ 47 ∷ (l ++ 47 ∷ (decimal place ++ []))) two
    ∙ ap (λ (l : List ℕ). code ++ 47 ∷ (number ++ 47 ∷ l)) (append-nil (decimal place) ∙ three)

at_back : (places : ℕ) (r : Rule) (code : List ℕ) (both : List ℕ × List ℕ) → code_of r ≡ code → places < 2 ^ 64 → IfSome (finding_at places r both) (Writes (code ++ 47 ∷ (both.0 ++ 47 ∷ both.1)))
at_back places r code both one most =
    let Q = Writes (code ++ 47 ∷ (both.0 ++ 47 ∷ both.1)) in
    bind_if (leg_of both.0) (λ leg. number_in places both.1 >>= λ place. Some (record { rule = r; leg = leg; place = place })) (λ leg. decimal leg ≡ both.0) Q (number_back 4_294_967_295 both.0 (omega arith)) (λ leg two.
    bind_if (number_in places both.1) (λ place. Some (record { rule = r; leg = leg; place = place })) (λ place. decimal place ≡ both.1) Q (number_back places both.1 most) (λ place three.
    written r leg place code both.0 both.1 one two three))

rest_back : (places : ℕ) (r : Rule) (code rest : List ℕ) → code_of r ≡ code → places < 2 ^ 64 → IfSome (cut 47 rest >>= λ both. finding_at places r both) (Writes (code ++ 47 ∷ rest))
rest_back places r code rest one most =
    bind_if (cut 47 rest) (λ both. finding_at places r both) (IsCut 47 rest) (Writes (code ++ 47 ∷ rest)) (cut_back 47 rest) (λ both is.
    subst (λ (l : List ℕ). IfSome (finding_at places r both) (Writes (code ++ 47 ∷ l))) (sym is) (at_back places r code both one most))

with_back : (places : ℕ) (halves : List ℕ × List ℕ) → places < 2 ^ 64 → IfSome (finding_with places halves) (Writes (halves.0 ++ 47 ∷ halves.1))
with_back places halves most =
    bind_if (rule_of halves.0) (λ r. cut 47 halves.1 >>= λ both. finding_at places r both) (λ r. code_of r ≡ halves.0) (Writes (halves.0 ++ 47 ∷ halves.1)) (code_back halves.0 every_rule) (λ r one. rest_back places r halves.0 halves.1 one most)

-- what is read of a text is the finding whose text it is
pub finding_back : (places : ℕ) (text : List ℕ) → places < 2 ^ 64 → IfSome (finding_within places text) (λ f. finding_text f ≡ text)
unfolding finding_within
finding_back places text most =
    bind_if (cut 47 text) (finding_with places) (IsCut 47 text) (Writes text) (cut_back 47 text) (λ halves is. subst (λ (l : List ℕ). IfSome (finding_with places halves) (Writes l)) (sym is) (with_back places halves most))

of_some : (places : ℕ) (text : List ℕ) (o : Option Finding) (f : Finding) → o ≡ Some f → IfSome o (FindingWithin places) → IfSome o (λ g. finding_text g ≡ text) → FindingWithin places f × (text ≡ finding_text f)
of_some places text None f is formed same = absurd (cc is)
of_some places text (Some g) f is formed same = let e : g ≡ f = cc is in rw (← e) (formed, sym same)

-- a text is read as a finding exactly where it is its text
pub finding_exact : (places : ℕ) (text : List ℕ) (read : Option Finding) → places < 2 ^ 64 → read ≡ finding_within places text → (f : Finding) → (read ≡ Some f) ↔ (FindingWithin places f × (text ≡ finding_text f))
finding_exact places text read most is f = (
  λ found. of_some places text (finding_within places text) f (sym is ∙ found) (finding_formed places text) (finding_back places text most),
  λ all. is ∙ ap (finding_within places) all.1 ∙ finding_again places f most all.0,
)
