-- The finding that a text represents, and lists of findings in order without duplicates.
use Rattle.std.specs.Prelude.{ℕ, Bool, true, ◌&&◌, if◌then◌else◌, List, [], ◌∷◌, find, Option, None, Some, option_and_then}
use Rattle.std.specs.Str.{bytes_eq}
use Rattle.serde_json.specs.Data.{Data, Items}
use Rattle.serde_json.specs.Find.{as_str}
use Rattle.desk_time.specs.Digits.{◌>>=◌}
use Rattle.plan.specs.Findings.{every_rule, code_of, is_before}
use Rattle.plan.specs.Texts.{finding_text}
use Rattle.plan.specs.declared.findings.Rule.{Rule}
use Rattle.plan.specs.declared.findings.Finding.{Finding}
use Rattle.asks.specs.Canonical.{text_data, list_data}
use Rattle.asks.specs.Fields.{each_read}
use Rattle.desk_time.specs.Numbers.{number_in}
use Rattle.release_json.specs.Cuts.{leg_of, cut}

abbrev pub rule_among : List Rule → List ℕ → Option Rule
rule_among rules code = find (λ r. bytes_eq (code_of r) code) rules

-- the rule with this code
abbrev pub rule_of : List ℕ → Option Rule
rule_of code = rule_among every_rule code

-- the finding of a rule, a leg and a place, which is at most places
abbrev pub finding_at : ℕ → Rule → List ℕ × List ℕ → Option Finding
finding_at places rule halves =
    leg_of halves.0 >>= λ leg. number_in places halves.1 >>= λ place. Some (record { rule = rule; leg = leg; place = place })

abbrev pub finding_with : ℕ → List ℕ × List ℕ → Option Finding
finding_with places halves = rule_of halves.0 >>= λ rule. cut 47 halves.1 >>= λ both. finding_at places rule both

-- the finding that a text represents
unfoldable pub finding_within : ℕ → List ℕ → Option Finding
finding_within places text = cut 47 text >>= λ halves. finding_with places halves

-- as a row stores it, with a place of at most 10^15
abbrev pub finding_of : List ℕ → Option Finding
finding_of text = finding_within 1_000_000_000_000_000 text

-- as a reply may contain it, with any 64-bit place
abbrev pub said_finding_of : List ℕ → Option Finding
said_finding_of text = finding_within 18_446_744_073_709_551_615 text

-- a finding as a JSON string, and findings as a list of them
abbrev pub finding_data : Finding → Data
finding_data f = text_data (finding_text f)

abbrev pub findings_data : List Finding → Data
findings_data fs = list_data finding_data fs

abbrev pub comes_before : Finding → List Finding → Bool
comes_before f [] = true
comes_before f (g ∷ gs) = is_before f g

-- each finding is before the next one, so no two are the same
abbrev pub are_in_order : List Finding → Bool
are_in_order [] = true
are_in_order (f ∷ fs) = comes_before f fs && are_in_order fs

abbrev pub finding_in : Data → Option Finding
finding_in d = option_and_then finding_of (as_str d)

abbrev pub in_order : List Finding → Option (List Finding)
in_order fs = if are_in_order fs then Some fs else None

-- the findings of a list, if they are in order without duplicates
unfoldable pub findings_of : Items → Option (List Finding)
findings_of ds = each_read finding_in ds >>= λ fs. in_order fs
