-- Replies to lines have no number with a fraction, and their texts are read as JSON of what was written.
use Rattle.std.proofs.Common.{◌≡◌, ℕ, ◌≤◌, List, [], ◌∷◌, None, Some, false, refl, ap, ◌∙◌, arith}
use Rattle.std.specs.List.{AllByRecursion}
use Rattle.json.proofs.Printed.Utf8.{IsUtf8-are_ascii}
use Rattle.serde_json.specs.Data.{Data, Members, depth}
use Rattle.serde_json.specs.Written.{has_float}
use Rattle.plan.specs.Texts.{finding_text}
use Rattle.plan.specs.declared.findings.Finding.{Finding}
use Rattle.asks.specs.Fields.{data_of}
use Rattle.asks.specs.Plain.{IsPlain, HasText}
use Rattle.asks.proofs.Plain.{order_of, text_of, list_plain, list_has_text, list_depth}
use Rattle.asks.proofs.Texts.{written_utf8}
use Rattle.asks.proofs.Whole.{list_whole}
use Rattle.release_json.specs.Findings.{finding_data}
use Rattle.desk_json.specs.declared.line_replies.LineRefusal.{LineRefusal}
use Rattle.desk_json.specs.declared.line_replies.LineRefusal.TheVariants.{NotSitting, NoSuchDesk, NotOffered, BadRelief, NotPlanned, FinalFails}
use Rattle.desk_json.specs.Replies.{numbered}
use Rattle.desk_json.specs.LineReplies.{line_refusal_number, line_refusal_name, with_line_fields, line_refusal_data, line_refusal_text, seated_members, seated_data, seated_text, IsJsonOf}
use Rattle.desk_json.proofs.ReplyAgain.{small_plain, data_again}
use Rattle.desk_json.proofs.Written.{finding_whole}

-- ---- no fractions

refusal_whole : (r : LineRefusal) → has_float (line_refusal_data r) ≡ false
refusal_whole (NotSitting sitter) = refl
refusal_whole NoSuchDesk = refl
refusal_whole (NotOffered None) = refl
refusal_whole (NotOffered (Some offered)) = refl
refusal_whole BadRelief = refl
refusal_whole NotPlanned = refl
refusal_whole (FinalFails findings) = rw (list_whole finding_data finding_whole findings) refl

pub line_refusal_whole : (r : LineRefusal) (d : Data) → d ≡ line_refusal_data r → has_float d ≡ false
line_refusal_whole r d is = ap has_float is ∙ refusal_whole r

pub seated_whole : (desk sitter : List ℕ) (d : Data) → d ≡ seated_data desk sitter → has_float d ≡ false
seated_whole desk sitter d is = ap has_float is ∙ refl

-- ---- plain data, all of it text

abbrev Any : Finding → Type 0
Any f = Unit {0}

all_any : (fs : List Finding) → AllByRecursion Any fs
all_any [] = tt
all_any (f ∷ fs) = (tt, all_any fs)

abbrev members_of : LineRefusal → Members
members_of r = with_line_fields r (numbered (line_refusal_number r) (line_refusal_name r))

refusal_plain : (r : LineRefusal) → IsPlain (line_refusal_data r)
refusal_plain (NotSitting sitter) = (order_of (members_of (NotSitting sitter)) refl, (small_plain 31 (omega arith), (tt, (tt, tt))))
refusal_plain NoSuchDesk = (order_of (members_of NoSuchDesk) refl, (small_plain 32 (omega arith), (tt, tt)))
refusal_plain (NotOffered None) = (order_of (members_of (NotOffered None)) refl, (tt, (small_plain 33 (omega arith), (tt, tt))))
refusal_plain (NotOffered (Some offered)) = (order_of (members_of (NotOffered (Some offered))) refl, (tt, (small_plain 33 (omega arith), (tt, tt))))
refusal_plain BadRelief = (order_of (members_of BadRelief) refl, (small_plain 34 (omega arith), (tt, tt)))
refusal_plain NotPlanned = (order_of (members_of NotPlanned) refl, (small_plain 35 (omega arith), (tt, tt)))
refusal_plain (FinalFails findings) =
    (order_of (members_of (FinalFails findings)) refl, (list_plain Any finding_data (λ f any. tt) findings (all_any findings), (small_plain 36 (omega arith), (tt, tt))))

refusal_has_text : (r : LineRefusal) → HasText (line_refusal_data r)
refusal_has_text (NotSitting sitter) = text_of (members_of (NotSitting sitter)) refl (tt, (written_utf8 sitter, (IsUtf8-are_ascii _ refl, tt)))
refusal_has_text NoSuchDesk = text_of (members_of NoSuchDesk) refl (tt, (IsUtf8-are_ascii _ refl, tt))
refusal_has_text (NotOffered None) = text_of (members_of (NotOffered None)) refl (tt, (tt, (IsUtf8-are_ascii _ refl, tt)))
refusal_has_text (NotOffered (Some offered)) = text_of (members_of (NotOffered (Some offered))) refl (written_utf8 offered, (tt, (IsUtf8-are_ascii _ refl, tt)))
refusal_has_text BadRelief = text_of (members_of BadRelief) refl (tt, (IsUtf8-are_ascii _ refl, tt))
refusal_has_text NotPlanned = text_of (members_of NotPlanned) refl (tt, (IsUtf8-are_ascii _ refl, tt))
refusal_has_text (FinalFails findings) =
    text_of (members_of (FinalFails findings)) refl (list_has_text finding_data (λ f. written_utf8 (finding_text f)) findings, (tt, (IsUtf8-are_ascii _ refl, tt)))

refusal_depth : (r : LineRefusal) → depth (line_refusal_data r) ≤ 2
refusal_depth (NotSitting sitter) = omega arith
refusal_depth NoSuchDesk = omega arith
refusal_depth (NotOffered None) = omega arith
refusal_depth (NotOffered (Some offered)) = omega arith
refusal_depth BadRelief = omega arith
refusal_depth NotPlanned = omega arith
refusal_depth (FinalFails findings) = let each = list_depth finding_data 0 (λ f. omega arith) findings in omega (arith, each)

seated_plain : (desk sitter : List ℕ) → IsPlain (seated_data desk sitter)
seated_plain desk sitter = ((tt, tt), ((order_of (seated_members desk sitter) refl, (tt, (tt, tt))), tt))

seated_has_text : (desk sitter : List ℕ) → HasText (seated_data desk sitter)
seated_has_text desk sitter = (IsUtf8-are_ascii _ refl, text_of (seated_members desk sitter) refl (written_utf8 desk, (written_utf8 sitter, tt)), tt)

-- ---- texts

pub line_refusal_json : (r : LineRefusal) (text : List ℕ) → text ≡ line_refusal_text r → IsJsonOf (line_refusal_data r) text
unfolding line_refusal_text
line_refusal_json r text is = ap data_of is ∙ data_again (line_refusal_data r) (refusal_plain r) (refusal_has_text r) (omega (arith, refusal_depth r))

pub seated_json : (desk sitter text : List ℕ) → text ≡ seated_text desk sitter → IsJsonOf (seated_data desk sitter) text
unfolding seated_text
seated_json desk sitter text is =
    ap data_of is ∙ data_again (seated_data desk sitter) (seated_plain desk sitter) (seated_has_text desk sitter) (omega arith)
