-- Names and texts are read as they are written.
use Rattle.std.proofs.Common.{◌≡◌, ℕ, Bool, true, nat_lt, if◌then◌else◌, List, Option, None, Some, IsUtf8, refl, sym, ap, ◌∙◌, arith}
use Rattle.std.specs.List.{list_all}
use Rattle.std.specs.Str.Lossy.{utf8_lossy}
use Rattle.std.proofs.lemmas.Bool.{and_parts}
use Rattle.std.proofs.lemmas.Bool.Decides.{nat_tests}
use Rattle.std.proofs.lemmas.Str.{utf8_lossy-IsUtf8, is_utf8-from_IsUtf8}
use Rattle.ops_tables.specs.Forms.{in_mark, is_word, is_tail, is_item, is_person}
use Rattle.asks.proofs.Texts.{passing_utf8}
use Rattle.release_json.specs.Releases.{person}
use Rattle.release_json.proofs.ReleaseLaws.{person_utf8}
use Rattle.records.specs.Reading.{tail, item, if_report, report_with, utf8_report}
use Rattle.records.specs.declared.record.KeptReport.{KeptReport}

small_mark : (b : ℕ) → in_mark b ≡ true → nat_lt b 128 ≡ true
small_mark b is = grind (arith, nat_tests, is)

word_utf8 : (allowed : ℕ → Bool) (most : ℕ) (t : List ℕ) → ((b : ℕ) → allowed b ≡ true → nat_lt b 128 ≡ true) → is_word allowed most t ≡ true → IsUtf8 t
word_utf8 allowed most t small is = passing_utf8 allowed small t (and_parts _ (list_all allowed t) is).1

tail_utf8 : (t : List ℕ) → is_tail t ≡ true → IsUtf8 t
unfolding is_tail
tail_utf8 t is = word_utf8 in_mark 8 t small_mark is

item_utf8 : (t : List ℕ) → is_item t ≡ true → IsUtf8 t
unfolding is_item
item_utf8 t is = word_utf8 in_mark 16 t small_mark is

pub person_lossy : (t : List ℕ) → is_person t ≡ true → utf8_lossy t ≡ t
person_lossy t is = utf8_lossy-IsUtf8 t (person_utf8 t is)

pub person_known : (t : List ℕ) → is_person t ≡ true → person t ≡ Some t
person_known t is = rw is refl

pub tail_again : (t : List ℕ) → is_tail t ≡ true → tail (utf8_lossy t) ≡ Some t
tail_again t is = rw (utf8_lossy-IsUtf8 t (tail_utf8 t is), is) refl

pub item_again : (t : List ℕ) → is_item t ≡ true → item (utf8_lossy t) ≡ Some t
item_again t is = rw (utf8_lossy-IsUtf8 t (item_utf8 t is), is) refl

pub text_lossy : (t : List ℕ) → IsUtf8 t → utf8_lossy t ≡ t
text_lossy t is = utf8_lossy-IsUtf8 t is

-- a report whose text is UTF-8 is tested on
pub utf8_passes : (id received : ℕ) (made t : List ℕ) (r : Option KeptReport) → IsUtf8 t → made ≡ t → r ≡ if_report (report_with id received made) → r ≡ utf8_report (report_with id received t)
utf8_passes id received made t r utf8 same is =
    is ∙ ap (λ x. if_report (report_with id received x)) same ∙ sym (ap (λ b. if b then if_report (report_with id received t) else None) (is_utf8-from_IsUtf8 t utf8))
