-- Where each text of data is UTF-8, so is each that is read at a key.
use Rattle.std.proofs.Common.{ℕ, List, length, Option, None, Some, IfSome, IsUtf8, nat_le, option_and_then, Ordering, Less, Equal, Greater, leb-true}
use Rattle.std.specs.Ordering.{nat_cmp, match_ordering}
use Rattle.std.specs.Cmp.Lexicographic.{slice_cmp}
use Rattle.serde_json.specs.Data.{Data, null, boolean, number, string, array, object, Members, no_members, member}
use Rattle.serde_json.specs.Find.{get, get_member, as_str}
use Rattle.asks.specs.Fields.{text_at, short, short_at}
use Rattle.asks.specs.Forms.{IsShort}
use Rattle.asks.specs.Plain.{HasText, MembersHaveText}
use Rattle.desk_time.proofs.Chains.{under}

found_by : (o : Ordering) (before found after : Option Data) → IfSome before HasText → IfSome found HasText → IfSome after HasText → IfSome (match_ordering o before found after) HasText
found_by Less before found after low here high = low
found_by Equal before found after low here high = here
found_by Greater before found after low here high = high

member_has_text : (key : List ℕ) (ms : Members) → MembersHaveText ms → IfSome (get_member key ms) HasText
member_has_text key no_members have = tt
member_has_text key (member k d ms) have =
    let rest = member_has_text key ms have.2 in
    found_by (slice_cmp nat_cmp key k) (get_member key ms) (Some d) (get_member key ms) rest have.1 rest

-- data at a key
pub found_has_text : (key : List ℕ) (d : Data) → HasText d → IfSome (get key d) HasText
found_has_text key null has = tt
found_has_text key (boolean b) has = tt
found_has_text key (number n) has = tt
found_has_text key (string t) has = tt
found_has_text key (array ds) has = tt
found_has_text key (object ms) has = member_has_text key ms has

str_utf8 : (d : Data) → HasText d → IfSome (as_str d) IsUtf8
str_utf8 null has = tt
str_utf8 (boolean b) has = tt
str_utf8 (number n) has = tt
str_utf8 (string t) has = has
str_utf8 (array ds) has = tt
str_utf8 (object ms) has = tt

text_in : (o : Option Data) → IfSome o HasText → IfSome (option_and_then as_str o) IsUtf8
text_in None has = tt
text_in (Some d) has = str_utf8 d has

-- a text at a key
pub text_formed : (key : List ℕ) (d : Data) → HasText d → IfSome (text_at key d) IsUtf8
text_formed key d has = text_in (get key d) (found_has_text key d has)

short_in : (o : Option (List ℕ)) → IfSome o IsUtf8 → IfSome (option_and_then short o) IsShort
short_in None is = tt
short_in (Some t) is = under (nat_le (length t) 64) (Some t) IsShort (λ few. record { text = is; few = leb-true (length t) 64 few })

-- a text of at most 64 bytes at a key
pub short_formed : (key : List ℕ) (d : Data) → HasText d → IfSome (short_at key d) IsShort
short_formed key d has = short_in (text_at key d) (text_formed key d has)
