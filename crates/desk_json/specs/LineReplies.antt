-- The texts of replies to lines of shifts and of planned redispatches, besides the replies to calls: JSON without white
-- space, keys in byte order.
use Rattle.std.specs.Prelude.{◌≡◌, ℕ, List, Some, codes}
use Rattle.serde_json.specs.Data.{Data, object, Members, member, no_members, put}
use Rattle.serde_json.specs.Written.{compact_text}
use Rattle.asks.specs.Canonical.{text_data, option_data, list_data}
use Rattle.asks.specs.Fields.{data_of}
use Rattle.release_json.specs.Findings.{finding_data}
use Rattle.desk_json.specs.declared.line_replies.LineRefusal.{LineRefusal}
use Rattle.desk_json.specs.declared.line_replies.LineRefusal.TheVariants.{NotSitting, NoSuchDesk, NotOffered, BadRelief, NotPlanned, FinalFails}
use Rattle.desk_json.specs.Replies.{numbered}

-- the number of a refusal
abbrev pub line_refusal_number : LineRefusal → ℕ
line_refusal_number (NotSitting sitter) = 31
line_refusal_number NoSuchDesk = 32
line_refusal_number (NotOffered offered) = 33
line_refusal_number BadRelief = 34
line_refusal_number NotPlanned = 35
line_refusal_number (FinalFails findings) = 36

-- the name of a refusal
abbrev pub line_refusal_name : LineRefusal → List ℕ
line_refusal_name (NotSitting sitter) = codes "NotSitting"
line_refusal_name NoSuchDesk = codes "NoSuchDesk"
line_refusal_name (NotOffered offered) = codes "NotOffered"
line_refusal_name BadRelief = codes "BadRelief"
line_refusal_name NotPlanned = codes "NotPlanned"
line_refusal_name (FinalFails findings) = codes "FinalFails"

-- Members with the fields of a refusal added, besides its number and its name.
abbrev pub with_line_fields : LineRefusal → Members → Members
with_line_fields (NotSitting sitter) ms = put (codes "sitter") (text_data sitter) ms
with_line_fields NoSuchDesk ms = ms
with_line_fields (NotOffered offered) ms = put (codes "offered") (option_data text_data offered) ms
with_line_fields BadRelief ms = ms
with_line_fields NotPlanned ms = ms
with_line_fields (FinalFails findings) ms = put (codes "findings") (list_data finding_data findings) ms

abbrev pub line_refusal_data : LineRefusal → Data
line_refusal_data r = object (with_line_fields r (numbered (line_refusal_number r) (line_refusal_name r)))

-- the text of a refusal
unfoldable pub line_refusal_text : LineRefusal → List ℕ
line_refusal_text r = compact_text (line_refusal_data r)

-- a desk and who sits there
abbrev pub seated_members : List ℕ → List ℕ → Members
seated_members desk sitter = member (codes "desk") (text_data desk) (member (codes "sitter") (text_data sitter) no_members)

abbrev pub seated_data : List ℕ → List ℕ → Data
seated_data desk sitter = object (member (codes "done") (object (seated_members desk sitter)) no_members)

-- the text of the reply to a relief line that the desk accepted
unfoldable pub seated_text : List ℕ → List ℕ → List ℕ
seated_text desk sitter = compact_text (seated_data desk sitter)

-- The text is JSON, and this is its value.
abbrev pub IsJsonOf : Data → List ℕ → Type 0
IsJsonOf d text = data_of text ≡ Some d
