-- Each kind of bytes has one answer.
use Rattle.std.proofs.Common.{zero, suc, ◌≡◌, ◌≤◌, ◌<◌, ◌+◌, ◌-◌, ◌⊎◌, ℕ, List, [], ◌++◌, length, take, drop, Option, Some, None, Result, Ok, Err, inl, inr, refl, ap, sym, subst, ◌∙◌, arith, codes, length-append, append-nil, IsAscii}
use Rattle.std.proofs.lemmas.List.{append_assoc, take-append-le}
use Rattle.std.proofs.lemmas.List.Elements.{All-nil}
use Rattle.std.proofs.lemmas.List.Sums.{AllPass-from_list_all}
use Rattle.std.proofs.Math.Seq.{take-append-add, take-append_seam, drop-append_seam}
use Rattle.std.proofs.lemmas.Str.{IsUtf8-from_ascii}
use Rattle.httparse.specs.Grammar.{RequestHead, IsRequestHead, lf, print_request, HasNoRequest, NeverHasRequest, is_token_byte, is_uri_byte}
use Rattle.httparse.proofs.GrammarLemmas.{request_unique, ReadsRequest-append}
use Rattle.httparse.proofs.OnLiterals.{httparse_on_literals}
use Rattle.desk_net.specs.Streams.{Stream, unread, OnlyRead}
use Rattle.desk_net.specs.declared.crossed.Crossed.{Crossed}
use Rattle.desk_http.specs.Heads.{head_limit, asks}
use Rattle.desk_http.specs.Received.{CameIn, EndedIn}
use Rattle.desk_http.specs.Requests.{HasHead, wire_of, Begins, BeginsWithRequest, IsRefused, IsPart, IsPartOfHead, IsPartOfBody, IsTooLong, IsUnfinished, GivesNone, HasRead, FaultsBy, NextRequest, NextCrossed, IsOutside, unused, GivesRequest, IsOneOf, AnswersBytes, AnswersUnused}
use Rattle.desk_http.specs.declared.wire.Asked.{Asked}
use Rattle.desk_http.specs.declared.wire.Wire.{Wire}
use Rattle.desk_http.specs.declared.wire.WireFault.{WireFault}
use Rattle.desk_http.specs.declared.wire.WireFault.TheVariants.{End, Cut, BadHead, TooLarge, NoLength, WrongMethod, ReadFault, OutOfMemory}

-- Bytes that begin with a head.

begins_same : (s : List ℕ) (a : Asked) (h : RequestHead) (r rest : List ℕ) → Begins s a rest → HasHead s h r → (asks h ≡ Ok a) × (rest ≡ r)
begins_same s a h r rest (k, has, is) here =
    let same = request_unique s k h rest r has.reads here.reads in
    (sym (ap asks same.0) ∙ is, same.1)

refused_same : (s : List ℕ) (fault : WireFault) (h : RequestHead) (r : List ℕ) → IsRefused s fault → HasHead s h r → asks h ≡ Err fault
refused_same s fault h r (k, rest, has, is) here = sym (ap asks (request_unique s k h rest r has.reads here.reads).0) ∙ is

has_none : (s : List ℕ) (h : RequestHead) (r : List ℕ) → HasHead s h r → HasNoRequest s → ⊥
has_none s h r has none = none h r has.reads

has_never : (s : List ℕ) (h : RequestHead) (r : List ℕ) → HasHead s h r → NeverHasRequest s → ⊥
has_never s h r has never = never [] h (r ++ []) (ReadsRequest-append s h r [] has.reads)

some_bytes : (h : RequestHead) → IsRequestHead h → 0 < length (print_request h)
unfolding print_request
some_bytes h is = let some = is.method.0 in simp length-append (omega arith)

has_some : (s : List ℕ) (h : RequestHead) (r : List ℕ) → HasHead s h r → s ≡ [] → ⊥
has_some s h r has none =
    let some = some_bytes h has.reads.0 in
    let whole = ap length has.reads.1 ∙ length-append (print_request h) r in
    let empty = ap length none in
    omega (arith, some, whole, empty)

-- a head within the limit stands in the first bytes
in_front : (n : ℕ) (p r : List ℕ) → length p ≤ n → take n (p ++ r) ≡ p ++ take (n - length p) r
in_front n p r short =
    let count : n ≡ length p + (n - length p) = omega (arith, short) in
    ap (λ k. take k (p ++ r)) count ∙ take-append-add p r (n - length p)

has_long : (s : List ℕ) (h : RequestHead) (r : List ℕ) → HasHead s h r → IsTooLong s → ⊥
has_long s h r has (long, none) =
    none h (take (head_limit - length (print_request h)) r) (has.reads.0, ap (take head_limit) has.reads.1 ∙ in_front head_limit (print_request h) r has.short)

-- what the answer can be where bytes begin with a head that asks for this
abbrev Headed : Result Asked WireFault → List ℕ → List ℕ → Result Wire WireFault → Type 0
Headed asked rest others (Ok wire) = (a : Asked) × (asked ≡ Ok a) × (rest ≡ wire.body ++ others) × (length wire.body ≡ a.length) × (wire ≡ wire_of a wire.body)
Headed asked rest others (Err fault) = IsOutside fault ⊎ ((asked ≡ Err fault) ⊎ ((fault ≡ Cut) × ((a : Asked) × (asked ≡ Ok a) × (length rest < a.length))))

headed : (s : List ℕ) (h : RequestHead) (r others : List ℕ) (result : Result Wire WireFault) → HasHead s h r → GivesRequest s others result → Headed (asks h) r others result
headed s h r others (Ok wire) has gives =
    let same = begins_same s gives.asked h r (wire.body ++ others) gives.begins has in
    (gives.asked, same.0, sym same.1, gives.whole, gives.wire_is)
headed s h r others (Err End) has gives = absurd (has_some s h r has gives)
headed s h r others (Err Cut) has (inl part) = absurd (has_none s h r has part.1)
headed s h r others (Err Cut) has (inr (a, body, begins, few)) =
    let same = begins_same s a h r body begins has in
    inr (inr (refl, (a, same.0, subst (λ x. length x < a.length) same.1 few)))
headed s h r others (Err BadHead) has gives = absurd (has_never s h r has gives)
headed s h r others (Err TooLarge) has (inl long) = absurd (has_long s h r has long)
headed s h r others (Err TooLarge) has (inr refuses) = inr (inl (refused_same s TooLarge h r refuses has))
headed s h r others (Err NoLength) has gives = inr (inl (refused_same s NoLength h r gives has))
headed s h r others (Err WrongMethod) has gives = inr (inl (refused_same s WrongMethod h r gives has))
headed s h r others (Err ReadFault) has gives = inl tt
headed s h r others (Err OutOfMemory) has gives = inl tt

asked_once : (r : Result Asked WireFault) (a b : Asked) → r ≡ Ok a → r ≡ Ok b → a ≡ b
asked_once r a b one two = cc

refused_once : (r : Result Asked WireFault) (f g : WireFault) → r ≡ Err f → r ≡ Err g → f ≡ g
refused_once r f g one two = cc

not_both : (r : Result Asked WireFault) (a : Asked) (f : WireFault) → r ≡ Ok a → r ≡ Err f → ⊥
not_both r a f one two = absurd (cc)

-- two ways to part bytes at one place
same_parts : (x y u v : List ℕ) → x ++ u ≡ y ++ v → length y ≡ length x → (y ≡ x) × (v ≡ u)
same_parts x y u v whole long = (
  sym (take-append_seam y v) ∙ ap (λ n. take n (y ++ v)) long ∙ ap (take (length x)) (sym whole) ∙ take-append_seam x u,
  sym (drop-append_seam y v) ∙ ap (λ n. drop n (y ++ v)) long ∙ ap (drop (length x)) (sym whole) ∙ drop-append_seam x u,
)

request_is : (r : Result Asked WireFault) (wire w : Wire) (rest others : List ℕ) (a b : Asked) → r ≡ Ok a → length wire.body ≡ a.length → wire ≡ wire_of a wire.body
    → r ≡ Ok b → wire.body ++ rest ≡ w.body ++ others → length w.body ≡ b.length → w ≡ wire_of b w.body → (w ≡ wire) × (others ≡ rest)
request_is r wire w rest others a b asked whole is asked_too parts whole_too is_too =
    let same = asked_once r b a asked_too asked in
    let long : length w.body ≡ length wire.body = whole_too ∙ ap (λ x. x.length) same ∙ sym whole in
    let both = same_parts wire.body w.body rest others parts long in
    (is_too ∙ ap (λ x. wire_of x w.body) same ∙ ap (wire_of a) both.0 ∙ sym is, both.1)

not_short : (r : Result Asked WireFault) (body rest : List ℕ) (a b : Asked) → r ≡ Ok a → length body ≡ a.length → r ≡ Ok b → length (body ++ rest) < b.length → ⊥
not_short r body rest a b asked whole asked_too few =
    let same = ap (λ x. x.length) (asked_once r b a asked_too asked) in
    let parts = length-append body rest in
    omega (arith, same, parts, whole, few)

request_answer : (r : Result Asked WireFault) (wire : Wire) (rest others : List ℕ) (a : Asked) (result : Result Wire WireFault) → r ≡ Ok a → length wire.body ≡ a.length
    → wire ≡ wire_of a wire.body → Headed r (wire.body ++ rest) others result → IsOneOf (λ w. (w ≡ wire) × (others ≡ rest)) (λ _. ⊥) result
request_answer r wire rest others a (Ok w) asked whole is (b, asked_too, parts, whole_too, is_too) =
    request_is r wire w rest others a b asked whole is asked_too parts whole_too is_too
request_answer r wire rest others a (Err fault) asked whole is (inl outside) = inl outside
request_answer r wire rest others a (Err fault) asked whole is (inr (inl refuses)) = absurd (not_both r a fault asked refuses)
request_answer r wire rest others a (Err fault) asked whole is (inr (inr (cut, (b, asked_too, few)))) =
    absurd (not_short r wire.body rest a b asked whole asked_too few)

request : (s others : List ℕ) (result : Result Wire WireFault) → GivesRequest s others result → (wire : Wire) (rest : List ℕ) → BeginsWithRequest s wire rest
    → IsOneOf (λ w. (w ≡ wire) × (others ≡ rest)) (λ _. ⊥) result
request s others result gives wire rest is =
    let h = is.begins.0 in
    request_answer (asks h) wire rest others is.asked result is.begins.2 is.whole is.wire_is
    (headed s h (wire.body ++ rest) others result is.begins.1 gives)

-- bytes begin with one request at most
pub request_once : (s : List ℕ) (wire w : Wire) (rest others : List ℕ) → BeginsWithRequest s wire rest → BeginsWithRequest s w others → (w ≡ wire) × (others ≡ rest)
request_once s wire w rest others one two = request s others (Ok w) two wire rest one

refusal_answer : (r : Result Asked WireFault) (fault : WireFault) (rest others : List ℕ) (result : Result Wire WireFault) → r ≡ Err fault → Headed r rest others result
    → IsOneOf (λ _. ⊥) (λ f. f ≡ fault) result
refusal_answer r fault rest others (Ok w) refuses (b, asked, parts, whole, is) = not_both r b fault asked refuses
refusal_answer r fault rest others (Err f) refuses (inl outside) = inl outside
refusal_answer r fault rest others (Err f) refuses (inr (inl too)) = inr (refused_once r f fault too refuses)
refusal_answer r fault rest others (Err f) refuses (inr (inr (cut, (b, asked, few)))) = absurd (not_both r b fault asked refuses)

refused : (s others : List ℕ) (result : Result Wire WireFault) → GivesRequest s others result → (fault : WireFault) → IsRefused s fault → IsOneOf (λ _. ⊥) (λ f. f ≡ fault) result
refused s others result gives fault (h, rest, has, is) = refusal_answer (asks h) fault rest others result is (headed s h rest others result has gives)

too_few : (body others rest : List ℕ) (a b : Asked) (r : Result Asked WireFault) → r ≡ Ok a → length rest < a.length → r ≡ Ok b → rest ≡ body ++ others → length body ≡ b.length → ⊥
too_few body others rest a b r asked few asked_too parts whole =
    let same = ap (λ x. x.length) (asked_once r b a asked_too asked) in
    let long = ap length parts ∙ length-append body others in
    omega (arith, same, long, whole, few)

body_answer : (r : Result Asked WireFault) (a : Asked) (rest others : List ℕ) (result : Result Wire WireFault) → r ≡ Ok a → length rest < a.length → Headed r rest others result
    → IsOneOf (λ _. ⊥) (λ f. f ≡ Cut) result
body_answer r a rest others (Ok w) asked few (b, asked_too, parts, whole, is) = too_few w.body others rest a b r asked few asked_too parts whole
body_answer r a rest others (Err f) asked few (inl outside) = inl outside
body_answer r a rest others (Err f) asked few (inr (inl refuses)) = absurd (not_both r a f asked refuses)
body_answer r a rest others (Err f) asked few (inr (inr (cut, others_too))) = inr cut

in_body : (s others : List ℕ) (result : Result Wire WireFault) → GivesRequest s others result → IsPartOfBody s → IsOneOf (λ _. ⊥) (λ f. f ≡ Cut) result
in_body s others result gives (a, body, (h, has, is), few) = body_answer (asks h) a body others result is few (headed s h body others result has gives)

-- Bytes that begin with none.

-- the shortest head
abbrev small : RequestHead
small = record {
  blank = [];
  method = codes "G";
  target = codes "/";
  minor = 1;
  line_end = lf;
  fields = [];
  last = lf;
}

slash_ascii : IsAscii (codes "/")
slash_ascii zero = omega arith
slash_ascii (suc i) = omega arith

small_is : IsRequestHead small
unfolding httparse_on_literals
small_is = record {
  method = (omega arith, AllPass-from_list_all is_token_byte (codes "G") refl);
  target = (omega arith, AllPass-from_list_all is_uri_byte (codes "/") refl);
  target_text = IsUtf8-from_ascii (codes "/") slash_ascii;
  minor = omega arith;
  fields = All-nil _;
}

nothing_may : (s : List ℕ) → s ≡ [] → NeverHasRequest s → ⊥
nothing_may s none never = never (print_request small) small [] (small_is, ap (λ x. x ++ print_request small) none ∙ sym (append-nil (print_request small)))

begins_some : (s : List ℕ) (a : Asked) (rest : List ℕ) → Begins s a rest → s ≡ [] → ⊥
begins_some s a rest (h, has, is) none = has_some s h rest has none

refused_some : (s : List ℕ) (fault : WireFault) → IsRefused s fault → s ≡ [] → ⊥
refused_some s fault (h, rest, has, is) none = has_some s h rest has none

long_some : (s : List ℕ) → IsTooLong s → s ≡ [] → ⊥
long_some s (long, without) none = let empty = ap length none in omega (arith, long, empty)

empty : (s others : List ℕ) (result : Result Wire WireFault) → GivesRequest s others result → s ≡ [] → IsOneOf (λ _. ⊥) (λ f. f ≡ End) result
empty s others (Ok wire) gives none = begins_some s gives.asked (wire.body ++ others) gives.begins none
empty s others (Err End) gives none = inr refl
empty s others (Err Cut) (inl part) none = absurd (part.0 none)
empty s others (Err Cut) (inr (a, body, begins, few)) none = absurd (begins_some s a body begins none)
empty s others (Err BadHead) gives none = absurd (nothing_may s none gives)
empty s others (Err TooLarge) (inl long) none = absurd (long_some s long none)
empty s others (Err TooLarge) (inr refuses) none = absurd (refused_some s TooLarge refuses none)
empty s others (Err NoLength) gives none = absurd (refused_some s NoLength gives none)
empty s others (Err WrongMethod) gives none = absurd (refused_some s WrongMethod gives none)
empty s others (Err ReadFault) gives none = inl tt
empty s others (Err OutOfMemory) gives none = inl tt

begins_head : (s : List ℕ) (a : Asked) (rest : List ℕ) → Begins s a rest → HasNoRequest s → ⊥
begins_head s a rest (h, has, is) none = none h rest has.reads

refused_head : (s : List ℕ) (fault : WireFault) → IsRefused s fault → HasNoRequest s → ⊥
refused_head s fault (h, rest, has, is) none = none h rest has.reads

in_head : (s others : List ℕ) (result : Result Wire WireFault) → GivesRequest s others result → IsPartOfHead s → IsOneOf (λ _. ⊥) (λ f. (f ≡ Cut) ⊎ (f ≡ BadHead)) result
in_head s others (Ok wire) gives (some, without, short) = begins_head s gives.asked (wire.body ++ others) gives.begins without
in_head s others (Err End) gives (some, without, short) = absurd (some gives)
in_head s others (Err Cut) gives part = inr (inl refl)
in_head s others (Err BadHead) gives part = inr (inr refl)
in_head s others (Err TooLarge) (inl (long, none)) (some, without, short) = absurd (omega (arith, long, short))
in_head s others (Err TooLarge) (inr refuses) (some, without, short) = absurd (refused_head s TooLarge refuses without)
in_head s others (Err NoLength) gives (some, without, short) = absurd (refused_head s NoLength gives without)
in_head s others (Err WrongMethod) gives (some, without, short) = absurd (refused_head s WrongMethod gives without)
in_head s others (Err ReadFault) gives part = inl tt
in_head s others (Err OutOfMemory) gives part = inl tt

begins_long : (s : List ℕ) (a : Asked) (rest : List ℕ) → Begins s a rest → IsTooLong s → ⊥
begins_long s a rest (h, has, is) long = has_long s h rest has long

refused_long : (s : List ℕ) (fault : WireFault) → IsRefused s fault → IsTooLong s → ⊥
refused_long s fault (h, rest, has, is) long = has_long s h rest has long

too_long : (s others : List ℕ) (result : Result Wire WireFault) → GivesRequest s others result → IsTooLong s → IsOneOf (λ _. ⊥) (λ f. (f ≡ TooLarge) ⊎ (f ≡ BadHead)) result
too_long s others (Ok wire) gives long = begins_long s gives.asked (wire.body ++ others) gives.begins long
too_long s others (Err End) gives long = absurd (long_some s long gives)
too_long s others (Err Cut) (inl (some, without, short)) long = absurd (omega (arith, long.0, short))
too_long s others (Err Cut) (inr (a, body, begins, few)) long = absurd (begins_long s a body begins long)
too_long s others (Err BadHead) gives long = inr (inr refl)
too_long s others (Err TooLarge) gives long = inr (inl refl)
too_long s others (Err NoLength) gives long = absurd (refused_long s NoLength gives long)
too_long s others (Err WrongMethod) gives long = absurd (refused_long s WrongMethod gives long)
too_long s others (Err ReadFault) gives long = inl tt
too_long s others (Err OutOfMemory) gives long = inl tt

answer : (s others : List ℕ) (result : Result Wire WireFault) → GivesRequest s others result → AnswersBytes s others result
answer s others result gives = record {
  gives = gives;
  request = request s others result gives;
  refused = refused s others result gives;
  empty = empty s others result gives;
  in_head = in_head s others result gives;
  in_body = in_body s others result gives;
  too_long = too_long s others result gives;
}

-- Bytes that follow change nothing.

pub has_more : (s more : List ℕ) (h : RequestHead) (r : List ℕ) → HasHead s h r → HasHead (s ++ more) h (r ++ more)
has_more s more h r has = record { reads = ReadsRequest-append s h r more has.reads; short = has.short }

begins_more : (s more : List ℕ) (a : Asked) (body left : List ℕ) → Begins s a (body ++ left) → Begins (s ++ more) a (body ++ (left ++ more))
begins_more s more a body left (h, has, is) = (h, subst (HasHead (s ++ more) h) (append_assoc body left more) (has_more s more h (body ++ left) has), is)

pub request_more : (s more : List ℕ) (wire : Wire) (left : List ℕ) → BeginsWithRequest s wire left → BeginsWithRequest (s ++ more) wire (left ++ more)
request_more s more wire left is = record {
  asked = is.asked;
  begins = begins_more s more is.asked wire.body left is.begins;
  whole = is.whole;
  wire_is = is.wire_is;
}

pub refused_more : (s more : List ℕ) (fault : WireFault) → IsRefused s fault → IsRefused (s ++ more) fault
refused_more s more fault (h, rest, has, is) = (h, rest ++ more, has_more s more h rest has, is)

pub never_more : (s more : List ℕ) → NeverHasRequest s → NeverHasRequest (s ++ more)
never_more s more never = λ after h rest reads. never (more ++ after) h rest (reads.0, sym (append_assoc s more after) ∙ reads.1)

pub long_more : (s more : List ℕ) → IsTooLong s → IsTooLong (s ++ more)
long_more s more (long, none) =
    let parts = length-append s more in
    (omega (arith, long, parts), subst HasNoRequest (sym (take-append-le head_limit s more long)) none)

all_bytes : (kept u left v : List ℕ) → HasRead (Some u) (Some v) kept left → kept ++ u ≡ left ++ v
all_bytes kept u left v (read, grown, splits) = ap (λ x. kept ++ x) splits ∙ sym (append_assoc kept read v) ∙ ap (λ x. x ++ v) (sym grown)

none_left : (left v : List ℕ) → v ≡ [] → left ≡ left ++ v
none_left left v none = sym (append-nil left) ∙ ap (λ x. left ++ x) (sym none)

gives_all : (u v kept left : List ℕ) (result : Result Wire WireFault) → NextRequest (Some u) (Some v) kept left result → GivesRequest (kept ++ u) (left ++ v) result
gives_all u v kept left (Ok wire) (bytes, read, begins) =
    subst (λ x. BeginsWithRequest x wire (left ++ v)) (sym (all_bytes kept u bytes v read)) (request_more bytes v wire left begins)
gives_all u v kept left (Err End) (read, (none, at_end)) = all_bytes kept u left v read ∙ sym (none_left left v at_end) ∙ none
gives_all u v kept left (Err Cut) (read, (part, at_end)) = subst IsPart (none_left left v at_end ∙ sym (all_bytes kept u left v read)) part
gives_all u v kept left (Err BadHead) (read, never) = subst NeverHasRequest (sym (all_bytes kept u left v read)) (never_more left v never)
gives_all u v kept left (Err TooLarge) (read, inl long) = inl (subst IsTooLong (sym (all_bytes kept u left v read)) (long_more left v long))
gives_all u v kept left (Err TooLarge) (read, inr refuses) = inr (subst (λ x. IsRefused x TooLarge) (sym (all_bytes kept u left v read)) (refused_more left v TooLarge refuses))
gives_all u v kept left (Err NoLength) (read, refuses) = subst (λ x. IsRefused x NoLength) (sym (all_bytes kept u left v read)) (refused_more left v NoLength refuses)
gives_all u v kept left (Err WrongMethod) (read, refuses) = subst (λ x. IsRefused x WrongMethod) (sym (all_bytes kept u left v read)) (refused_more left v WrongMethod refuses)
gives_all u v kept left (Err ReadFault) next = tt
gives_all u v kept left (Err OutOfMemory) next = tt

-- so the answer depends on the unused bytes alone
pub answers : (before now : Option Stream) (kept left : List ℕ) (result : Result Wire WireFault) → OnlyRead before now → NextRequest (unread before) (unread now) kept left result
    → AnswersUnused (unused kept (unread before)) (unused left (unread now)) result
answers None None kept left result same next = tt
answers (Some before) (Some now) kept left result same next = answer _ _ result (gives_all (drop before.taken before.input) (drop now.taken now.input) kept left result next)
answers None (Some now) kept left result same next = absurd same
answers (Some before) None kept left result same next = absurd same

-- ---- by the record of what crossed the link

gives_why : (before now : List Crossed) (bytes : List ℕ) (fault : WireFault) → FaultsBy CameIn EndedIn before now bytes fault → GivesNone bytes fault
gives_why before now bytes End why = why.0
gives_why before now bytes Cut why = why.0
gives_why before now bytes BadHead why = why
gives_why before now bytes TooLarge why = why
gives_why before now bytes NoLength why = why
gives_why before now bytes WrongMethod why = why
gives_why before now bytes ReadFault why = tt
gives_why before now bytes OutOfMemory why = tt

-- the request is the answer for the bytes that were kept and those that came
pub crossed_request : (before now : List Crossed) (kept left : List ℕ) (wire : Wire) → NextCrossed before now kept left (Ok wire)
    → (read : List ℕ) × CameIn before read now × AnswersBytes (kept ++ read) left (Ok wire)
crossed_request before now kept left wire (bytes, (read, is, came), begins) =
    (read, came, answer (kept ++ read) left (Ok wire) (subst (λ b. BeginsWithRequest b wire left) is begins))

-- so is the fault, and if the link failed, the bytes are no whole request
pub crossed_fault : (before now : List Crossed) (kept left : List ℕ) (fault : WireFault) → NextCrossed before now kept left (Err fault)
    → (read : List ℕ) × CameIn before read now × AnswersBytes (kept ++ read) left (Err fault) × (fault ≡ ReadFault → IsUnfinished (kept ++ read))
crossed_fault before now kept left fault ((read, is, came), why) = (
  read,
  came,
  answer (kept ++ read) left (Err fault) (subst (λ b. GivesNone b fault) is (gives_why before now left fault why)),
  λ failed. subst IsUnfinished is (subst (FaultsBy CameIn EndedIn before now left) failed why),
)
