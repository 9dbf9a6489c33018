-- What is read of a stream, and what its bytes begin with.
use Rattle.std.proofs.Common.{◌≡◌, ◌≢◌, ◌==◌, true, false, ℕ, ◌+◌, ◌-◌, ◌<◌, ◌≤◌, inl, inr, List, [], ◌∷◌, ◌++◌, length, take, drop, Option, Some, None, Result, Ok, Err, refl, ap, sym, subst, ◌∙◌, arith, length-append, append-nil, slice_range, MatchResult, IsErr, IsErrAnd}
use Rattle.std.proofs.lemmas.Bool.{eqb-true}
use Rattle.std.proofs.lemmas.List.{append_assoc, take-append-drop, take_all, drop-append-le, drop-drop, length-take, length-take-le, nil_from_length}
use Rattle.std.proofs.Math.Seq.{drop-append_seam}
use Rattle.httparse.specs.Grammar.{RequestHead, print_request, HasNoRequest, NeverHasRequest}
use Rattle.httparse.specs.Spans.{IsRequestOf, span_bytes}
use Rattle.httparse.specs.declared.spans.HeaderSpan.{HeaderSpan}
use Rattle.httparse.specs.declared.spans.RequestSpans.{RequestSpans}
use Rattle.desk_io.specs.Health.{Health, HasCause}
use Rattle.desk_http.specs.Heads.{Fields, fields_at, head_limit, asked, asks, IsRefusal}
use Rattle.desk_http.specs.Reading.{Input, FoundEnd, Grows, Stops, Nexts, ReadsNone, FallsShort}
use Rattle.desk_http.specs.Requests.{Splits, HasHead, wire_of, Begins, BeginsWithRequest, IsRefused, IsPart, IsUnfinished, IsOutside}
use Rattle.desk_http.specs.declared.wire.Asked.{Asked}
use Rattle.desk_http.specs.declared.wire.Wire.{Wire}
use Rattle.desk_http.specs.declared.wire.WireFault.{WireFault}
use Rattle.desk_http.specs.declared.wire.WireFault.TheVariants.{End, Cut, BadHead, TooLarge, NoLength, WrongMethod, ReadFault, OutOfMemory}
use Rattle.desk_http.proofs.CameLaws.{came_more, ended_on}

-- a fault that is passed on
pub passed_on : {T : Type 0} (r : Result T WireFault) (fault : WireFault) (P : T → Type 0) (Q : WireFault → Type 0) → IsErr r → IsErrAnd r (λ e. e ≡ fault) → Q fault → MatchResult r P Q
passed_on (Ok t) fault P Q fails is held = cc
passed_on (Err e) fault P Q fails is held = subst Q (sym is) held

-- a call that reads nothing leaves what was read
pub grown_still : (before mid now : Input) (kept grown left : List ℕ) → Grows before mid kept grown → ReadsNone mid now grown left → Grows before now kept left
grown_still before mid now kept grown left read same =
    subst (λ later. Grows before later kept left) (sym same.0) (subst (Grows before mid kept) (sym same.1) read)

-- after bytes that are no whole request no more was read
pub outside_stops : (before mid now : Input) (kept grown left : List ℕ) (fault : WireFault) → Grows before mid kept grown → IsUnfinished grown → ReadsNone mid now grown left
    → IsOutside fault → Stops before now kept left fault
outside_stops before mid now kept grown left ReadFault read part none is = (grown_still before mid now kept grown left read none, subst IsUnfinished (sym none.1) part)
outside_stops before mid now kept grown left OutOfMemory read part none is = (grown_still before mid now kept grown left read none, tt)
outside_stops before mid now kept grown left End read part none is = absurd is
outside_stops before mid now kept grown left Cut read part none is = absurd is
outside_stops before mid now kept grown left BadHead read part none is = absurd is
outside_stops before mid now kept grown left TooLarge read part none is = absurd is
outside_stops before mid now kept grown left NoLength read part none is = absurd is
outside_stops before mid now kept grown left WrongMethod read part none is = absurd is

-- reading twice
splits_more : (before now later : Option (List ℕ)) (one two : List ℕ) → Splits before one now → Splits now two later → Splits before (one ++ two) later
splits_more None None None one two a b = tt
splits_more None None (Some later) one two a b = absurd b
splits_more None (Some now) later one two a b = absurd a
splits_more (Some before) None later one two a b = absurd a
splits_more (Some before) (Some now) None one two a b = absurd b
splits_more (Some before) (Some now) (Some later) one two a b = a ∙ ap (λ x. one ++ x) b ∙ sym (append_assoc one two later)

pub read_on : (before now later : Input) (kept grown longer : List ℕ) → Grows before now kept grown → Grows now later grown longer → Grows before later kept longer
read_on before now later kept grown longer (one, a, s) (two, b, t) = (
  one ++ two,
  b ∙ ap (λ x. x ++ two) a ∙ append_assoc kept one two,
  record {
    stream = splits_more before.unread now.unread later.unread one two s.stream t.stream;
    crossed = came_more before.crossed now.crossed later.crossed one two s.crossed t.crossed;
  },
)

-- the end that a later read found
pub found_on : (before now later : Input) (kept grown : List ℕ) → Grows before now kept grown → FoundEnd now later → FoundEnd before later
found_on before now later kept grown (read, is, s) end =
    record { stream = end.stream; crossed = ended_on before.crossed now.crossed later.crossed read s.crossed end.crossed }

pub not_shorter : (before now : Input) (kept grown : List ℕ) → Grows before now kept grown → length kept ≤ length grown
not_shorter before now kept grown (more, is, splits) = omega (arith, ap length is, length-append kept more)

still : (kept grown read : List ℕ) → grown ≡ kept ++ read → length grown ≡ length kept + 0 → grown ≡ kept
still kept grown read is same =
    let long = length-append kept read in
    let all = ap length is in
    is ∙ ap (λ x. kept ++ x) (nil_from_length read (omega (arith, long, all, same))) ∙ append-nil kept

pub none_read : (before now : Input) (kept grown : List ℕ) → Grows before now kept grown → length grown ≡ length kept + 0 → grown ≡ kept
none_read before now kept grown some counted = still kept grown some.0 some.1 counted

-- bytes that begin with a front go on after it
after_front : (p r d s : List ℕ) → s ≡ p ++ r ++ d → s ≡ p ++ drop (length p) s
after_front p r d s e =
    let q : s ≡ p ++ (r ++ d) = e ∙ append_assoc p r d in
    q ∙ ap (λ x. p ++ x) (sym (ap (drop (length p)) q ∙ drop-append_seam p (r ++ d)))

asked_same : (m m' t t' : List ℕ) (v v' : ℕ) (f f' : Fields) → m ≡ m' → t ≡ t' → v ≡ v' → f ≡ f' → asked m t v f ≡ asked m' t' v' f'
asked_same m m' t t' v v' f f' a b c d = cc

-- the spans of a head say what it asks for
abbrev pub spans_ask : List ℕ → List HeaderSpan → RequestSpans → Result Asked WireFault
spans_ask bytes spans head = asked (span_bytes bytes head.method) (span_bytes bytes head.path) head.version (fields_at bytes (take head.headers spans))

-- what the first bytes begin with, all of them do
pub record Found (s : List ℕ) (spans : List HeaderSpan) (head : RequestSpans) (r : Result Asked WireFault) : Type 0 where
  pub is : RequestHead
  pub has : HasHead s is (drop head.len s)
  pub asks_is : asks is ≡ r
  pub within : head.len ≤ length s
  pub short : head.len ≤ head_limit

found : (s : List ℕ) (spans : List HeaderSpan) (head : RequestSpans) (r : Result Asked WireFault) → IsRequestOf (take head_limit s) spans head
    → r ≡ spans_ask (take head_limit s) spans head → Found s spans head r
found s spans head r (h, at) is =
    let t = take head_limit s in
    let p = print_request h in
    let whole : s ≡ p ++ drop head.len t ++ drop head_limit s = sym (take-append-drop head_limit s) ∙ ap (λ x. x ++ drop head_limit s) at.reads.1 in
    let front : s ≡ p ++ drop (length p) s = after_front p (drop head.len t) (drop head_limit s) s whole in
    let here : s ≡ p ++ drop head.len s = subst (λ n. s ≡ p ++ drop n s) (sym at.len) front in
    let parts = ap length at.reads.1 ∙ length-append p (drop head.len t) in
    let all = ap length front ∙ length-append p (drop (length p) s) in
    let least = length-take head_limit s in
    let len = at.len in
    record {
      is = h;
      has = record { reads = (at.reads.0, here); short = omega (arith, parts, least) };
      asks_is = sym (is ∙ asked_same _ _ _ _ _ _ _ _ at.method at.path at.version at.fields);
      within = omega (arith, all, len);
      short = omega (arith, parts, least, len);
    }

pub found_by : (s t u : List ℕ) (spans : List HeaderSpan) (head : RequestSpans) (r given : Result Asked WireFault) → t ≡ take head_limit u → u ≡ s
    → given ≡ spans_ask t spans head → given ≡ r → IsRequestOf (take head_limit s) spans head → Found s spans head r
found_by s t u spans head r given front all is same at = found s spans head r at (sym same ∙ is ∙ ap (λ b. spans_ask b spans head) (front ∙ ap (take head_limit) all))

pub begun : (s : List ℕ) (spans : List HeaderSpan) (head : RequestSpans) (a : Asked) → Found s spans head (Ok a) → Begins s a (drop head.len s)
begun s spans head a f = (f.is, f.has, f.asks_is)

pub refused : (s : List ℕ) (spans : List HeaderSpan) (head : RequestSpans) (fault : WireFault) → Found s spans head (Err fault) → IsRefused s fault
refused s spans head fault f = (f.is, drop head.len s, f.has, f.asks_is)

-- where the first bytes never make a head, neither do all
pub never : (s : List ℕ) → NeverHasRequest (take head_limit s) → NeverHasRequest s
never s without = λ more h rest reads.
    without (drop head_limit s ++ more) h rest
    (reads.0, sym (append_assoc (take head_limit s) (drop head_limit s) more) ∙ ap (λ x. x ++ more) (take-append-drop head_limit s) ∙ reads.1)

-- few bytes that hold no head are part of one
pub part_of_head : (s : List ℕ) → HasNoRequest (take head_limit s) → length s < head_limit → s ≢ [] → IsPart s
part_of_head s without few some = inl (some, subst HasNoRequest (take_all head_limit s (omega (arith, few))) without, few)

-- few bytes that hold no head are none, or part of one
pub unfinished_head : (s : List ℕ) → HasNoRequest (take head_limit s) → length s < head_limit → IsUnfinished s
unfinished_head [] without few = inl refl
unfinished_head (x ∷ xs) without few = inr (part_of_head (x ∷ xs) without few (λ e. absurd (cc)))

pub nonempty : (xs : List ℕ) → false ≡ (length xs == 0) → xs ≢ []
nonempty [] is = absurd (cc)
nonempty (x ∷ xs) is = λ e. absurd (cc)

pub empty_is : (xs : List ℕ) → (length xs == 0) ≡ true → xs ≡ []
empty_is xs is = nil_from_length xs (eqb-true (length xs) 0 is)

-- bytes that follow don't change what others begin with
begins_more : (s more : List ℕ) (n : ℕ) (a : Asked) → Begins s a (drop n s) → n ≤ length s → Begins (s ++ more) a (drop n (s ++ more))
begins_more s more n a (h, has, is) within = (
  h,
  record {
    reads = (has.reads.0, ap (λ x. x ++ more) has.reads.1 ∙ append_assoc (print_request h) (drop n s) more ∙ ap (λ x. print_request h ++ x) (sym (drop-append-le n s more within)));
    short = has.short;
  },
  is,
)

pub begins_on : (now later : Input) (s longer : List ℕ) (n : ℕ) (a : Asked) → Grows now later s longer → Begins s a (drop n s) → n ≤ length s
    → Begins longer a (drop n longer)
begins_on now later s longer n a (more, is, splits) begins within = subst (λ x. Begins x a (drop n x)) (sym is) (begins_more s more n a begins within)

-- fewer bytes than head and body have are part of them
pub part_of_body : (s : List ℕ) (n : ℕ) (a : Asked) → Begins s a (drop n s) → n ≤ length s → length s < n + a.length → IsPart s
part_of_body s n a begins within few =
    let long = ap length (take-append-drop n s) in
    let parts = length-append (take n s) (drop n s) in
    let front = length-take-le n s within in
    inr (a, drop n s, begins, omega (arith, long, parts, front, few))

-- a head was read, and not all of its body
pub short_stops : (before mid now : Input) (kept grown left : List ℕ) (start : ℕ) (a : Asked) (fault : WireFault) → Grows before mid kept grown → Begins grown a (drop start grown)
    → start ≤ length grown → Grows mid now grown left → FallsShort (start + a.length) left fault → Stops before now kept left fault
short_stops before mid now kept grown left start a ReadFault read begins within more few =
    let longer = not_shorter mid now grown left more in
    (read_on before mid now kept grown left read more, inr (part_of_body left start a (begins_on mid now grown left start a more begins within) (omega (arith, within, longer)) few))
short_stops before mid now kept grown left start a OutOfMemory read begins within more short = (read_on before mid now kept grown left read more, tt)
short_stops before mid now kept grown left start a End read begins within more short = absurd short
short_stops before mid now kept grown left start a Cut read begins within more short = absurd short
short_stops before mid now kept grown left start a BadHead read begins within more short = absurd short
short_stops before mid now kept grown left start a TooLarge read begins within more short = absurd short
short_stops before mid now kept grown left start a NoLength read begins within more short = absurd short
short_stops before mid now kept grown left start a WrongMethod read begins within more short = absurd short

-- memory ran out after these bytes were read
pub memory_next : (before now : Input) (kept left : List ℕ) (r : Result Wire WireFault) → Grows before now kept left → IsErr r → IsErrAnd r (λ e. e ≡ OutOfMemory)
    → Nexts before now kept left r
memory_next before now kept left (Ok wire) read fails is = cc
memory_next before now kept left (Err fault) read fails is = subst (Stops before now kept left) (sym is) (read, tt)

-- where all bytes are there, they are the request and then others
pub whole_request : (s : List ℕ) (n : ℕ) (a : Asked) (wire : Wire) (left : List ℕ) → Begins s a (drop n s) → n ≤ length s → n + a.length ≤ length s
    → wire ≡ wire_of a (slice_range s n (n + a.length)) → left ≡ drop (n + a.length) s → BeginsWithRequest s wire left
whole_request s n a wire left begins within all is rest =
    let count : n + a.length - n ≡ a.length = omega arith in
    let body : wire.body ≡ take a.length (drop n s) = ap (λ w. w.body) is ∙ ap (λ k. take k (drop n s)) count in
    let after : left ≡ drop a.length (drop n s) = rest ∙ sym (drop-drop a.length n s) in
    let both : drop n s ≡ wire.body ++ left = sym (take-append-drop a.length (drop n s)) ∙ ap (λ x. x ++ drop a.length (drop n s)) (sym body) ∙ ap (λ x. wire.body ++ x) (sym after) in
    let long = ap length (take-append-drop n s) in
    let parts = length-append (take n s) (drop n s) in
    let front = length-take-le n s within in
    let room : a.length ≤ length (drop n s) = omega (arith, long, parts, front, all) in
    record {
      asked = a;
      begins = subst (λ x. Begins s a x) both begins;
      whole = ap length body ∙ length-take-le a.length (drop n s) room;
      wire_is = is ∙ ap (λ x. wire_of a x) (sym (ap (λ w. w.body) is));
    }

-- a head that is refused, and the bytes that were read of it
pub refusal_stops : (before now : Input) (kept grown : List ℕ) (fault : WireFault) → Grows before now kept grown → IsRefused grown fault → IsRefusal fault
    → Stops before now kept grown fault
refusal_stops before now kept grown WrongMethod read refuses is = (read, refuses)
refusal_stops before now kept grown NoLength read refuses is = (read, refuses)
refusal_stops before now kept grown TooLarge read refuses is = (read, inr refuses)
refusal_stops before now kept grown End read refuses is = absurd is
refusal_stops before now kept grown Cut read refuses is = absurd is
refusal_stops before now kept grown BadHead read refuses is = absurd is
refusal_stops before now kept grown ReadFault read refuses is = absurd is
refusal_stops before now kept grown OutOfMemory read refuses is = absurd is

pub refusal_cause : {T : Type 0} (before after : Health) (fault : WireFault) → IsRefusal fault → HasCause {T = T} ReadFault before after (Err fault)
refusal_cause before after fault is = λ e. let same : fault ≡ ReadFault = cc in absurd (subst IsRefusal same is)
