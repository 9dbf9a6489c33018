-- What a call of a link that reads did to it.
use Rattle.std.proofs.Common.{◌≡◌, ℕ, List, [], ◌∷◌, ◌++◌, length, take, drop, Option, Some, None, Result, Ok, Err, refl, ap, sym, ◌∙◌, arith, append-nil, IfOk}
use Rattle.std.specs.Prelude.{OnErr}
use Rattle.std.proofs.lemmas.List.{take-append-drop, drop-drop, drop_all}
use Rattle.desk_net.specs.Crossing.{Receives}
use Rattle.desk_net.specs.Seen.{LinkSeen}
use Rattle.desk_net.specs.Streams.{Stream, Reads, TakesNext, unread, OnlyRead}
use Rattle.desk_net.specs.declared.crossed.Crossed.{Crossed}
use Rattle.desk_net.specs.declared.crossed.Crossed.TheVariants.{Came}
use Rattle.desk_http.specs.Reading.{Input, input_of, IsRead, FoundEnd}
use Rattle.desk_http.specs.Received.{CameIn}
use Rattle.desk_http.specs.Requests.{Splits, AtEnd}

took : (old new : Stream) (n : ℕ) (into : List ℕ) → TakesNext old new n into → drop old.taken old.input ≡ take n into ++ drop new.taken new.input
took old new n into is =
    let rest : drop n (drop old.taken old.input) ≡ drop new.taken new.input = drop-drop n old.taken old.input ∙ sym (ap (λ k. drop k old.input) is.taken) ∙ sym (ap (drop new.taken) is.input) in
    sym (take-append-drop n (drop old.taken old.input)) ∙ ap (λ x. x ++ drop n (drop old.taken old.input)) (sym is.given.given) ∙ ap (λ x. take n into ++ x) rest

given : {E : Type 0} (old new : Option Stream) (into : List ℕ) (r : Result ℕ E) → Reads old new into r → IfOk r (λ n. Splits (unread old) (take n into) (unread new))
given None None into (Ok n) is = tt
given (Some old) (Some new) into (Ok n) is = took old new n into is
given None (Some new) into (Ok n) is = absurd is
given (Some old) None into (Ok n) is = absurd is
given old new into (Err e) is = tt

ended : (old new : Stream) (n : ℕ) (into : List ℕ) → TakesNext old new n into → n ≡ 0 → drop new.taken new.input ≡ []
ended old new n into is none =
    let few = is.given.at_end none in
    let same = ap length is.input in
    drop_all new.taken new.input (omega (arith, few, same, is.taken))

at_end : {E : Type 0} (old new : Option Stream) (into : List ℕ) (r : Result ℕ E) → Reads old new into r → IfOk r (λ n. n ≡ 0 → AtEnd (unread new))
at_end None None into (Ok n) is = λ none. tt
at_end (Some old) (Some new) into (Ok n) is = ended old new n into is
at_end None (Some new) into (Ok n) is = absurd is
at_end (Some old) None into (Ok n) is = absurd is
at_end old new into (Err e) is = tt

-- a read that failed left what is unread
stays : {E : Type 0} (old new : Option Stream) (into : List ℕ) (r : Result ℕ E) → Reads old new into r → OnErr r (unread new ≡ unread old)
stays old new into (Ok n) is = tt
stays None None into (Err e) is = refl
stays (Some old) (Some new) into (Err e) is = ap (λ (s : Stream). Some (drop s.taken s.input)) is
stays None (Some new) into (Err e) is = absurd is
stays (Some old) None into (Err e) is = absurd is

came_piece : (old new : List Crossed) (piece : List ℕ) → new ≡ old ++ Came piece ∷ [] → CameIn old piece new
came_piece old new piece is = record { entries = Came piece ∷ []; added = is; came_all = (tt, tt); read_is = sym (append-nil piece) }

pub is_read : {E : Type 0} (old new : LinkSeen) (into : List ℕ) (r : Result ℕ E) → Reads old.stream new.stream into r → Receives old.crossed new.crossed into r
    → IfOk r (λ n. IsRead (input_of old) (take n into) (input_of new))
is_read old new into (Ok n) told crossed = record { stream = given old.stream new.stream into (Ok n) told; crossed = came_piece old.crossed new.crossed (take n into) crossed }
is_read old new into (Err e) told crossed = tt

pub found_end : {E : Type 0} (old new : LinkSeen) (into : List ℕ) (r : Result ℕ E) → Reads old.stream new.stream into r → Receives old.crossed new.crossed into r
    → IfOk r (λ n. n ≡ 0 → FoundEnd (input_of old) (input_of new))
found_end old new into (Ok n) told crossed = λ none. record {
  stream = at_end old.stream new.stream into (Ok n) told none;
  crossed = ([], crossed ∙ ap (λ k. old.crossed ++ Came (take k into) ∷ []) none);
}
found_end old new into (Err e) told crossed = tt

abbrev input : Option (List ℕ) → List Crossed → Input
input unread crossed = record { unread = unread; crossed = crossed }

same_input : (a b : Option (List ℕ)) (x y : List Crossed) → a ≡ b → x ≡ y → input a x ≡ input b y
same_input a b x y one two = ap (λ u. input u x) one ∙ ap (input b) two

pub input_stays : {E : Type 0} (old new : LinkSeen) (into : List ℕ) (r : Result ℕ E) → Reads old.stream new.stream into r → Receives old.crossed new.crossed into r
    → OnErr r (input_of new ≡ input_of old)
input_stays old new into (Ok n) told crossed = tt
input_stays old new into (Err e) told crossed = same_input (unread new.stream) (unread old.stream) new.crossed old.crossed (stays old.stream new.stream into (Err e) told) crossed

pub only : {E : Type 0} (old new : Option Stream) (into : List ℕ) (r : Result ℕ E) → Reads old new into r → OnlyRead old new
only None None into r is = tt
only (Some old) (Some new) into (Ok n) is = (is.input, is.written)
only (Some old) (Some new) into (Err e) is = (ap (λ w. w.input) is, ap (λ w. w.written) is)
only None (Some new) into r is = absurd is
only (Some old) None into r is = absurd is

pub only_on : (before now later : Option Stream) → OnlyRead before now → OnlyRead now later → OnlyRead before later
only_on None None None a b = tt
only_on None None (Some later) a b = absurd b
only_on None (Some now) later a b = absurd a
only_on (Some before) None later a b = absurd a
only_on (Some before) (Some now) None a b = absurd b
only_on (Some before) (Some now) (Some later) a b = (b.0 ∙ a.0, b.1 ∙ a.1)
