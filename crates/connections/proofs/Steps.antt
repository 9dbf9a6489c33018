-- One step of a connection.
use Rattle.std.proofs.Common.{◌≡◌, ℕ, ◌⊎◌, Bool, true, List, [], ◌∷◌, ◌++◌, Option, Some, None, Result, Ok, Err, inl, inr, refl, ap, sym, subst, ◌∙◌, append-nil, append_assoc}
use Rattle.desk_http.specs.Requests.{AnswersUnused, BeginsWithRequest, EndsBy, GivesNone, IsUnfinished, Splits, unused}
use Rattle.desk_http.specs.declared.wire.Wire.{Wire}
use Rattle.desk_http.specs.declared.wire.WireFault.{WireFault}
use Rattle.desk_http.specs.declared.wire.WireFault.TheVariants as fault
use Rattle.desk_io.specs.declared.faults.PutFault.{PutFault}
use Rattle.desk_io.specs.declared.faults.PutFault.TheVariants.{Failed}
use Rattle.desk_net.specs.Streams.{OnlyRead, Stream, Writes, unread}
use Rattle.connections.specs.Connections.{Answered, Answers, AreRequests, AsksCall, ClockFailed, EndsConnection, FoundNoMemory, IsConnection, IsFrontOf, IsMidRequest, IsStep, IsWritten, Kind, Last, OnBoth, OnTold, RanOut, out_of_memory_answer, clock_fault_answer}
use Rattle.connections.specs.Crossed.{IfNoMore}
use Rattle.connections.specs.Writing.{Ends, EndsAs, EndsWithout, WritesAll, WritesAnswer, Wrote}
use Rattle.connections.specs.declared.answers.Unanswered.{Unanswered}
use Rattle.connections.specs.declared.answers.Unanswered.TheVariants as why
use Rattle.connections.specs.declared.serving.Served.{Served}
use Rattle.connections.specs.declared.serving.Served.TheVariants as served
use Rattle.connections.proofs.Lines.{gains_all, wrote_after, wrote_as, wrote_front}

-- ---- the answer that ends a connection

pub ends_whole : {T : Type 0} (old new : Option Stream) (text : List ℕ) (x : T) (rose : Type 0) (how : Served) → Writes old new text (Ok x) → Wrote old new (EndsAs rose how text how)
ends_whole old new text x rose how is = (text, gains_all old new text x is, inl (refl, inl refl))

pub ends_front : (T : Type 0) (old new : Option Stream) (text : List ℕ) (f : PutFault) (rose : Type 0) (how : Served) → f ≡ Failed → Writes {T = T} old new text (Err f) → rose
    → Wrote old new (EndsAs rose how text how)
ends_front T old new text f rose how failed is risen =
    wrote_as old new (IsFrontOf text) (EndsAs rose how text how) (λ piece front. inl (refl, inr (risen, front)))
    (wrote_front T old new text (subst (λ e. Writes {T = T} old new text (Err e)) failed is))

-- a response whose writing failed
pub fails_front : (T : Type 0) (old new : Option Stream) (text : List ℕ) (f : PutFault) (rose : Type 0) → f ≡ Failed → Writes {T = T} old new text (Err f) → rose
    → Wrote old new (λ piece. rose × IsFrontOf text piece)
fails_front T old new text f rose failed is risen =
    wrote_as old new (IsFrontOf text) (λ piece. rose × IsFrontOf text piece) (λ piece front. (risen, front)) (wrote_front T old new text (subst (λ e. Writes {T = T} old new text (Err e)) failed is))

pub without_as : (old new : Option Stream) (rose : Type 0) (f wanted : WireFault) (how : Served) → f ≡ wanted → Wrote old new (EndsWithout rose wanted how) → Wrote old new (EndsWithout rose f how)
without_as old new rose f wanted how is wrote = subst (λ (e : WireFault). Wrote old new (EndsWithout rose e how)) (sym is) wrote

-- ---- what was written, where the link may have failed before

written_last : (rose : Type 0) (how : Served) (piece : List ℕ) → EndsAs rose served.OutOfMemory out_of_memory_answer how piece → IsWritten rose out_of_memory_answer piece ⊎ FoundNoMemory piece
written_last rose how piece (inl (is, written)) = inl written
written_last rose how piece (inr (is, none)) = inr none

last_is : (rose : Type 0) (how : Served) (piece : List ℕ) → EndsAs rose served.OutOfMemory out_of_memory_answer how piece → how ≡ served.OutOfMemory
last_is rose how piece (inl (is, written)) = is
last_is rose how piece (inr (is, none)) = is

pub written_more : (rose link : Type 0) (text piece : List ℕ) → (rose → link) → IsWritten rose text piece → IsWritten link text piece
written_more rose link text piece more (inl whole) = inl whole
written_more rose link text piece more (inr (failed, front)) = inr (more failed, front)

pub written_or : (rose link : Type 0) (text piece : List ℕ) → (rose → link) → IsWritten rose text piece ⊎ FoundNoMemory piece → IsWritten link text piece ⊎ FoundNoMemory piece
written_or rose link text piece more (inl written) = inl (written_more rose link text piece more written)
written_or rose link text piece more (inr none) = inr none

-- ---- no further request

told_none : (bytes others : Option (List ℕ)) (f : WireFault) → AnswersUnused bytes others (Err f) → OnTold bytes (λ b. GivesNone b f)
told_none None None f answers = tt
told_none (Some bytes) (Some others) f answers = answers.gives
told_none None (Some others) f answers = absurd answers
told_none (Some bytes) None f answers = absurd answers

-- a read failed while what was read was no whole request
stops : (before now : Option (List ℕ)) (kept left read : List ℕ) → left ≡ kept ++ read → Splits before read now → IsUnfinished left → IsMidRequest (unused kept before) now
stops None None kept left read grown splits part = tt
stops (Some before) (Some now) kept left read grown splits part = (left, ap (λ x. kept ++ x) splits ∙ sym (append_assoc kept read now) ∙ ap (λ x. x ++ now) (sym grown), part)
stops None (Some now) kept left read grown splits part = absurd splits
stops (Some before) None kept left read grown splits part = absurd splits

pub stops_reading : (before now rest : Option (List ℕ)) (kept left : List ℕ) (f : WireFault) → rest ≡ now → f ≡ fault.ReadFault → EndsBy before now kept left f → IsMidRequest (unused kept before) rest
stops_reading before now rest kept left f same is ends =
    let stop : EndsBy before now kept left fault.ReadFault = subst (EndsBy before now kept left) is ends in
    subst (IsMidRequest (unused kept before)) (sym same) (stops before now kept left stop.0.0 stop.0.1 stop.0.2 stop.1)

pub more_as : {X : Type 0} (how wanted : Served) (more : List X) (P : Type 0) → how ≡ wanted → IfNoMore wanted more P → IfNoMore how more P
more_as how wanted more P is out = subst (λ (e : Served). IfNoMore e more P) (sym is) out

module _ {X : Type 0} (k : Kind X) (goes : List X → Last → Type 0) where
  -- ---- a connection that ends with nothing more that was answered whole

  same_both : (bytes : Option (List ℕ)) → OnBoth bytes bytes (λ b l. AreRequests k b [] l)
  same_both None = tt
  same_both (Some bytes) = refl

  bare : (link : Type 0) (bytes rest : Option (List ℕ)) (last : Last) (how wanted : Served) (piece : List ℕ) → how ≡ wanted → goes [] last → EndsConnection k link [] last bytes rest wanted piece
      → IsConnection k goes link bytes rest how piece
  bare link bytes rest last how wanted piece is goes_on ends = subst (λ (e : Served). IsConnection k goes link bytes rest e piece) (sym is) (record {
    xs = [];
    more = [];
    last = last;
    left = bytes;
    piece = piece;
    requests = same_both bytes;
    going = tt;
    goes_on = goes_on;
    says = refl;
    ends = ends;
  })

  -- the answer to a fault was written, or there was no memory for it
  bare_as : (link rose : Type 0) (bytes rest : Option (List ℕ)) (last : Last) (wanted : Served) (text : List ℕ) (how : Served) (piece : List ℕ) → (rose → link) → goes [] last
      → (IsWritten link text piece → EndsConnection k link [] last bytes rest wanted piece) → (FoundNoMemory piece → EndsConnection k link [] last bytes rest served.OutOfMemory piece)
      → EndsAs rose wanted text how piece → IsConnection k goes link bytes rest how piece
  bare_as link rose bytes rest last wanted text how piece more goes_on ends none (inl (is, written)) = bare link bytes rest last how wanted piece is goes_on (ends (written_more rose link text piece more written))
  bare_as link rose bytes rest last wanted text how piece more goes_on ends none (inr (is, found)) = bare link bytes rest last how served.OutOfMemory piece is goes_on (none found)

  no_memory : (link : Type 0) (bytes rest : Option (List ℕ)) (piece : List ℕ) → FoundNoMemory piece → EndsConnection k link [] Answered bytes rest served.OutOfMemory piece
  no_memory link bytes rest piece found = (inl (refl, inl refl), inr found)

  pub ends_without : (link rose : Type 0) (f : WireFault) (bytes others rest : Option (List ℕ)) (how : Served) (piece : List ℕ) → goes [] Answered → (rose → link)
      → (f ≡ fault.ReadFault → link × IsMidRequest bytes rest) → AnswersUnused bytes others (Err f) → EndsWithout rose f how piece → IsConnection k goes link bytes rest how piece
  ends_without link rose fault.End bytes others rest how piece goes_on more read answers (is, none) =
      bare link bytes rest Answered how served.Ended piece is goes_on (inl ((refl, refl), told_none bytes others fault.End answers, none))
  ends_without link rose fault.Cut bytes others rest how piece goes_on more read answers (is, none) =
      bare link bytes rest Answered how served.Cut piece is goes_on ((refl, refl), told_none bytes others fault.Cut answers, none)
  ends_without link rose fault.ReadFault bytes others rest how piece goes_on more read answers (is, none) =
      bare link bytes rest Answered how served.ReadFault piece is goes_on ((refl, refl), (read refl).0, (read refl).1, none)
  ends_without link rose fault.BadHead bytes others rest how piece goes_on more read answers ends =
      bare_as link rose bytes rest Answered served.BadHead _ how piece more goes_on (λ written. ((refl, refl), told_none bytes others fault.BadHead answers, written)) (no_memory link bytes rest piece) ends
  ends_without link rose fault.TooLarge bytes others rest how piece goes_on more read answers ends =
      bare_as link rose bytes rest Answered served.TooLarge _ how piece more goes_on (λ written. ((refl, refl), told_none bytes others fault.TooLarge answers, written)) (no_memory link bytes rest piece) ends
  ends_without link rose fault.NoLength bytes others rest how piece goes_on more read answers ends =
      bare_as link rose bytes rest Answered served.NoLength _ how piece more goes_on (λ written. ((refl, refl), told_none bytes others fault.NoLength answers, written)) (no_memory link bytes rest piece) ends
  ends_without link rose fault.WrongMethod bytes others rest how piece goes_on more read answers ends =
      bare_as link rose bytes rest Answered served.WrongMethod _ how piece more goes_on (λ written. ((refl, refl), told_none bytes others fault.WrongMethod answers, written)) (no_memory link bytes rest piece) ends
  ends_without link rose fault.OutOfMemory bytes others rest how piece goes_on more read answers ends =
      bare link bytes rest Answered how served.OutOfMemory piece (last_is rose how piece ends) goes_on
      (inl (refl, inl refl), written_or rose link out_of_memory_answer piece more (written_last rose how piece ends))

  -- the same of what was written
  pub served_without : (old mid new : Option Stream) (link rose : Type 0) (f : WireFault) (bytes others rest : Option (List ℕ)) (how : Served) → goes [] Answered → OnlyRead old mid → (rose → link)
      → (f ≡ fault.ReadFault → link × IsMidRequest bytes rest) → AnswersUnused bytes others (Err f) → Wrote mid new (EndsWithout rose f how) → Wrote old new (IsConnection k goes link bytes rest how)
  served_without old mid new link rose f bytes others rest how goes_on only more read answers wrote =
      wrote_after old mid new (EndsWithout rose f how) (IsConnection k goes link bytes rest how) only
      (λ piece ends. ends_without link rose f bytes others rest how piece goes_on more read answers ends) wrote

  -- ---- a request that was read

  -- it is the first of the bytes
  one_request : (bytes others : Option (List ℕ)) (wire : Wire) (x : X) → k.wire x ≡ wire → AnswersUnused bytes others (Ok wire) → OnBoth bytes others (λ b l. AreRequests k b (x ∷ []) l)
  one_request None None wire x is answers = tt
  one_request (Some bytes) (Some others) wire x is answers = (others, subst (λ (w : Wire). BeginsWithRequest bytes w others) (sym is) answers.gives, refl)
  one_request None (Some others) wire x is answers = absurd answers
  one_request (Some bytes) None wire x is answers = absurd answers

  asks_call : (bytes others : Option (List ℕ)) (wire : Wire) → AnswersUnused bytes others (Ok wire) → k.calls wire ≡ true → OnTold bytes (AsksCall k)
  asks_call None None wire answers call = tt
  asks_call (Some bytes) (Some others) wire answers call = (wire, others, answers.gives, call)
  asks_call None (Some others) wire answers call = absurd answers
  asks_call (Some bytes) None wire answers call = absurd answers

  -- a request more was answered, and its response isn't known to be written whole
  one_more : (link : Type 0) (wire : Wire) (x : X) (bytes others rest : Option (List ℕ)) (how : Served) (piece : List ℕ) → k.wire x ≡ wire → AnswersUnused bytes others (Ok wire) → goes (x ∷ []) Answered
      → EndsConnection k link (x ∷ []) Answered others rest how piece → IsConnection k goes link bytes rest how piece
  one_more link wire x bytes others rest how piece is answers goes_on ends = record {
    xs = [];
    more = x ∷ [];
    last = Answered;
    left = others;
    piece = piece;
    requests = one_request bytes others wire x is answers;
    going = tt;
    goes_on = goes_on;
    says = refl;
    ends = ends;
  }

  -- a response was written, or a front of it
  serves_answered : (link : Type 0) (wire : Wire) (x : X) (bytes others rest : Option (List ℕ)) (result : Option Served) (piece : List ℕ) → k.wire x ≡ wire → AnswersUnused bytes others (Ok wire)
      → goes (x ∷ []) Answered → WritesAll link (k.text x) wire.last result piece → IsStep k goes link bytes others rest result piece
  serves_answered link wire x bytes others rest None piece is answers goes_on (open_, whole) = record {
    xs = x ∷ [];
    requests = one_request bytes others wire x is answers;
    going = (ap (λ (w : Wire). w.last) is ∙ open_, tt);
    goes_on = goes_on;
    says = whole ∙ sym (append-nil (k.text x));
  }
  serves_answered link wire x bytes others rest (Some served.Ended) piece is answers goes_on (last, whole) =
      one_more link wire x bytes others rest served.Ended piece is answers goes_on (inr (x, (refl, refl), ap (λ (w : Wire). w.last) is ∙ last, whole))
  serves_answered link wire x bytes others rest (Some served.WriteFault) piece is answers goes_on (rose, front) =
      one_more link wire x bytes others rest served.WriteFault piece is answers goes_on (rose, (x, (refl, refl), front))
  serves_answered link wire x bytes others rest (Some served.OutOfMemory) piece is answers goes_on none =
      one_more link wire x bytes others rest served.OutOfMemory piece is answers goes_on (inr (x, (refl, refl)), inr none)
  serves_answered link wire x bytes others rest (Some served.Cut) piece is answers goes_on never = absurd never
  serves_answered link wire x bytes others rest (Some served.BadHead) piece is answers goes_on never = absurd never
  serves_answered link wire x bytes others rest (Some served.TooLarge) piece is answers goes_on never = absurd never
  serves_answered link wire x bytes others rest (Some served.NoLength) piece is answers goes_on never = absurd never
  serves_answered link wire x bytes others rest (Some served.WrongMethod) piece is answers goes_on never = absurd never
  serves_answered link wire x bytes others rest (Some served.ReadFault) piece is answers goes_on never = absurd never
  serves_answered link wire x bytes others rest (Some served.ClockFault) piece is answers goes_on never = absurd never

  -- memory ran out, and the answer to that was written
  serves_last : (link : Type 0) (wire : Wire) (bytes others rest : Option (List ℕ)) (how : Served) (piece : List ℕ) → how ≡ served.OutOfMemory → AnswersUnused bytes others (Ok wire)
      → Answers k goes wire (Err why.OutOfMemory) → IsWritten link out_of_memory_answer piece ⊎ FoundNoMemory piece → IsConnection k goes link bytes rest how piece
  serves_last link wire bytes others rest how piece is answers (inl nothing) front = bare link bytes rest Answered how served.OutOfMemory piece is nothing (inl (refl, inl refl), front)
  serves_last link wire bytes others rest how piece is answers (inr (inl (call, ran_out))) front =
      bare link bytes rest RanOut how served.OutOfMemory piece is ran_out (inl (refl, inr (asks_call bytes others wire answers call)), front)
  serves_last link wire bytes others rest how piece is answers (inr (inr (x, same, goes_on))) front =
      subst (λ (e : Served). IsConnection k goes link bytes rest e piece) (sym is) (one_more link wire x bytes others rest served.OutOfMemory piece same answers goes_on (inr (x, (refl, refl)), front))

  -- the clock failed, and the answer to that was written
  clock_ends : (link : Type 0) (wire : Wire) (bytes others rest : Option (List ℕ)) (how : Served) (piece : List ℕ) → AnswersUnused bytes others (Ok wire) → k.calls wire ≡ true → goes [] ClockFailed
      → EndsAs link served.ClockFault clock_fault_answer how piece → IsConnection k goes link bytes rest how piece
  clock_ends link wire bytes others rest how piece answers call failed (inl (is, written)) =
      bare link bytes rest ClockFailed how served.ClockFault piece is failed (refl, refl, asks_call bytes others wire answers call, written)
  clock_ends link wire bytes others rest how piece answers call failed (inr (is, none)) =
      bare link bytes rest ClockFailed how served.OutOfMemory piece is failed (inl (refl, inr (asks_call bytes others wire answers call)), inr none)

  pub serves_step : (link : Type 0) (wire : Wire) (answered : Result (List ℕ) Unanswered) (bytes others rest : Option (List ℕ)) (result : Option Served) (piece : List ℕ) → AnswersUnused bytes others (Ok wire)
      → Answers k goes wire answered → WritesAnswer link answered wire.last result piece → IsStep k goes link bytes others rest result piece
  serves_step link wire (Ok text) bytes others rest result piece answers (x, is, same, goes_on) writes =
      serves_answered link wire x bytes others rest result piece is answers goes_on (subst (λ (t : List ℕ). WritesAll link t wire.last result piece) same writes)
  serves_step link wire (Err why.ClockFault) bytes others rest None piece answers failed never = absurd never
  serves_step link wire (Err why.ClockFault) bytes others rest (Some how) piece answers (call, failed) ends =
      clock_ends link wire bytes others rest how piece answers call failed ends
  serves_step link wire (Err why.OutOfMemory) bytes others rest None piece answers stepped never = absurd never
  serves_step link wire (Err why.OutOfMemory) bytes others rest (Some how) piece answers stepped ends =
      serves_last link wire bytes others rest how piece (last_is link how piece ends) answers stepped (written_last link how piece ends)

  -- an answered request that ended the connection was its last one
  pub answered_out : (link : Type 0) (wire : Wire) (answered : Result (List ℕ) Unanswered) (bytes others rest : Option (List ℕ)) (how : Served) (piece : List ℕ) (gives : AnswersUnused bytes others (Ok wire))
      (is : Answers k goes wire answered) (writes : WritesAnswer link answered wire.last (Some how) piece) (P : Type 0)
      → IfNoMore how (serves_step link wire answered bytes others rest (Some how) piece gives is writes).more P
  unfolding serves_step serves_answered one_more
  answered_out link wire (Ok text) bytes others rest served.Ended piece gives is writes P = tt
  answered_out link wire (Ok text) bytes others rest served.Cut piece gives is writes P = absurd writes
  answered_out link wire (Ok text) bytes others rest served.BadHead piece gives is writes P = tt
  answered_out link wire (Ok text) bytes others rest served.TooLarge piece gives is writes P = tt
  answered_out link wire (Ok text) bytes others rest served.NoLength piece gives is writes P = tt
  answered_out link wire (Ok text) bytes others rest served.WrongMethod piece gives is writes P = tt
  answered_out link wire (Ok text) bytes others rest served.ReadFault piece gives is writes P = tt
  answered_out link wire (Ok text) bytes others rest served.WriteFault piece gives is writes P = tt
  answered_out link wire (Ok text) bytes others rest served.ClockFault piece gives is writes P = tt
  answered_out link wire (Ok text) bytes others rest served.OutOfMemory piece gives is writes P = tt
  answered_out link wire (Err why.ClockFault) bytes others rest how piece gives is (inl (so, written)) P = more_as how served.ClockFault _ P so tt
  answered_out link wire (Err why.ClockFault) bytes others rest how piece gives is (inr (so, none)) P = more_as how served.OutOfMemory _ P so tt
  answered_out link wire (Err why.OutOfMemory) bytes others rest how piece gives is (inl (so, written)) P = more_as how served.OutOfMemory _ P so tt
  answered_out link wire (Err why.OutOfMemory) bytes others rest how piece gives is (inr (so, none)) P = more_as how served.OutOfMemory _ P so tt

  writes_more : (rose link : Type 0) (bytes : List ℕ) (last : Bool) (result : Option Served) (piece : List ℕ) → (rose → link) → WritesAll rose bytes last result piece → WritesAll link bytes last result piece
  writes_more rose link bytes last None piece more writes = writes
  writes_more rose link bytes last (Some served.Ended) piece more writes = writes
  writes_more rose link bytes last (Some served.WriteFault) piece more (failed, front) = (more failed, front)
  writes_more rose link bytes last (Some served.OutOfMemory) piece more writes = writes
  writes_more rose link bytes last (Some served.Cut) piece more never = absurd never
  writes_more rose link bytes last (Some served.BadHead) piece more never = absurd never
  writes_more rose link bytes last (Some served.TooLarge) piece more never = absurd never
  writes_more rose link bytes last (Some served.NoLength) piece more never = absurd never
  writes_more rose link bytes last (Some served.WrongMethod) piece more never = absurd never
  writes_more rose link bytes last (Some served.ReadFault) piece more never = absurd never
  writes_more rose link bytes last (Some served.ClockFault) piece more never = absurd never

  ends_more : (rose link : Type 0) (wanted : Served) (text piece : List ℕ) → (rose → link) → (result : Option Served) → Ends result (λ how. EndsAs rose wanted text how piece)
      → Ends result (λ how. EndsAs link wanted text how piece)
  ends_more rose link wanted text piece more None never = never
  ends_more rose link wanted text piece more (Some how) (inl (is, written)) = inl (is, written_more rose link text piece more written)
  ends_more rose link wanted text piece more (Some how) (inr none) = inr none

  -- the link's count may have risen while the request was read
  pub answers_more : (rose link : Type 0) (answered : Result (List ℕ) Unanswered) (last : Bool) (result : Option Served) (piece : List ℕ) → (rose → link) → WritesAnswer rose answered last result piece
      → WritesAnswer link answered last result piece
  answers_more rose link (Ok text) last result piece more writes = writes_more rose link text last result piece more writes
  answers_more rose link (Err why.ClockFault) last result piece more ends = ends_more rose link served.ClockFault clock_fault_answer piece more result ends
  answers_more rose link (Err why.OutOfMemory) last result piece more ends = ends_more rose link served.OutOfMemory out_of_memory_answer piece more result ends

  -- a request was read, and answered
  pub served_step : (old mid new : Option Stream) (link rose : Type 0) (wire : Wire) (answered : Result (List ℕ) Unanswered) (bytes : Option (List ℕ)) (kept : List ℕ) (result : Option Served) → OnlyRead old mid
      → (rose → link) → unread new ≡ unread mid → AnswersUnused bytes (unused kept (unread mid)) (Ok wire) → Answers k goes wire answered → Wrote mid new (WritesAnswer rose answered wire.last result)
      → Wrote old new (IsStep k goes link bytes (unused kept (unread new)) (unread new) result)
  served_step old mid new link rose wire answered bytes kept result only more same answers is wrote =
      wrote_after old mid new (WritesAnswer rose answered wire.last result) (IsStep k goes link bytes (unused kept (unread new)) (unread new) result) only
      (λ piece writes. serves_step link wire answered bytes (unused kept (unread new)) (unread new) result piece (subst (λ rest. AnswersUnused bytes (unused kept rest) (Ok wire)) (sym same) answers) is
      (answers_more rose link answered wire.last result piece more writes)) wrote
