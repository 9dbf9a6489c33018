-- Steps of a connection by the record of what crossed its link.
use Rattle.std.proofs.Common.{◌≡◌, ℕ, List, [], ◌∷◌, ◌++◌, take, drop, Option, None, Some, Result, Ok, Err, inl, inr, refl, ap, sym, subst, ◌∙◌, append-nil, append_assoc}
use Rattle.std.proofs.lemmas.List.{append_cancel_left, take-append-drop}
use Rattle.std.specs.List.{AllByRecursion}
use Rattle.desk_http.specs.Received.{came, CameIn, EndedIn, IsCame}
use Rattle.desk_http.specs.Requests.{IsUnfinished, NextCrossed}
use Rattle.desk_http.specs.declared.wire.Wire.{Wire}
use Rattle.desk_http.specs.declared.wire.WireFault.{WireFault}
use Rattle.desk_http.specs.declared.wire.WireFault.TheVariants as fault
use Rattle.desk_http.proofs.Answered.{crossed_fault, crossed_request, request_more}
use Rattle.desk_http.proofs.CameLaws.{came-append}
use Rattle.desk_io.specs.declared.faults.PutFault.{PutFault}
use Rattle.desk_io.specs.declared.faults.PutFault.TheVariants.{Failed}
use Rattle.desk_net.specs.Crossing.{FailedSend}
use Rattle.desk_net.specs.declared.crossed.Crossed.{Crossed}
use Rattle.desk_net.specs.declared.crossed.Crossed.TheVariants.{Came, Took}
use Rattle.connections.specs.Connections.{Answered, Answers, AreRequests, GoesOn, IsConnection, IsFrontOf, IsMidRequest, Kind, Last, OnBoth}
use Rattle.connections.specs.Crossed.{Crosses, FoundEnd, GoesOnBy, IsConnectionBy, IfNoMore, IsConnectionFrom, IsStepBy, Takes, TakesPiece, pieces, taken}
use Rattle.connections.specs.Writing.{EndsAs, EndsWithout, WritesAnswer}
use Rattle.connections.specs.declared.answers.Unanswered.{Unanswered}
use Rattle.connections.specs.declared.serving.Served.{Served}
use Rattle.connections.specs.declared.serving.Served.TheVariants as served
use Rattle.connections.proofs.Joins.{gone_on, joined, joined_more}
use Rattle.connections.proofs.Steps.{answered_out, answers_more, ends_without, more_as, serves_step}

-- ---- one write

takes_front : (old new : List Crossed) (text : List ℕ) → FailedSend old new text Failed → Takes old new (IsFrontOf text)
takes_front old new text (n, is) = (take n text, inl is, (drop n text, sym (take-append-drop n text)))

pub ends_taken : (old new : List Crossed) (text : List ℕ) (rose : Type 0) (how : Served) → new ≡ old ++ Took text ∷ [] → Takes old new (EndsAs rose how text how)
ends_taken old new text rose how is = (text, inl is, inl (refl, inl refl))

pub ends_cut : (old new : List Crossed) (text : List ℕ) (f : PutFault) (rose : Type 0) (how : Served) → f ≡ Failed → FailedSend old new text f → rose
    → Takes old new (EndsAs rose how text how)
ends_cut old new text f rose how failed is risen =
    let front = takes_front old new text (subst (FailedSend old new text) failed is) in
    (front.0, front.1, inl (refl, inr (risen, front.2)))

-- a response whose writing failed
pub fails_cut : (old new : List Crossed) (text : List ℕ) (f : PutFault) (rose : Type 0) → f ≡ Failed → FailedSend old new text f → rose
    → Takes old new (λ piece. rose × IsFrontOf text piece)
fails_cut old new text f rose failed is risen =
    let front = takes_front old new text (subst (FailedSend old new text) failed is) in
    (front.0, front.1, (risen, front.2))

-- ---- what came and what was taken

pub taken-append : (xs ys : List Crossed) → taken (xs ++ ys) ≡ taken xs ++ taken ys
taken-append [] ys = refl
taken-append (Came piece ∷ xs) ys = taken-append xs ys
taken-append (Took piece ∷ xs) ys = ap (λ t. piece ++ t) (taken-append xs ys) ∙ sym (append_assoc piece (taken xs) (taken ys))

none_taken : (entries : List Crossed) → AllByRecursion IsCame entries → taken entries ≡ []
none_taken [] all = refl
none_taken (Came piece ∷ entries) all = none_taken entries all.1
none_taken (Took piece ∷ entries) all = absurd all.0

-- ---- the end of the input

pieces-append : (xs ys : List Crossed) → pieces (xs ++ ys) ≡ pieces xs ++ pieces ys
pieces-append [] ys = refl
pieces-append (Came piece ∷ xs) ys = ap (λ ps. piece ∷ ps) (pieces-append xs ys)
pieces-append (Took piece ∷ xs) ys = pieces-append xs ys

found_end : (old mid entries : List Crossed) → mid ≡ old ++ entries → EndedIn old mid → FoundEnd entries
found_end old mid entries added (front, is) =
    let last : List Crossed = Came [] ∷ [] in
    let same : entries ≡ front ++ last = append_cancel_left old entries (front ++ last) (sym added ∙ is) in
    (pieces front, ap (λ es. pieces es) same ∙ pieces-append front last)

-- a write after the last read
found_before : (entries : List Crossed) (piece : List ℕ) → FoundEnd entries → FoundEnd (entries ++ Took piece ∷ [])
found_before entries piece (earlier, is) = (earlier, pieces-append entries (Took piece ∷ []) ∙ append-nil (pieces entries) ∙ is)

-- what crossed before makes no difference
found_after : (xs ys : List Crossed) → FoundEnd ys → FoundEnd (xs ++ ys)
found_after xs ys (earlier, is) = (pieces xs ++ earlier, pieces-append xs ys ∙ ap (λ ps. pieces xs ++ ps) is ∙ sym (append_assoc (pieces xs) earlier ([] ∷ [])))

no_more : {X : Type 0} (how : Served) (more : List X) (P : Type 0) → P → IfNoMore how more P
no_more served.Ended [] P holds = holds
no_more served.Ended (x ∷ more) P holds = tt
no_more served.Cut more P holds = holds
no_more served.BadHead more P holds = tt
no_more served.TooLarge more P holds = tt
no_more served.NoLength more P holds = tt
no_more served.WrongMethod more P holds = tt
no_more served.ReadFault more P holds = tt
no_more served.WriteFault more P holds = tt
no_more served.ClockFault more P holds = tt
no_more served.OutOfMemory more P holds = tt

no_more_so : {X : Type 0} (how : Served) (more : List X) (P Q : Type 0) → (P → Q) → IfNoMore how more P → IfNoMore how more Q
no_more_so served.Ended [] P Q so holds = so holds
no_more_so served.Ended (x ∷ more) P Q so holds = tt
no_more_so served.Cut more P Q so holds = so holds
no_more_so served.BadHead more P Q so holds = tt
no_more_so served.TooLarge more P Q so holds = tt
no_more_so served.NoLength more P Q so holds = tt
no_more_so served.WrongMethod more P Q so holds = tt
no_more_so served.ReadFault more P Q so holds = tt
no_more_so served.WriteFault more P Q so holds = tt
no_more_so served.ClockFault more P Q so holds = tt
no_more_so served.OutOfMemory more P Q so holds = tt

-- bytes were read, and then at most one piece was taken
record ReadAndTook (old mid new : List Crossed) (read piece : List ℕ) : Type 0 where
  pub entries : List Crossed
  pub added : new ≡ old ++ entries
  pub came_is : came entries ≡ read
  pub taken_is : taken entries ≡ piece
  pub found : EndedIn old mid → FoundEnd entries

read_and_took : (old mid new : List Crossed) (read piece : List ℕ) → CameIn old read mid → TakesPiece mid new piece → ReadAndTook old mid new read piece
read_and_took old mid new read piece reads (inl is) =
    let last : List Crossed = Took piece ∷ [] in record {
      entries = reads.entries ++ last;
      added = is ∙ ap (λ x. x ++ last) reads.added ∙ append_assoc old reads.entries last;
      came_is = came-append reads.entries last ∙ append-nil (came reads.entries) ∙ sym reads.read_is;
      taken_is = taken-append reads.entries last ∙ ap (λ t. t ++ (piece ++ [])) (none_taken reads.entries reads.came_all) ∙ append-nil piece;
      found = λ ended. found_before reads.entries piece (found_end old mid reads.entries reads.added ended);
    }
read_and_took old mid new read piece reads (inr (same, none)) = record {
  entries = reads.entries;
  added = same ∙ reads.added;
  came_is = sym reads.read_is;
  taken_is = none_taken reads.entries reads.came_all ∙ sym none;
  found = λ ended. found_end old mid reads.entries reads.added ended;
}

module _ {X : Type 0} (k : Kind X) where
  -- the same bytes by other names
  connection_as : (goes : List X → Last → Type 0) (link : Type 0) (bytes others : List ℕ) (how : Served) (written text : List ℕ) → others ≡ bytes → text ≡ written
      → IsConnection k goes link (Some bytes) (Some []) how written → IsConnection k goes link (Some others) (Some []) how text
  connection_as goes link bytes others how written text same is one = record {
    xs = one.xs;
    more = one.more;
    last = one.last;
    left = one.left;
    piece = one.piece;
    requests = subst (λ b. OnBoth (Some b) one.left (λ b l. AreRequests k b (one.xs ++ one.more) l)) (sym same) one.requests;
    going = one.going;
    goes_on = one.goes_on;
    says = is ∙ one.says;
    ends = one.ends;
  }

  goes_as : (goes : List X → Last → Type 0) (bytes others left written text : List ℕ) → others ≡ bytes → text ≡ written → GoesOn k goes (Some bytes) (Some left) written
      → GoesOn k goes (Some others) (Some left) text
  goes_as goes bytes others left written text same is one = record {
    xs = one.xs;
    requests = subst (λ b. AreRequests k b one.xs left) (sym same) one.requests;
    going = one.going;
    goes_on = one.goes_on;
    says = is ∙ one.says;
  }

  module _ (goes : List X → Last → Type 0) where
    -- ---- one step

    -- a request was read, and answered
    pub step_crossed : (old mid new : List Crossed) (link rose : Type 0) (wire : Wire) (answered : Result (List ℕ) Unanswered) (kept left : List ℕ) (result : Option Served) → (rose → link)
        → NextCrossed old mid kept left (Ok wire) → Answers k goes wire answered → Takes mid new (WritesAnswer rose answered wire.last result) → Crosses old new (IsStepBy k goes link kept left result)
    unfolding connection_as
    step_crossed old mid new link rose wire answered kept left None more next is (piece, crossed, writes) =
        let read = crossed_request old mid kept left wire next in
        let both = read_and_took old mid new read.0 piece read.1 crossed in
        let step = serves_step k goes link wire answered (Some (kept ++ read.0)) (Some left) (Some []) None piece read.2 is (answers_more k goes rose link answered wire.last None piece more writes) in
        (both.entries, both.added, goes_as goes (kept ++ read.0) (kept ++ came both.entries) left piece (taken both.entries) (ap (λ r. kept ++ r) both.came_is) both.taken_is step)
    step_crossed old mid new link rose wire answered kept left (Some how) more next is (piece, crossed, writes) =
        let read = crossed_request old mid kept left wire next in
        let both = read_and_took old mid new read.0 piece read.1 crossed in
        let wrote = answers_more k goes rose link answered wire.last (Some how) piece more writes in
        let step = serves_step k goes link wire answered (Some (kept ++ read.0)) (Some left) (Some []) (Some how) piece read.2 is wrote in (
          both.entries,
          both.added,
          record {
            is = connection_as goes link (kept ++ read.0) (kept ++ came both.entries) how piece (taken both.entries) (ap (λ r. kept ++ r) both.came_is) both.taken_is step;
            read_out = answered_out k goes link wire answered (Some (kept ++ read.0)) (Some left) (Some []) how piece read.2 is wrote (FoundEnd both.entries);
          },
        )

    mid_request : (bytes : List ℕ) → IsUnfinished bytes → IsMidRequest (Some bytes) (Some [])
    mid_request bytes part = (bytes, sym (append-nil bytes), part)

    -- an ending by an answer, with which the input needn't have ended
    ended_as : (more : List X) (rose : Type 0) (how wanted : Served) (text piece : List ℕ) (P : Type 0) → IfNoMore wanted more P → EndsAs rose wanted text how piece → IfNoMore how more P
    ended_as more rose how wanted text piece P out (inl (is, written)) = more_as how wanted more P is out
    ended_as more rose how wanted text piece P out (inr (is, none)) = more_as how served.OutOfMemory more P is tt

    -- at the end of the input, and within a request, the input had ended
    without_out : (old mid : List Crossed) (rose : Type 0) (f : WireFault) (kept left : List ℕ) (how : Served) (piece : List ℕ) (more : List X) (P : Type 0) → NextCrossed old mid kept left (Err f)
        → EndsWithout rose f how piece → (EndedIn old mid → P) → IfNoMore how more P
    without_out old mid rose fault.End kept left how piece more P next ends found = no_more how more P (found next.1.1)
    without_out old mid rose fault.Cut kept left how piece more P next ends found = no_more how more P (found next.1.1)
    without_out old mid rose fault.ReadFault kept left how piece more P next (is, none) found = more_as how served.ReadFault more P is tt
    without_out old mid rose fault.BadHead kept left how piece more P next ends found = ended_as more rose how served.BadHead _ piece P tt ends
    without_out old mid rose fault.TooLarge kept left how piece more P next ends found = ended_as more rose how served.TooLarge _ piece P tt ends
    without_out old mid rose fault.NoLength kept left how piece more P next ends found = ended_as more rose how served.NoLength _ piece P tt ends
    without_out old mid rose fault.WrongMethod kept left how piece more P next ends found = ended_as more rose how served.WrongMethod _ piece P tt ends
    without_out old mid rose fault.OutOfMemory kept left how piece more P next ends found = ended_as more rose how served.OutOfMemory _ piece P tt ends

    -- no request was read
    pub without_crossed : (old mid new : List Crossed) (link rose : Type 0) (f : WireFault) (kept left : List ℕ) (how : Served) → goes [] Answered → (rose → link) → (f ≡ fault.ReadFault → link)
        → NextCrossed old mid kept left (Err f) → Takes mid new (EndsWithout rose f how) → Crosses old new (IsConnectionFrom k goes link kept how)
    unfolding connection_as
    without_crossed old mid new link rose f kept left how nothing more failed next (piece, crossed, ends) =
        let read = crossed_fault old mid kept left f next in
        let bytes = kept ++ read.0 in
        let both = read_and_took old mid new read.0 piece read.1 crossed in
        let ended = ends_without k goes link rose f (Some bytes) (Some left) (Some []) how piece nothing more (λ is. (failed is, mid_request bytes (read.3 is))) read.2 ends in (
          both.entries,
          both.added,
          record {
            is = connection_as goes link bytes (kept ++ came both.entries) how piece (taken both.entries) (ap (λ r. kept ++ r) both.came_is) both.taken_is ended;
            read_out = without_out old mid rose f kept left how piece ended.more (FoundEnd both.entries) next ends both.found;
          },
        )

    -- ---- one step after another

    -- nothing crossed yet
    pub begins_crossed : (line : List Crossed) (kept : List ℕ) → goes [] Answered → Crosses line line (GoesOnBy k goes kept kept)
    begins_crossed line kept nothing =
        ([], sym (append-nil line), record { xs = []; requests = sym (append-nil kept); going = tt; goes_on = nothing; says = refl })

    -- bytes that come later don't disturb the requests that were read
    pub requests_more : (bytes more : List ℕ) (xs : List X) (left : List ℕ) → AreRequests k bytes xs left → AreRequests k (bytes ++ more) xs (left ++ more)
    requests_more bytes more [] left is = ap (λ b. b ++ more) is
    requests_more bytes more (x ∷ xs) left (rest, begins, are) = (rest ++ more, request_more bytes more (k.wire x) rest begins, requests_more rest more xs left are)

    pub goes_more : (bytes more left written : List ℕ) → GoesOn k goes (Some bytes) (Some left) written → GoesOn k goes (Some (bytes ++ more)) (Some (left ++ more)) written
    goes_more bytes more left written is =
        record { xs = is.xs; requests = requests_more bytes more is.xs left is.requests; going = is.going; goes_on = is.goes_on; says = is.says }

  came_on : (kept : List ℕ) (xs ys : List Crossed) → (kept ++ came xs) ++ came ys ≡ kept ++ came (xs ++ ys)
  came_on kept xs ys = append_assoc kept (came xs) (came ys) ∙ ap (λ t. kept ++ t) (sym (came-append xs ys))

  added_on : (old mid new xs ys : List Crossed) → mid ≡ old ++ xs → new ≡ mid ++ ys → new ≡ old ++ (xs ++ ys)
  added_on old mid new xs ys one two = two ∙ ap (λ t. t ++ ys) one ∙ append_assoc old xs ys

  module _ (first then all : List X → Last → Type 0) (on : (xs ys : List X) (last : Last) → first xs Answered → then ys last → all (xs ++ ys) last) where
    -- requests that were answered, and then a connection's end
    pub crossed_end : (old mid new : List Crossed) (rose link : Type 0) (kept left : List ℕ) (how : Served) → (rose → link) → Crosses old mid (GoesOnBy k first kept left)
        → Crosses mid new (IsConnectionFrom k then rose left how) → Crosses old new (IsConnectionFrom k all link kept how)
    unfolding connection_as
    crossed_end old mid new rose link kept left how of_link (xs, one, before) (ys, two, after) =
        let bytes = (kept ++ came xs) ++ came ys in
        let earlier = goes_more first (kept ++ came xs) (came ys) left (taken xs) before in
        let whole = joined k first then all on rose link (Some bytes) (Some (left ++ came ys)) (Some []) how (taken xs) (taken ys) of_link earlier after.is in (
          xs ++ ys,
          added_on old mid new xs ys one two,
          record {
            is = connection_as all link bytes (kept ++ came (xs ++ ys)) how (taken xs ++ taken ys) (taken (xs ++ ys)) (sym (came_on kept xs ys)) (taken-append xs ys) whole;
            read_out = subst (λ (more : List X). IfNoMore how more (FoundEnd (xs ++ ys)))
                (sym (joined_more k first then all on rose link (Some bytes) (Some (left ++ came ys)) (Some []) how (taken xs) (taken ys) of_link earlier after.is))
                (no_more_so how after.is.more (FoundEnd ys) (FoundEnd (xs ++ ys)) (found_after xs ys) after.read_out);
          },
        )

    -- requests that were answered, and then others
    pub crossed_on : (old mid new : List Crossed) (kept middle left : List ℕ) → Crosses old mid (GoesOnBy k first kept middle) → Crosses mid new (GoesOnBy k then middle left)
        → Crosses old new (GoesOnBy k all kept left)
    crossed_on old mid new kept middle left (xs, one, before) (ys, two, after) =
        let bytes = (kept ++ came xs) ++ came ys in
        let earlier = goes_more first (kept ++ came xs) (came ys) middle (taken xs) before in
        let whole = gone_on k first then all on (Some bytes) (Some (middle ++ came ys)) (Some left) (taken xs) (taken ys) earlier after in (
          xs ++ ys,
          added_on old mid new xs ys one two,
          goes_as all bytes (kept ++ came (xs ++ ys)) left (taken xs ++ taken ys) (taken (xs ++ ys)) (sym (came_on kept xs ys)) (taken-append xs ys) whole,
        )

  -- a connection from its beginning is a whole one
  pub crossed_whole : (goes : List X → Last → Type 0) (old new : List Crossed) (link : Type 0) (how : Served) → Crosses old new (IsConnectionFrom k goes link [] how)
      → Crosses old new (IsConnectionBy k goes link how)
  crossed_whole goes old new link how is = is
