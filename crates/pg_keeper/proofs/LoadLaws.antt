-- The rows of a load, message by message.
use Rattle.std.proofs.Common.{◌≡◌, ℕ, ◌==◌, Bool, true, false, if◌then◌else◌, List, [], ◌∷◌, ◌++◌, length, Option, None, Some, refl, sym, ap, ◌∙◌, subst, append_assoc, append-nil, ne_eqb}
use Rattle.std.specs.Option.{is_some}
use Rattle.desk_io.specs.declared.rows.Row.{Row}
use Rattle.desk_net.specs.declared.crossed.Crossed.{Crossed}
use Rattle.pg_wire.specs.declared.session.Answer.{Answer}
use Rattle.pg_wire.specs.Answers.{Told, HasAnswered, silent, noted, told_by, told_of, ready}
use Rattle.pg_wire.specs.Backend.{Message, head_bytes, message_bytes, all_bytes, TakesContent}
use Rattle.pg_wire.specs.Crossing.{came, took}
use Rattle.pg_wire.proofs.Settling.{bytes_more, told_more, one_kept}
use Rattle.pg_keeper.specs.Loads.{row_content, data_in, others_in, contents_of, load_request, limit_request, HasSent, TakesRow, Loads, LoadsOver, Limits}

-- a DataRow is the last
data_row : (ms : List Message) (content : List ℕ) → data_in (ms ++ (68, content) ∷ []) ≡ data_in ms ++ content ∷ []
data_row [] content = refl
data_row (x ∷ xs) content = let more = data_row xs content in data_after (x.0 == 68) x xs content more
  where
    data_after : (b : Bool) (x : Message) (xs : List Message) (content : List ℕ) → data_in (xs ++ (68, content) ∷ []) ≡ data_in xs ++ content ∷ []
        → (if b then x.1 ∷ data_in (xs ++ (68, content) ∷ []) else data_in (xs ++ (68, content) ∷ [])) ≡ (if b then x.1 ∷ data_in xs else data_in xs) ++ content ∷ []
    data_after true x xs content more = ap (λ l. x.1 ∷ l) more
    data_after false x xs content more = more

others_row : (ms : List Message) (content : List ℕ) → others_in (ms ++ (68, content) ∷ []) ≡ others_in ms
others_row [] content = refl
others_row (x ∷ xs) content = ap (λ l. if x.0 == 68 then l else x ∷ l) (others_row xs content)

-- another message is the last
data_other : (ms : List Message) (m : Message) → (m.0 == 68) ≡ false → data_in (ms ++ m ∷ []) ≡ data_in ms
data_other [] m is = rw is refl
data_other (x ∷ xs) m is = ap (λ l. if x.0 == 68 then x.1 ∷ l else l) (data_other xs m is)

others_other : (ms : List Message) (m : Message) → (m.0 == 68) ≡ false → others_in (ms ++ m ∷ []) ≡ others_in ms ++ m ∷ []
others_other [] m is = rw is refl
others_other (x ∷ xs) m is = let more = others_other xs m is in others_after (x.0 == 68) x xs m more
  where
    others_after : (b : Bool) (x : Message) (xs : List Message) (m : Message) → others_in (xs ++ m ∷ []) ≡ others_in xs ++ m ∷ []
        → (if b then others_in (xs ++ m ∷ []) else x ∷ others_in (xs ++ m ∷ [])) ≡ (if b then others_in xs else x ∷ others_in xs) ++ m ∷ []
    others_after true x xs m more = more
    others_after false x xs m more = ap (λ l. x ∷ l) more

-- the messages so far
pub record Gathering (before after : List ℕ) (rows : List Row) (t : Told) : Type 0 where
  pub messages : List Message
  pub read : after ≡ before ++ all_bytes messages
  pub sent : data_in messages ≡ contents_of rows
  pub says : told_by silent (others_in messages) ≡ Some t

pub gather_none : (before : List ℕ) (rows : List Row) (t : Told) → rows ≡ [] → t ≡ silent → Gathering before before rows t
unfolding all_bytes told_by
gather_none before rows t none is =
    record { messages = []; read = sym (append-nil before); sent = ap contents_of (sym none); says = ap Some (sym is) }

-- a message after its head
joined : (a b c d content : List ℕ) (ms : List Message) (tag size : ℕ) → b ≡ a ++ all_bytes ms → c ≡ b ++ head_bytes tag size → d ≡ c ++ content → length content ≡ size
    → d ≡ a ++ all_bytes (ms ++ (tag, content) ∷ [])
joined a b c d content ms tag size come headed came sized =
    came ∙ ap (λ l. l ++ content) headed ∙ ap (λ n. (b ++ head_bytes tag n) ++ content) (sym sized)
    ∙ append_assoc b (head_bytes tag (length content)) content ∙ ap (λ l. l ++ message_bytes (tag, content)) come
    ∙ append_assoc a (all_bytes ms) (message_bytes (tag, content)) ∙ ap (λ l. a ++ l) (sym (bytes_more ms (tag, content)))

pub gather_row : (a b c d : List ℕ) (tag size : ℕ) (rows more : List Row) (t : Told) → Gathering a b rows t → c ≡ b ++ head_bytes tag size → tag ≡ 68
    → TakesRow c d size rows more → Gathering a d more t
gather_row a b c d tag size rows more t so headed is took =
    let ms = so.messages in
    let bytes = took.content in
    record {
      messages = ms ++ (68, bytes) ∷ [];
      read = joined a b c d bytes ms 68 size so.read (subst (λ n. c ≡ b ++ head_bytes n size) is headed) took.read took.sized;
      sent = data_row ms bytes ∙ ap (λ l. l ++ bytes ∷ []) so.sent ∙ sym took.more;
      says = ap (told_by silent) (others_row ms bytes) ∙ so.says;
    }

pub gather_other : (a b c d front : List ℕ) (tag size : ℕ) (rows : List Row) (t u : Told) → Gathering a b rows t → c ≡ b ++ head_bytes tag size → (tag ≡ 68 → ⊥)
    → TakesContent c d size 512 front → noted t tag front ≡ Some u → Gathering a d rows u
gather_other a b c d front tag size rows t u so headed other took is =
    let ms = so.messages in
    let m : Message = (tag, took.content) in
    let apart : (tag == 68) ≡ false = ne_eqb tag 68 other in
    record {
      messages = ms ++ m ∷ [];
      read = joined a b c d took.content ms tag size so.read headed took.read took.sized;
      sent = data_other ms m apart ∙ so.sent;
      says = ap (told_by silent) (others_other ms m apart)
          ∙ told_more silent t u (others_in ms) m so.says (subst (λ l. noted t tag l ≡ Some u) took.shown is);
    }

pub gather_end : (a b c d front : List ℕ) (tag size : ℕ) (rows : List Row) (answer : Answer) → Gathering a b rows (told_of answer) → c ≡ b ++ head_bytes tag size → tag ≡ 90
    → TakesContent c d size 512 front → front ≡ 73 ∷ [] → answer.refused ≡ None → HasSent a d rows
gather_end a b c d front tag size rows answer so headed is got ends calm =
    let short : got.content ≡ 73 ∷ [] = one_kept got.content (sym got.shown ∙ ends) in
    let one : size ≡ 1 = sym got.sized ∙ ap length short in
    let first : d ≡ (b ++ head_bytes tag size) ++ got.content = got.read ∙ ap (λ l. l ++ got.content) headed in
    let second : d ≡ (b ++ head_bytes 90 1) ++ 73 ∷ [] =
    first ∙ ap (λ l. (b ++ head_bytes tag size) ++ l) short ∙ ap (λ n. (b ++ head_bytes n size) ++ 73 ∷ []) is ∙ ap (λ n. (b ++ head_bytes 90 n) ++ 73 ∷ []) one in
    let last : head_bytes 90 1 ++ 73 ∷ [] ≡ ready = refl in
    let third : d ≡ b ++ ready = second ∙ append_assoc b (head_bytes 90 1) (73 ∷ []) ∙ ap (λ l. b ++ l) last in
    let whole : d ≡ a ++ (all_bytes so.messages ++ ready) = third ∙ ap (λ l. l ++ ready) so.read ∙ append_assoc a (all_bytes so.messages) ready in
    record {
      messages = so.messages;
      read = whole;
      sent = so.sent;
      told = told_of answer;
      says = so.says;
      calm = ap is_some calm;
    }

pub takes_row : (before after content body : List ℕ) (size : ℕ) (old new : List Row) (row : Row) → after ≡ before ++ content → length content ≡ size
    → content ≡ row_content row.kind row.key body → row.body ≡ body → new ≡ old ++ row ∷ [] → TakesRow before after size old new
takes_row before after content body size old new row read sized is same grew = record {
  content = content;
  read = read;
  sized = sized;
  more = ap contents_of grew ∙ contents_more old row ∙ ap (λ l. contents_of old ++ l ∷ []) (ap (row_content row.kind row.key) same ∙ sym is);
}
  where
    contents_more : (old : List Row) (row : Row) → contents_of (old ++ row ∷ []) ≡ contents_of old ++ row_content row.kind row.key row.body ∷ []
    contents_more [] row = refl
    contents_more (x ∷ xs) row = ap (λ l. row_content x.kind x.key x.body ∷ l) (contents_more xs row)

pub loads : (old mid new : List Crossed) (rows : List Row) → took mid ≡ took old ++ load_request → came mid ≡ came old → took new ≡ took mid
    → HasSent (came mid) (came new) rows → Loads old new rows
loads old mid new rows asked same still sent =
    record { asked = still ∙ asked; sent = subst (λ l. HasSent l (came new) rows) same sent }

pub loads_opened : (link : Option (List Crossed)) (opened loaded new : List Crossed) (rows : List Row) → link ≡ None → Loads opened loaded rows → Limits loaded new
    → LoadsOver link (Some new) rows
loads_opened link opened loaded new rows none made limited = subst (λ l. LoadsOver l (Some new) rows) (sym none) (opened, loaded, made, limited)

pub limits : (old mid new : List Crossed) (a : Answer) → took mid ≡ took old ++ limit_request → came mid ≡ came old → took new ≡ took mid
    → HasAnswered (came mid) (came new) (told_of a) → a.refused ≡ None → Limits old new
limits old mid new a asked same still answered none =
    record { asked = still ∙ asked; told = told_of a; answered = subst (λ l. HasAnswered l (came new) (told_of a)) same answered; calm = ap is_some none }

pub loads_again : (link : Option (List Crossed)) (old new : List Crossed) (rows : List Row) → link ≡ Some old → Loads old new rows → LoadsOver link (Some new) rows
loads_again link old new rows some made = subst (λ l. LoadsOver l (Some new) rows) (sym some) made
