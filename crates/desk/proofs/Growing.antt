-- What an item of a lane adds to the history: a tick or none, and then an entry of its own or none.
use Rattle.std.proofs.Common.{◌≡◌, ℕ, zero, suc, ◌+◌, ◌-◌, ◌<◌, ◌≤◌, ◌⊎◌, inl, inr, Bool, true, false, MatchBool, List, [], ◌∷◌, ◌++◌, length, take, append-nil, append_assoc, length-append, Option, None, Some, IfSome, Result, Ok, Err, refl, ap, sym, ◌∙◌, subst, arith}
use Rattle.std.specs.Prelude.{nat_le, nat_lt, slice_get, option_to_list}
use Rattle.std.proofs.lemmas.Bool.{lt-ltb, le-ltb}
use Rattle.std.proofs.lemmas.Bool.Decides.{nat_tests}
use Rattle.std.proofs.lemmas.List.{append_cancel_left}
use Rattle.std.proofs.Math.Seq.{take-append_seam}
use Rattle.ops_tables.specs.Tables.{actor_of}
use Rattle.alerts.specs.declared.notices.Notice.{Notice}
use Rattle.asks.specs.declared.bad_call.BadCall.{BadCall}
use Rattle.asks.specs.declared.call.Ask.{Ask}
use Rattle.asks.specs.declared.call.Call.{Call}
use Rattle.asks.specs.declared.kept.KeptReply.{KeptReply}
use Rattle.asks.specs.declared.reply.Done.{Done as DoneType}
use Rattle.asks.specs.declared.reply.Refusal.{Refusal}
use Rattle.asks.specs.declared.reply.Refusal.TheVariants.{Unkept}
use Rattle.asks.specs.declared.reply.Reply.{Reply}
use Rattle.asks.specs.declared.reply.Reply.TheVariants.{Done, Refused}
use Rattle.desk_state.proofs.Boards.{call_keeps, tick_keeps}
use Rattle.desk_state.proofs.CauseLaws.{refused_for}
use Rattle.desk_state.specs.Causes.{RefusesFor}
use Rattle.desk_state.specs.Chain.{unless}
use Rattle.desk_state.specs.Decide.{decide, is_view, decide_new, decide_numbered}
use Rattle.desk_state.specs.Lanes.{said_of}
use Rattle.desk_state.specs.Legal.{MayCome, next, Legal}
use Rattle.desk_state.specs.People.{mistaken, not_his_role}
use Rattle.desk_state.specs.Repeats.{IsAskable}
use Rattle.desk_state.specs.Requests.{kept_at}
use Rattle.desk_state.specs.Sound.{IsBoard}
use Rattle.desk_state.specs.State.{State, is_full, is_full_for}
use Rattle.desk_state.specs.Step.{Stepped, entry, stay, accepted, enter, finish, do_call, changes, changes_by, do_unless, answer_call, full_reply, tick_unless, tick_to, without_key}
use Rattle.desk_state.specs.declared.effect.Decision.{Decision}
use Rattle.desk_state.specs.declared.effect.Decision.TheVariants.{Show, Do}
use Rattle.desk_state.specs.declared.effect.Effect.{Effect}
use Rattle.desk_state.specs.declared.entry.Entry.{Entry}
use Rattle.desk_state.specs.declared.entry.What.TheVariants as what
use Rattle.desk_state.specs.declared.lanes.Item.{Item}
use Rattle.desk_state.specs.declared.lanes.Item.TheVariants as item
use Rattle.desk_state.specs.declared.lanes.Said.{Said}
use Rattle.desk_state.specs.declared.lanes.Said.TheVariants as said
use Rattle.desk.specs.Keeping.{Choice, Counted, Rise, Given, given, adds, kept_or, unkept_if, made_with, once_ticked, made_after, made_by, answer_with, item_with}
use Rattle.desk.specs.Positions.{after_entries, prefix, IsUnkept, IsAnswered, IsRefusedBy, IsSaidIn, Accepts, IsEntryOf, ComesAt}

-- ---- a history that goes on

pub record Grows (s t : State) : Type 0 where
  pub entries : List Entry
  pub grown : t.entries ≡ s.entries ++ entries
  pub legal : Legal s entries t

pub grows_none : (s t : State) → t ≡ s → Grows s t
grows_none s t is = record { entries = []; grown = ap (λ (u : State). u.entries) is ∙ sym (append-nil s.entries); legal = sym is }

grows_by : (s t : State) (e : Entry) → MayCome s e.lane e.what → next s e.lane e.what ≡ t → t.entries ≡ s.entries ++ e ∷ [] → Grows s t
grows_by s t e may is grown = record { entries = e ∷ []; grown = grown; legal = (may, is) }

legal_on : (s : State) (es : List Entry) (m : State) (fs : List Entry) (t : State) → Legal s es m → Legal m fs t → Legal s (es ++ fs) t
legal_on s [] m fs t one two = subst (λ (u : State). Legal u fs t) (sym one) two
legal_on s (e ∷ es) m fs t one two = (one.0, legal_on (next s e.lane e.what) es m fs t one.1 two)

pub grown_on : (s m t : State) (es fs : List Entry) → m.entries ≡ s.entries ++ es → t.entries ≡ m.entries ++ fs → t.entries ≡ s.entries ++ (es ++ fs)
grown_on s m t es fs one two = two ∙ (ap (λ (xs : List Entry). xs ++ fs) one ∙ append_assoc s.entries es fs)

pub grows_on : (s m t : State) → Grows s m → Grows m t → Grows s t
grows_on s m t one two = record {
  entries = one.entries ++ two.entries;
  grown = grown_on s m t one.entries two.entries one.grown two.grown;
  legal = legal_on s one.entries m two.entries t one.legal two.legal;
}

pub grows_long : (s t : State) → Grows s t → length s.entries ≤ length t.entries
grows_long s t g = let long = ap length g.grown ∙ length-append s.entries g.entries in omega (arith, long)

pub legal_after : (s : State) (es : List Entry) (t : State) → Legal s es t → after_entries s es ≡ t
legal_after s [] t is = is
legal_after s (e ∷ es) t legal = legal_after (next s e.lane e.what) es t legal.1

-- what follows a state is what follows it up to another, and then what follows that one
pub entries_are : (s m t : State) (entries es fs : List Entry) → m.entries ≡ s.entries ++ es → t.entries ≡ m.entries ++ fs → t.entries ≡ s.entries ++ entries → entries ≡ es ++ fs
entries_are s m t entries es fs one two all = append_cancel_left s.entries entries (es ++ fs) (sym all ∙ grown_on s m t es fs one two)

-- the state after the entries before a position is the one that has so many
pub prefix_is : (s m t : State) (entries : List Entry) (position : ℕ) → Grows s m → Grows m t → t.entries ≡ s.entries ++ entries → position ≡ length m.entries → prefix s entries position ≡ m
prefix_is s m t entries position one two all is =
    let same : entries ≡ one.entries ++ two.entries = entries_are s m t entries one.entries two.entries one.grown two.grown all in
    let long : length m.entries ≡ length s.entries + length one.entries = ap length one.grown ∙ length-append s.entries one.entries in
    let here : position - length s.entries ≡ length one.entries = omega (arith, is, long) in
    ap (λ (n : ℕ). after_entries s (take n entries)) here
    ∙ (ap (λ (es : List Entry). after_entries s (take (length one.entries) es)) same
    ∙ (ap (after_entries s) (take-append_seam one.entries two.entries)
    ∙ legal_after s one.entries m one.legal))

pub get_past : {X : Type 0} (xs ys : List X) (n k : ℕ) → k ≡ length xs + n → slice_get (xs ++ ys) k ≡ slice_get ys n
get_past [] ys n k is = ap (slice_get ys) (omega (arith, is))
get_past (x ∷ xs) ys n zero is = absurd (omega (arith, is))
get_past (x ∷ xs) ys n (suc k) is = get_past xs ys n k (omega (arith, is))

pub get_front : {X : Type 0} (xs ys : List X) (k : ℕ) → k < length xs → slice_get (xs ++ ys) k ≡ slice_get xs k
get_front [] ys k under = absurd (omega (arith, under))
get_front (x ∷ xs) ys zero under = refl
get_front (x ∷ xs) ys (suc k) under = get_front xs ys k (omega (arith, under))

-- an entry that follows a state stands where so many stand before it
pub entry_stands : (s m u t : State) (entries : List Entry) (e : Entry) (position : ℕ) → Grows s m → u.entries ≡ m.entries ++ e ∷ [] → Grows u t → t.entries ≡ s.entries ++ entries
    → position ≡ length m.entries → slice_get entries (position - length s.entries) ≡ Some e
entry_stands s m u t entries e position one own two all is =
    let after : t.entries ≡ m.entries ++ (e ∷ two.entries) = grown_on m u t (e ∷ []) two.entries own two.grown in
    let same : entries ≡ one.entries ++ (e ∷ two.entries) = entries_are s m t entries one.entries (e ∷ two.entries) one.grown after all in
    let long : length m.entries ≡ length s.entries + length one.entries = ap length one.grown ∙ length-append s.entries one.entries in
    ap (λ (es : List Entry). slice_get es (position - length s.entries)) same
    ∙ get_past one.entries (e ∷ two.entries) 0 (position - length s.entries) (omega (arith, is, long))

-- ---- a call

-- an accepted call stands in the history without its key, and means the same
finish_keyless : (s : State) (lane : ℕ) (call : Call) (made : DoneType) (effect : Effect) (decision : Result Decision Refusal) → decision ≡ Ok (Do made effect) → is_full_for s call.ask ≡ false
    → finish s lane (without_key call) decision ≡ accepted s lane call made effect
finish_keyless s lane call made effect decision is room = rw (is, room) refl

changes_accepted : (s : State) (a : Ask) (made : DoneType) (effect : Effect) (decision : Result Decision Refusal) → decision ≡ Ok (Do made effect) → is_full_for s a ≡ false
    → changes_by s a decision ≡ true
changes_accepted s a made effect decision is room = rw (is, room) refl

new_keyless : (o : Option KeptReply) (s : State) (call : Call) → decide_new o s (without_key call) ≡ decide_new o s call
new_keyless (Some k) s call = refl
new_keyless None s call = refl

numbered_keyless : (view : Bool) (s : State) (call : Call) → decide_numbered view s (without_key call) ≡ decide_numbered view s call
numbered_keyless true s call = refl
numbered_keyless false s call = new_keyless (kept_at call.actor call.number s.kept) s call

decided_keyless : (s : State) (call : Call) → decide s (without_key call) ≡ decide s call
unfolding decide
decided_keyless s call = ap (λ (rest : Result Decision Refusal). unless (not_his_role (actor_of s.tables call.actor) call.ask) rest) (numbered_keyless (is_view call.ask) s call)

-- a call that is accepted: its entry comes next
record Enters (s : State) (lane : ℕ) (call : Call) (t : Stepped) : Type 0 where
  done : DoneType
  replies : t.reply ≡ Some (Done done)
  may : MayCome s lane (what.Asked (without_key call) (Done done))
  is : next s lane (what.Asked (without_key call) (Done done)) ≡ t.state
  grown : t.state.entries ≡ s.entries ++ entry lane (what.Asked (without_key call) (Done done)) ∷ []

abbrev Calls : State → ℕ → Call → Stepped → Type 0
Calls s lane call t = (t.state ≡ s) ⊎ Enters s lane call t

accepted_enters : (s : State) (lane : ℕ) (call : Call) (made : DoneType) (effect : Effect) → decide s call ≡ Ok (Do made effect) → is_full_for s call.ask ≡ false
    → Enters s lane call (accepted s lane call made effect)
unfolding do_call changes
accepted_enters s lane call made effect is room =
    let keyless : decide s (without_key call) ≡ Ok (Do made effect) = decided_keyless s call ∙ is in
    let same : do_call s lane (without_key call) ≡ accepted s lane call made effect = finish_keyless s lane call made effect (decide s (without_key call)) keyless room in
    record {
      done = made;
      replies = refl;
      may = (ap (λ p. p.reply) same, changes_accepted s call.ask made effect (decide s (without_key call)) keyless room);
      is = ap (λ p. p.state) same;
      grown = refl;
    }

enter_calls : (full : Bool) (s : State) (lane : ℕ) (call : Call) (made : DoneType) (effect : Effect) → is_full_for s call.ask ≡ full → decide s call ≡ Ok (Do made effect)
    → Calls s lane call (enter full s lane call made effect)
enter_calls true s lane call made effect full is = inl refl
enter_calls false s lane call made effect full is = inr (accepted_enters s lane call made effect is full)

finish_calls : (s : State) (lane : ℕ) (call : Call) (decision : Result Decision Refusal) → decide s call ≡ decision → Calls s lane call (finish s lane call decision)
finish_calls s lane call (Err refusal) is = inl refl
finish_calls s lane call (Ok (Show reply)) is = inl refl
finish_calls s lane call (Ok (Do made effect)) is = enter_calls (is_full_for s call.ask) s lane call made effect refl is

do_calls : (o : Option Refusal) (s : State) (lane : ℕ) (call : Call) → Calls s lane call (do_unless o s lane call)
unfolding do_call
do_calls None s lane call = finish_calls s lane call (decide s call) refl
do_calls (Some refusal) s lane call = inl refl

answer_calls : (s : State) (lane : ℕ) (call : Call) → Calls s lane call (answer_call s lane call)
unfolding answer_call
answer_calls s lane call = do_calls (mistaken (actor_of s.tables call.actor) call.key) s lane call

pub still_adds : (s : State) (t : Stepped) → t.state ≡ s → adds s t ≡ false
still_adds s t is = ap (λ (u : State). nat_lt (length s.entries) (length u.entries)) is ∙ le-ltb (length s.entries) (length s.entries) (omega arith)

more_adds : (s : State) (t : Stepped) (e : Entry) → t.state.entries ≡ s.entries ++ e ∷ [] → adds s t ≡ true
more_adds s t e grown =
    let longer = ap length grown ∙ length-append s.entries (e ∷ []) in
    lt-ltb (length s.entries) (length t.state.entries) (omega (arith, longer))

-- ---- a tick

-- a tick that is made: its entry comes next
pub record Ticks (s : State) (lane to : ℕ) (t : Stepped) : Type 0 where
  pub replies : t.reply ≡ None
  pub room : is_full s ≡ false
  pub moment : t.state.moment ≡ to
  pub grown : t.state.entries ≡ s.entries ++ entry lane (what.Tick to) ∷ []

pub record Stays (s : State) (t : Stepped) : Type 0 where
  pub replies : t.reply ≡ Some (full_reply s)
  pub state : t.state ≡ s

tick_by : (full : Bool) (s : State) (lane to : ℕ) → is_full s ≡ full → Stays s (tick_unless full s lane to) ⊎ Ticks s lane to (tick_unless full s lane to)
tick_by true s lane to full = inl (record { replies = refl; state = refl })
tick_by false s lane to room = inr (record { replies = refl; room = room; moment = refl; grown = refl })

pub tick_steps : (s : State) (lane to : ℕ) → Stays s (tick_to s lane to) ⊎ Ticks s lane to (tick_to s lane to)
unfolding tick_to
tick_steps s lane to = tick_by (is_full s) s lane to refl

-- ---- what an item comes to, under a choice

-- the own entry of an accepted call
pub record MadeOf (lane : ℕ) (i : Item) (says : Said) (u t : State) : Type 0 where
  pub e : Entry
  pub its : IsEntryOf e lane i says
  pub may : MayCome u e.lane e.what
  pub is : next u e.lane e.what ≡ t
  pub grown : t.entries ≡ u.entries ++ e ∷ []

-- the tick that comes before an item
pub record TickedTo (lane : ℕ) (i : Item) (s mid : State) : Type 0 where
  pub to : ℕ
  pub comes : ComesAt to i
  pub may : MayCome s lane (what.Tick to)
  pub is : next s lane (what.Tick to) ≡ mid
  pub grown : mid.entries ≡ s.entries ++ entry lane (what.Tick to) ∷ []

abbrev pub IsMade : ℕ → Item → Said → State → State → Type 0
IsMade lane i says u t = ((t ≡ u) × (Accepts lane u i says → ⊥)) ⊎ (Accepts lane u i says × MadeOf lane i says u t)

-- A state is a board where another is, if the item may be asked.
abbrev pub KeepsBoard : Item → State → State → Type 0
KeepsBoard i s t = (opening : State) → IsBoard opening s → IsAskable i → IsBoard opening t

abbrev pub IsWithin : ℕ → ℕ → ℕ → Type 0
IsWithin low high n = (low < n) × (n ≤ high)

-- a refusal as not kept carries a count within these
abbrev pub CarriesWithin : ℕ → ℕ → Item → Said → State → Type 0
CarriesWithin low high i says s = (opening : State) → IsBoard opening s → IsAskable i → (n : ℕ) → IsUnkept n says → IsWithin low high n

-- an item is judged in a state
pub record Judged (low high lane : ℕ) (i : Item) (u : State) (t : Stepped) : Type 0 where
  pub says : IsSaidIn low high lane u i (said_of t.reply)
  pub made : IsMade lane i (said_of t.reply) u t.state
  pub keeps : KeepsBoard i u t.state
  pub carries : CarriesWithin low high i (said_of t.reply) u

pub record Did (low high lane : ℕ) (s : State) (i : Item) (g : Given) : Type 0 where
  pub mid : State
  pub ticked : (mid ≡ s) ⊎ TickedTo lane i s mid
  pub position : g.outcome.position ≡ length mid.entries
  pub says : IsSaidIn low high lane mid i g.outcome.said
  pub made : IsMade lane i g.outcome.said mid g.state
  pub keeps : KeepsBoard i s g.state
  pub carries : CarriesWithin low high i g.outcome.said s

-- no answer is a refusal as not kept
unkept_reply : (reply : Option Reply) (n : ℕ) → IsUnkept n (said_of reply) → reply ≡ Some (Refused (Unkept n))
unkept_reply None n is = absurd (cc)
unkept_reply (Some reply) n is = cc

never_unkept : (opening u : State) (lane n : ℕ) (call : Call) → IsBoard opening u → IsUnkept n (said_of (answer_call u lane call).reply) → ⊥
unfolding RefusesFor
never_unkept opening u lane n call board is =
    let cause : RefusesFor u call (answer_call u lane call).reply = refused_for u lane call (answer_call u lane call).reply board.sound board.kept refl in
    (cause (Unkept n) (unkept_reply (answer_call u lane call).reply n is)).0

pub is_come : (a b : ℕ) → a ≤ b → nat_le a b ≡ true
is_come a b le = grind (arith, nat_tests, le)

pub is_to_come : (a b : ℕ) → b < a → nat_le a b ≡ false
is_to_come a b less = grind (arith, nat_tests, less)

pub is_later : (a b : ℕ) → nat_lt a b ≡ true → a < b
is_later a b test = grind (arith, nat_tests, test)

pub is_now : (a b : ℕ) → nat_lt a b ≡ false → b ≤ a
is_now a b test = grind (arith, nat_tests, test)

pub true_false : (b : Bool) → b ≡ true → b ≡ false → ⊥
true_false b one two = absurd (cc)

unkept_done : (n : ℕ) (made : DoneType) → said.Reply (Refused (Unkept n)) ≡ said.Reply (Done made) → ⊥
unkept_done n made is = absurd (cc)

pub unkept_full : (n : ℕ) (s : State) → IsUnkept n (said.Reply (full_reply s)) → ⊥
unkept_full n s is = absurd (cc)

pub same_count : (n m : ℕ) → said.Reply (Refused (Unkept n)) ≡ said.Reply (Refused (Unkept m)) → n ≡ m
same_count n m is = cc

same_reply : (r : Reply) (s : State) → Some r ≡ Some (full_reply s) → full_reply s ≡ r
same_reply r s is = cc

pub full_is : (s : State) (low high : ℕ) (reply : Option Reply) → reply ≡ Some (full_reply s) → IsRefusedBy low high reply (said.Reply (full_reply s))
full_is s low high None is = absurd (cc)
full_is s low high (Some r) is = ap said.Reply (same_reply r s is)

pub none_is : (low high : ℕ) (reply : Option Reply) (n : ℕ) → reply ≡ None → IsWithin low high n → IsRefusedBy low high reply (said.Reply (Refused (Unkept n)))
none_is low high None n is within = (n, refl, within.0, within.1)
none_is low high (Some r) n is within = absurd (cc)

stays_as : (s : State) (t : Stepped) → Stays s t → t ≡ record { reply = Some (full_reply s); state = s; notices = t.notices }
stays_as s t stays = ap (λ (r : Option Reply). record { reply = r; state = t.state; notices = t.notices }) stays.replies ∙ ap (λ (u : State). record { reply = Some (full_reply s); state = u; notices = t.notices }) stays.state

module _ (low high lane : ℕ) (u : State) (at : ℕ) (call : Call) (here : at ≤ u.moment) where
  abbrev answer_now : Stepped
  answer_now = answer_call u lane call

  said_now : (says : Said) → IsAnswered low high lane u call says → IsSaidIn low high lane u (item.Call at call) says
  said_now says is = subst (λ (b : Bool). MatchBool b (IsAnswered low high lane u call says) (IsRefusedBy low high (tick_to u lane at).reply says)) (sym (is_come at u.moment here)) is

  own_entry : Enters u lane call answer_now → MadeOf lane (item.Call at call) (said_of answer_now.reply) u answer_now.state
  own_entry e = record {
    e = entry lane (what.Asked (without_key call) (Done e.done));
    its = (Done e.done, ap said_of e.replies, refl);
    may = e.may;
    is = e.is;
    grown = e.grown;
  }

  made_by_calls : Calls u lane call answer_now → IsMade lane (item.Call at call) (said_of answer_now.reply) u answer_now.state
  made_by_calls (inl is) = inl (is, λ accepts. true_false (adds u answer_now) accepts.1 (still_adds u answer_now is))
  made_by_calls (inr e) = inr ((here, more_adds u answer_now (entry lane (what.Asked (without_key call) (Done e.done))) e.grown, refl), own_entry e)

  answered : Judged low high lane (item.Call at call) u answer_now
  answered = record {
    says = said_now (said_of answer_now.reply) (inl refl);
    made = made_by_calls (answer_calls u lane call);
    keeps = λ opening board askable. call_keeps opening u answer_now.state lane call board askable.1 refl;
    carries = λ opening board askable n is. absurd (never_unkept opening u lane n call board is);
  }

  not_accepted : (n : ℕ) → Calls u lane call answer_now → adds u answer_now ≡ true → Accepts lane u (item.Call at call) (said.Reply (Refused (Unkept n))) → ⊥
  not_accepted n (inl is) more accepts = true_false (adds u answer_now) more (still_adds u answer_now is)
  not_accepted n (inr e) more accepts = unkept_done n e.done (accepts.2 ∙ ap said_of e.replies)

  judged_unless : (n : ℕ) (b : Bool) → adds u answer_now ≡ b → IsWithin low high n → Judged low high lane (item.Call at call) u (unkept_if b n u answer_now)
  judged_unless n true more within = record {
    says = said_now (said.Reply (Refused (Unkept n))) (inr (more, (n, refl, within.0, within.1)));
    made = inl (refl, not_accepted n (answer_calls u lane call) more);
    keeps = λ opening board askable. board;
    carries = λ opening board askable m is. subst (IsWithin low high) (same_count n m is) within;
  }
  judged_unless n false still within = answered

  pub judged : (fault : Option ℕ) → IfSome fault (IsWithin low high) → Judged low high lane (item.Call at call) u (made_with fault lane u call)
  judged None within = answered
  judged (Some n) within = judged_unless n (adds u answer_now) refl within

module _ (low high lane : ℕ) (s : State) (at : ℕ) (call : Call) (later : s.moment < at) where
  said_late : (says : Said) → IsRefusedBy low high (tick_to s lane at).reply says → IsSaidIn low high lane s (item.Call at call) says
  said_late says is = subst (λ (b : Bool). MatchBool b (IsAnswered low high lane s call says) (IsRefusedBy low high (tick_to s lane at).reply says)) (sym (is_to_come at s.moment later)) is

  not_yet : (says : Said) → Accepts lane s (item.Call at call) says → ⊥
  not_yet says accepts = let come = accepts.0 in omega (arith, later, come)

  -- the tick is refused, or isn't kept
  tick_refused : (notices : List Notice) (reply : Reply) → IsRefusedBy low high (tick_to s lane at).reply (said.Reply reply) → ((n : ℕ) → IsUnkept n (said.Reply reply) → IsWithin low high n)
      → Did low high lane s (item.Call at call) (given notices s (stay s reply))
  tick_refused notices reply by within = record {
    mid = s;
    ticked = inl refl;
    position = refl;
    says = said_late (said.Reply reply) by;
    made = inl (refl, not_yet (said.Reply reply));
    keeps = λ opening board askable. board;
    carries = λ opening board askable n is. within n is;
  }

  -- the tick is made
  tick_made : (t : Stepped) (fault : Option ℕ) → t ≡ tick_to s lane at → Ticks s lane at t → IfSome fault (IsWithin low high)
      → Did low high lane s (item.Call at call) (given t.notices t.state (made_with fault lane t.state call))
  tick_made t fault is ticks within =
      let state : t.state ≡ (tick_to s lane at).state = ap (λ (x : Stepped). x.state) is in
      let moment = ticks.moment in
      let judges : Judged low high lane (item.Call at call) t.state (made_with fault lane t.state call) = judged low high lane t.state at call (omega (arith, moment)) fault within in
      record {
        mid = t.state;
        ticked = inr (record { to = at; comes = refl; may = (later, ticks.room); is = sym state; grown = ticks.grown });
        position = refl;
        says = judges.says;
        made = judges.made;
        keeps = λ opening board askable. judges.keeps opening (tick_keeps opening s t.state lane at board later askable.0 state) askable;
        carries = λ opening board askable. judges.carries opening (tick_keeps opening s t.state lane at board later askable.0 state) askable;
      }

  ticked_on : (t : Stepped) (fault : Option ℕ) → t ≡ tick_to s lane at → Stays s t ⊎ Ticks s lane at t → IfSome fault (IsWithin low high) → Did low high lane s (item.Call at call) (made_after fault lane t call)
  ticked_on t fault is (inl stays) within =
      subst (λ (x : Stepped). Did low high lane s (item.Call at call) (made_after fault lane x call)) (sym (stays_as s t stays))
      (tick_refused t.notices (full_reply s) (full_is s low high (tick_to s lane at).reply (ap (λ (x : Stepped). x.reply) (sym is) ∙ stays.replies)) (λ n same. absurd (unkept_full n s same)))
  ticked_on t fault is (inr ticks) within =
      subst (λ (r : Option Reply). Did low high lane s (item.Call at call) (given t.notices t.state (once_ticked fault lane r t.state call))) (sym ticks.replies) (tick_made t fault is ticks within)

  late_unless : (t : Stepped) (n : ℕ) (b : Bool) (fault : Option ℕ) → adds s t ≡ b → t ≡ tick_to s lane at → Stays s t ⊎ Ticks s lane at t → IsWithin low high n → IfSome fault (IsWithin low high)
      → Did low high lane s (item.Call at call) (made_after fault lane (unkept_if b n s t) call)
  late_unless t n false fault still is how one two = ticked_on t fault is how two
  late_unless t n true fault more is (inl stays) one two = absurd (true_false (adds s t) more (still_adds s t stays.state))
  late_unless t n true fault more is (inr ticks) one two =
      tick_refused [] (Refused (Unkept n)) (none_is low high (tick_to s lane at).reply n (ap (λ (x : Stepped). x.reply) (sym is) ∙ ticks.replies) one) (λ m same. subst (IsWithin low high) (same_count n m same) one)

  late_by : (t : Stepped) (tick fault : Option ℕ) → t ≡ tick_to s lane at → Stays s t ⊎ Ticks s lane at t → IfSome tick (IsWithin low high) → IfSome fault (IsWithin low high)
      → Did low high lane s (item.Call at call) (made_after fault lane (kept_or tick s t) call)
  late_by t None fault is how one two = ticked_on t fault is how two
  late_by t (Some n) fault is how one two = late_unless t n (adds s t) fault refl is how one two

pub numbers_within : (low high : ℕ) (tick call : Option ℕ) → Rise low ((option_to_list tick ++ option_to_list call) ++ []) high → IfSome tick (IsWithin low high) × IfSome call (IsWithin low high)
numbers_within low high None None rise = (tt, tt)
numbers_within low high None (Some n) rise = (tt, (rise.0, rise.1))
numbers_within low high (Some m) None rise = ((rise.0, rise.1), tt)
numbers_within low high (Some m) (Some n) rise =
    let one = rise.0 in let two = rise.1.0 in let three = rise.1.1 in ((one, omega (arith, two, three)), (omega (arith, one, two), three))

did_call_by : (later : Bool) (low high lane : ℕ) (s : State) (at : ℕ) (call : Call) (c : Choice) → nat_lt s.moment at ≡ later → IfSome c.tick (IsWithin low high) → IfSome c.call (IsWithin low high)
    → Did low high lane s (item.Call at call) (made_by later c lane s at call)
did_call_by true low high lane s at call c late one two = late_by low high lane s at call (is_later s.moment at late) (tick_to s lane at) c.tick c.call refl (tick_steps s lane at) one two
did_call_by false low high lane s at call c come one two =
    let judges : Judged low high lane (item.Call at call) s (made_with c.call lane s call) = judged low high lane s at call (is_now s.moment at come) c.call two in
    record { mid = s; ticked = inl refl; position = refl; says = judges.says; made = judges.made; keeps = judges.keeps; carries = judges.carries }

did_call : (low high lane : ℕ) (s : State) (at : ℕ) (call : Call) (c : Choice) → IfSome c.tick (IsWithin low high) → IfSome c.call (IsWithin low high)
    → Did low high lane s (item.Call at call) (answer_with c lane s at call)
unfolding answer_with
did_call low high lane s at call c one two = did_call_by (nat_lt s.moment at) low high lane s at call c refl one two

bad_call : (n : ℕ) (fault : BadCall) → IsUnkept n (said.Bad fault) → ⊥
bad_call n fault is = absurd (cc)

pub did : (low high lane : ℕ) (s : State) (i : Item) (c : Choice) → Counted low (c ∷ []) high → Did low high lane s i (item_with c lane s i)
did low high lane s (item.Bad fault) c counted = record {
  mid = s;
  ticked = inl refl;
  position = refl;
  says = refl;
  made = inl (refl, λ accepts. accepts);
  keeps = λ opening board askable. board;
  carries = λ opening board askable n is. absurd (bad_call n fault is);
}
did low high lane s (item.Call at call) c counted =
    let both = numbers_within low high c.tick c.call counted in did_call low high lane s at call c both.0 both.1

-- ---- what it adds

pub grows_mid : (low high lane : ℕ) (s : State) (i : Item) (g : Given) → (d : Did low high lane s i g) → Grows s d.mid
grows_mid low high lane s i g d = by d.mid d.ticked
  where
    by : (mid : State) → (mid ≡ s) ⊎ TickedTo lane i s mid → Grows s mid
    by mid (inl is) = grows_none s mid is
    by mid (inr t) = grows_by s mid (entry lane (what.Tick t.to)) t.may t.is t.grown

pub grows_made : (lane : ℕ) (i : Item) (says : Said) (u t : State) → IsMade lane i says u t → Grows u t
grows_made lane i says u t (inl still) = grows_none u t still.0
grows_made lane i says u t (inr own) = grows_by u t own.1.e own.1.may own.1.is own.1.grown

pub grows_item : (low high lane : ℕ) (s : State) (i : Item) (g : Given) → Did low high lane s i g → Grows s g.state
grows_item low high lane s i g d = grows_on s d.mid g.state (grows_mid low high lane s i g d) (grows_made lane i g.outcome.said d.mid g.state d.made)
