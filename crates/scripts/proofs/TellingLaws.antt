-- The notices of items are those of the entries that the items add to the board's history.
use Rattle.std.proofs.Common.{◌≡◌, ℕ, ◌<◌, ◌≤◌, Bool, true, false, List, [], ◌∷◌, ◌++◌, append-nil, append_assoc, map, Option, None, Some, refl, sym, ap, ◌∙◌, subst}
use Rattle.std.specs.List.{AllByRecursion}
use Rattle.std.specs.Prelude.{nat_lt}
use Rattle.alerts.specs.declared.notices.Notice.{Notice}
use Rattle.asks.specs.Forms.{CallHasForms}
use Rattle.asks.specs.declared.call.Call.{Call}
use Rattle.asks.specs.declared.reply.Reply.{Reply}
use Rattle.desk.proofs.Growing.{is_later}
use Rattle.desk.specs.Heard.{told_by_all}
use Rattle.desk.specs.Keeping.{Choice, Given, adds, after_with, answer_with, item_with, kept_or, made_by, made_with, no_choice, once_ticked, ticked_with, unkept_if}
use Rattle.desk_state.proofs.Boards.{call_keeps, tick_keeps}
use Rattle.desk_state.specs.Lanes.{after_items}
use Rattle.desk_state.specs.Repeats.{IsAskable}
use Rattle.desk_state.specs.Sound.{IsBoard}
use Rattle.desk_state.specs.State.{State}
use Rattle.desk_state.specs.Step.{Stepped, answer_call, tick_to}
use Rattle.desk_state.specs.declared.lanes.Item.{Item}
use Rattle.desk_state.specs.declared.lanes.Item.TheVariants as kind
use Rattle.relief.specs.Seated.{Told, told_under}
use Rattle.relief.specs.declared.lines.RosterLine.{RosterLine}
use Rattle.scripts.proofs.OneLane.{none_after, quiet_state}
use Rattle.desk.proofs.HeardLaws.{made_tells, ticked_tells}
use Rattle.scripts.specs.Routes.{Placed}
use Rattle.scripts.specs.ShiftRuns.{notices_in, told_of, told_with}

-- What was done from one state to another has these notices.
pub record HasTold (opening s : State) (notices : List Notice) (t : State) : Type 0 where
  pub tells : told_by_all opening t.entries ≡ told_by_all opening s.entries ++ notices
  pub board : IsBoard opening t

nothing_told : (opening s : State) → IsBoard opening s → HasTold opening s [] s
nothing_told opening s board = record { tells = sym (append-nil (told_by_all opening s.entries)); board = board }

told_on : (opening s t u : State) (ns ms : List Notice) → HasTold opening s ns t → HasTold opening t ms u → HasTold opening s (ns ++ ms) u
told_on opening s t u ns ms one two =
    record { tells = two.tells ∙ ap (λ told. told ++ ms) one.tells ∙ append_assoc (told_by_all opening s.entries) ns ms; board = two.board }

-- ---- an item

unkept_keeps : (adding : Bool) (opening s : State) (n : ℕ) (t : Stepped) → IsBoard opening s → IsBoard opening t.state → IsBoard opening (unkept_if adding n s t).state
unkept_keeps true opening s n t old new = old
unkept_keeps false opening s n t old new = new

kept_keeps : (fault : Option ℕ) (opening s : State) (t : Stepped) → IsBoard opening s → IsBoard opening t.state → IsBoard opening (kept_or fault s t).state
kept_keeps None opening s t old new = new
kept_keeps (Some n) opening s t old new = unkept_keeps (adds s t) opening s n t old new

call_tells : (fault : Option ℕ) (opening s : State) (call : Call) → IsBoard opening s → CallHasForms call → HasTold opening s (made_with fault 1 s call).notices (made_with fault 1 s call).state
call_tells fault opening s call board forms = record {
  tells = made_tells fault 1 opening s call board.history;
  board = kept_keeps fault opening s (answer_call s 1 call) board (call_keeps opening s (answer_call s 1 call).state 1 call board forms refl);
}

tick_tells : (fault : Option ℕ) (opening s : State) (at : ℕ) → IsBoard opening s → s.moment < at → at ≤ 68_374_079 → HasTold opening s (ticked_with fault 1 s at).notices (ticked_with fault 1 s at).state
tick_tells fault opening s at board later within = record {
  tells = ticked_tells fault 1 opening s at board.history;
  board = kept_keeps fault opening s (tick_to s 1 at) board (tick_keeps opening s (tick_to s 1 at).state 1 at board later within refl);
}

once_tells : (fault : Option ℕ) (reply : Option Reply) (opening s : State) (call : Call) → IsBoard opening s → CallHasForms call
    → HasTold opening s (once_ticked fault 1 reply s call).notices (once_ticked fault 1 reply s call).state
once_tells fault (Some reply) opening s call board forms = nothing_told opening s board
once_tells fault None opening s call board forms = call_tells fault opening s call board forms

call_tells_by : (later : Bool) (opening s : State) (c : Choice) (at : ℕ) (call : Call) → nat_lt s.moment at ≡ later → IsBoard opening s → at ≤ 68_374_079 → CallHasForms call
    → HasTold opening s ((made_by later c 1 s at call).ticked ++ (made_by later c 1 s at call).called) (made_by later c 1 s at call).state
call_tells_by true opening s c at call is board within forms =
    let t : Stepped = ticked_with c.tick 1 s at in
    let one : HasTold opening s t.notices t.state = tick_tells c.tick opening s at board (is_later s.moment at is) within in
    let two : Stepped = once_ticked c.call 1 t.reply t.state call in
    told_on opening s t.state two.state t.notices two.notices one (once_tells c.call t.reply opening t.state call one.board forms)
call_tells_by false opening s c at call is board within forms = call_tells c.call opening s call board forms

item_tells : (opening s : State) (c : Choice) (i : Item) → IsBoard opening s → IsAskable i
    → HasTold opening s ((item_with c 1 s i).ticked ++ (item_with c 1 s i).called) (item_with c 1 s i).state
unfolding answer_with
item_tells opening s c (kind.Bad fault) board askable = nothing_told opening s board
item_tells opening s c (kind.Call at call) board askable = call_tells_by (nat_lt s.moment at) opening s c at call refl board askable.0 askable.1

-- ---- the notices alone

under_notices : (roster : List RosterLine) (ns : List Notice) → notices_in (told_under roster ns) ≡ ns
under_notices roster [] = refl
under_notices roster (n ∷ ns) = ap (λ more. n ∷ more) (under_notices roster ns)

notices_on : (told more : List Told) → notices_in (told ++ more) ≡ notices_in told ++ notices_in more
notices_on [] more = refl
notices_on (t ∷ told) more = ap (λ ns. t.notice ∷ ns) (notices_on told more)

of_notices : (roster : List RosterLine) (g : Given) (more : List Told) → notices_in (told_of roster g ++ more) ≡ (g.ticked ++ g.called) ++ notices_in more
of_notices roster g more =
    notices_on (told_of roster g) more
    ∙ ap (λ ns. ns ++ notices_in more) (notices_on (told_under roster g.ticked) (told_under roster g.called))
    ∙ ap (λ ns. (ns ++ notices_in (told_under roster g.called)) ++ notices_in more) (under_notices roster g.ticked)
    ∙ ap (λ ns. (g.ticked ++ ns) ++ notices_in more) (under_notices roster g.called)

-- ---- items one after another

item_then : (opening s u : State) (c : Choice) (roster : List RosterLine) (i : Item) (more : List Told) → IsBoard opening s → IsAskable i
    → (IsBoard opening (item_with c 1 s i).state → HasTold opening (item_with c 1 s i).state (notices_in more) u)
    → HasTold opening s (notices_in (told_of roster (item_with c 1 s i) ++ more)) u
item_then opening s u c roster i more board askable rest =
    let g : Given = item_with c 1 s i in
    let one : HasTold opening s (g.ticked ++ g.called) g.state = item_tells opening s c i board askable in
    subst (λ ns. HasTold opening s ns u) (sym (of_notices roster g more))
    (told_on opening s g.state u (g.ticked ++ g.called) (notices_in more) one (rest one.board))

none_next : (s : State) (i : Item) (items : List Item) → after_with 1 (item_with no_choice 1 s i).state items [] ≡ after_with 1 s (i ∷ items) []
none_next s i items = sym (none_after (item_with no_choice 1 s i).state items) ∙ ap (λ (u : State). after_items 1 u items) (quiet_state s i)

items_tell : (opening s : State) (places : List Placed) (choices : List Choice) → IsBoard opening s → AllByRecursion IsAskable (map (λ p. p.item) places)
    → HasTold opening s (notices_in (told_with s places choices)) (after_with 1 s (map (λ p. p.item) places) choices)
items_tell opening s [] choices board askable = nothing_told opening s board
items_tell opening s (p ∷ rest) [] board askable =
    let next : State = (item_with no_choice 1 s p.item).state in
    let its : List Item = map (λ p. p.item) rest in
    subst (HasTold opening s (notices_in (told_with s (p ∷ rest) []))) (none_next s p.item its)
    (item_then opening s (after_with 1 next its []) no_choice p.roster p.item (told_with next rest []) board askable.0
    (λ on. items_tell opening next rest [] on askable.1))
items_tell opening s (p ∷ rest) (c ∷ cs) board askable =
    let next : State = (item_with c 1 s p.item).state in
    let its : List Item = map (λ p. p.item) rest in
    item_then opening s (after_with 1 next its cs) c p.roster p.item (told_with next rest cs) board askable.0
    (λ on. items_tell opening next rest cs on askable.1)

-- what the notices of a run add to those of the history
pub run_tells : (opening s : State) (places : List Placed) (choices : List Choice) (t : State) → IsBoard opening s → AllByRecursion IsAskable (map (λ p. p.item) places)
    → t ≡ after_with 1 s (map (λ p. p.item) places) choices → told_by_all opening t.entries ≡ told_by_all opening s.entries ++ notices_in (told_with s places choices)
run_tells opening s places choices t board askable is =
    ap (λ (u : State). told_by_all opening u.entries) is ∙ (items_tell opening s places choices board askable).tells
