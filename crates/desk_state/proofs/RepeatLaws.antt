-- A command that comes again gets what is kept of it, and changes nothing.
use Rattle.std.proofs.Common.{◌≡◌, ℕ, ◌<◌, ◌≤◌, Bool, true, false, List, [], ◌∷◌, ◌++◌, Option, None, Some, refl, ap, sym, ◌∙◌, arith, inl, inr}
use Rattle.std.specs.Prelude.{nat_lt}
use Rattle.std.specs.List.{AllByRecursion}
use Rattle.std.proofs.lemmas.Bool.{le-ltb, ltb-true}
use Rattle.ops_tables.specs.Tables.{TableRows, actor_of}
use Rattle.asks.specs.declared.call.Call.{Call}
use Rattle.asks.specs.declared.kept.KeptReply.{KeptReply}
use Rattle.asks.specs.declared.reply.Reply.{Reply}
use Rattle.asks.specs.declared.reply.Reply.TheVariants.{Done}
use Rattle.asks.specs.Forms.{CallHasForms}
use Rattle.asks.specs.Canonical.{ask_digest}
use Rattle.desk_state.specs.Allowed.{IsPermitted, MayLeadTo, MayTickTo}
use Rattle.desk_state.specs.Decide.{decide, is_view}
use Rattle.desk_state.specs.Events.{effected, kept_after}
use Rattle.desk_state.specs.Lanes.{Answered, said_at, said_of, answer, made_by, once_ticked, answer_item, outcomes, after_items}
use Rattle.desk_state.specs.People.{mistaken, not_his_role}
use Rattle.desk_state.specs.Repeats.{MayAsk, IsKeptFor, SweepsNothing, IsAskable, MayBeLeftOut, MayComeAgain, AcceptedOnce}
use Rattle.desk_state.specs.Requests.{kept_at}
use Rattle.desk_state.specs.Sound.{IsBoard}
use Rattle.desk_state.specs.State.{State, is_sweep}
use Rattle.desk_state.specs.Step.{Stepped, kept_reply, stay, do_call, answer_call, tick_to}
use Rattle.desk_state.specs.declared.lanes.Item.{Item}
use Rattle.desk_state.specs.declared.lanes.Item.TheVariants as item
use Rattle.desk_state.specs.declared.lanes.Said.TheVariants as said
use Rattle.desk_state.proofs.LeadingLaws.{call_leads, tick_leads}
use Rattle.desk_state.proofs.AllowedLaws.{no_sweep, no_view}
use Rattle.desk_state.proofs.Boards.{call_keeps, tick_keeps}
use Rattle.desk_state.proofs.Found.{alike_bytes, new_found, still_found}
use Rattle.desk_state.proofs.Parts.{still_unused}

-- ---- the command itself

-- A command that comes again is answered with what it has done, and changes nothing.
pub repeat_stays : (s : State) (lane : ℕ) (call : Call) (k : KeptReply) → MayAsk s call → IsKeptFor s call k → answer_call s lane call ≡ stay s (Done k.done)
unfolding answer_call do_call decide
repeat_stays s lane call k may is = rw (may.known, may.role, may.command, is.held, alike_bytes k.digest (ask_digest call.ask) is.same) refl

-- ---- what is kept of a command

-- What an accepted command has done is kept with its reply.
pub accepted_kept : (s t : State) (lane : ℕ) (call : Call) (reply : Option Reply) → MayLeadTo lane call s t reply → (t ≡ s → ⊥)
    → (k : KeptReply) × IsKeptFor t call k × (reply ≡ Some (Done k.done))
accepted_kept s t lane call reply (inl same) changes = absurd (changes same.0)
accepted_kept s t lane call reply (inr leads) changes =
    let k : KeptReply = kept_reply (effected leads.1 s) call leads.2 in
    let none = still_unused call.actor call.number leads.1.sweep s.kept leads.7.unused.none in (
      k,
      record {
        held = ap (λ ks. kept_at call.actor call.number ks) leads.7.kept ∙ new_found call.actor call.number (kept_after leads.1.sweep s.kept) k none refl refl;
        same = refl;
      },
      leads.4,
    )

-- It stays kept after any call but a sweep.
kept_by_call : (s t : State) (lane : ℕ) (call : Call) (reply : Option Reply) (actor : List ℕ) (number : ℕ) (k : KeptReply) → MayLeadTo lane call s t reply → is_sweep call.ask ≡ false
    → kept_at actor number s.kept ≡ Some k → kept_at actor number t.kept ≡ Some k
kept_by_call s t lane call reply actor number k (inl same) e is = ap (λ (u : State). kept_at actor number u.kept) same.0 ∙ is
kept_by_call s t lane call reply actor number k (inr leads) e is =
    let none = no_sweep s call.actor leads.3 e in
    ap (λ ks. kept_at actor number ks) leads.7.kept
    ∙ still_found actor number (kept_after leads.1.sweep s.kept) (kept_reply (effected leads.1 s) call leads.2 ∷ []) k (ap (λ o. kept_at actor number (kept_after o s.kept)) none ∙ is)

kept_by_tick : (s t : State) (lane to : ℕ) (reply : Option Reply) (actor : List ℕ) (number : ℕ) (k : KeptReply) → MayTickTo lane to s t reply
    → kept_at actor number s.kept ≡ Some k → kept_at actor number t.kept ≡ Some k
kept_by_tick s t lane to reply actor number k (inl same) is = ap (λ (u : State). kept_at actor number u.kept) same.0 ∙ is
kept_by_tick s t lane to reply actor number k (inr leads) is = ap (λ ks. kept_at actor number ks) leads.4 ∙ is

-- ---- the command among others

-- a board on which a reply is kept
record Holds (opening : State) (actor : List ℕ) (number : ℕ) (k : KeptReply) (s : State) : Type 0 where
  pub board : IsBoard opening s
  pub held : kept_at actor number s.kept ≡ Some k

after_call : (opening s : State) (lane : ℕ) (call : Call) (actor : List ℕ) (number : ℕ) (k : KeptReply) → CallHasForms call → is_sweep call.ask ≡ false → Holds opening actor number k s
    → Holds opening actor number k (answer_call s lane call).state
after_call opening s lane call actor number k form e holds = record {
  board = call_keeps opening s (answer_call s lane call).state lane call holds.board form refl;
  held = kept_by_call s (answer_call s lane call).state lane call (answer_call s lane call).reply actor number k
      (call_leads s (answer_call s lane call).state lane call (answer_call s lane call).reply holds.board.sound holds.board.kept form refl refl) e holds.held;
}

after_tick : (opening s : State) (lane to : ℕ) (actor : List ℕ) (number : ℕ) (k : KeptReply) → s.moment < to → to ≤ 68_374_079 → Holds opening actor number k s
    → Holds opening actor number k (tick_to s lane to).state
after_tick opening s lane to actor number k later within holds =
    let low = holds.board.kept.moment.0 in
    record {
      board = tick_keeps opening s (tick_to s lane to).state lane to holds.board later within refl;
      held = kept_by_tick s (tick_to s lane to).state lane to (tick_to s lane to).reply actor number k
          (tick_leads s (tick_to s lane to).state lane to (tick_to s lane to).reply holds.board.sound ((omega (arith, low, later), within), omega (arith, later)) refl refl) holds.held;
    }

after_ticked : (opening s : State) (lane : ℕ) (o : Option Reply) (call : Call) (actor : List ℕ) (number : ℕ) (k : KeptReply) → CallHasForms call → is_sweep call.ask ≡ false
    → Holds opening actor number k s → Holds opening actor number k (once_ticked lane o s call).state
after_ticked opening s lane None call actor number k form e holds = after_call opening s lane call actor number k form e holds
after_ticked opening s lane (Some reply) call actor number k form e holds = holds

after_answer : (later : Bool) (opening s : State) (lane at : ℕ) (call : Call) (actor : List ℕ) (number : ℕ) (k : KeptReply) → nat_lt s.moment at ≡ later → at ≤ 68_374_079 → CallHasForms call
    → is_sweep call.ask ≡ false → Holds opening actor number k s → Holds opening actor number k (made_by later lane s at call).state
after_answer false opening s lane at call actor number k f within form e holds = after_call opening s lane call actor number k form e holds
after_answer true opening s lane at call actor number k f within form e holds =
    after_ticked opening (tick_to s lane at).state lane (tick_to s lane at).reply call actor number k form e (after_tick opening s lane at actor number k (ltb-true s.moment at f) within holds)

after_item : (opening s : State) (lane : ℕ) (i : Item) (actor : List ℕ) (number : ℕ) (k : KeptReply) → IsAskable i → SweepsNothing i → Holds opening actor number k s
    → Holds opening actor number k (answer_item lane s i).state
unfolding answer
after_item opening s lane (item.Bad fault) actor number k form e holds = holds
after_item opening s lane (item.Call at call) actor number k form e holds = after_answer (nat_lt s.moment at) opening s lane at call actor number k refl form.0 form.1 e holds

holds_through : (opening s : State) (lane : ℕ) (items : List Item) (actor : List ℕ) (number : ℕ) (k : KeptReply) → AllByRecursion IsAskable items → AllByRecursion SweepsNothing items
    → Holds opening actor number k s → Holds opening actor number k (after_items lane s items)
holds_through opening s lane [] actor number k forms none holds = holds
holds_through opening s lane (i ∷ rest) actor number k forms none holds =
    holds_through opening (answer_item lane s i).state lane rest actor number k forms.1 none.1 (after_item opening s lane i actor number k forms.0 none.0 holds)

-- What is kept of a command stays kept while other items come, of which none sweeps anything.
pub kept_through : (opening s : State) (lane : ℕ) (items : List Item) (actor : List ℕ) (number : ℕ) (k : KeptReply) → IsBoard opening s → AllByRecursion IsAskable items
    → AllByRecursion SweepsNothing items → kept_at actor number s.kept ≡ Some k → kept_at actor number (after_items lane s items).kept ≡ Some k
kept_through opening s lane items actor number k board forms none is = (holds_through opening s lane items actor number k forms none (record { board = board; held = is })).held

outcomes_on : (lane : ℕ) (s : State) (xs ys : List Item) → outcomes lane s (xs ++ ys) ≡ outcomes lane s xs ++ outcomes lane (after_items lane s xs) ys
outcomes_on lane s [] ys = refl
outcomes_on lane s (x ∷ xs) ys = ap (λ rest. (answer_item lane s x).outcome ∷ rest) (outcomes_on lane (answer_item lane s x).state xs ys)

items_on : (lane : ℕ) (s : State) (xs ys : List Item) → after_items lane s (xs ++ ys) ≡ after_items lane (after_items lane s xs) ys
items_on lane s [] ys = refl
items_on lane s (x ∷ xs) ys = items_on lane (answer_item lane s x).state xs ys

-- at a moment that has come, no tick comes first
answered_again : (s : State) (lane at : ℕ) (call : Call) (k : KeptReply) → at ≤ s.moment → MayAsk s call → IsKeptFor s call k
    → answer_item lane s (item.Call at call) ≡ said_at s (said.Reply (Done k.done)) s
unfolding answer
answered_again s lane at call k within may is =
    ap (λ later. made_by later lane s at call) (le-ltb s.moment at within) ∙ ap (λ (stepped : Stepped). said_at s (said_of stepped.reply) stepped.state) (repeat_stays s lane call k may is)

-- Taking a repeated command out of a list of items changes neither the last state nor another outcome.
pub left_out : (s : State) (lane : ℕ) (before after : List Item) (at : ℕ) (call : Call) (k : KeptReply) → at ≤ (after_items lane s before).moment → MayAsk (after_items lane s before) call
    → IsKeptFor (after_items lane s before) call k → MayBeLeftOut lane s before after at call k
left_out s lane before after at call k within may is =
    let u : State = after_items lane s before in
    let again : answer_item lane u (item.Call at call) ≡ said_at u (said.Reply (Done k.done)) u = answered_again u lane at call k within may is in
    record {
      outcomes_with = outcomes_on lane s before (item.Call at call ∷ after) ∙ ap (λ (a : Answered). outcomes lane s before ++ a.outcome ∷ outcomes lane a.state after) again;
      outcomes_without = outcomes_on lane s before after;
      states = items_on lane s before (item.Call at call ∷ after) ∙ ap (λ (a : Answered). after_items lane a.state after) again ∙ sym (items_on lane s before after);
    }

-- ---- an accepted command that comes again

pub may_ask_as : (s t : State) (call : Call) → t.tables ≡ s.tables → MayAsk s call → MayAsk t call
may_ask_as s t call same may = record {
  known = ap (λ (tables : TableRows). mistaken (actor_of tables call.actor) call.key) same ∙ may.known;
  role = ap (λ (tables : TableRows). not_his_role (actor_of tables call.actor) call.ask) same ∙ may.role;
  command = may.command;
}

-- what is kept of a command lets it come again
pub comes_again : (opening s : State) (call : Call) (k : KeptReply) → IsBoard opening s → MayAsk s call → IsKeptFor s call k → MayComeAgain s call k
comes_again opening s call k board may is lane before after at forms none within =
    let holds = holds_through opening s lane before call.actor call.number k forms none (record { board = board; held = is.held }) in
    left_out s lane before after at call k within (may_ask_as s (after_items lane s before) call (holds.board.tables ∙ sym board.tables) may) (record { held = holds.held; same = is.same })

pub permitted_asks : (s : State) (call : Call) → IsPermitted s call → is_view call.ask ≡ false → MayAsk s call
permitted_asks s call is command =
    let known = is.known in let role = is.role in
    record { known = rw (known, alike_bytes is.person.key call.key is.key) refl; role = rw (known, role) refl; command = command }

-- once it was accepted it may come again
pub accepted_again : (opening s t : State) (lane : ℕ) (call : Call) (reply : Option Reply) → IsBoard opening t → MayLeadTo lane call s t reply → AcceptedOnce s t call
accepted_again opening s t lane call reply board (inl same) = record { again = λ changes. absurd (changes same.0) }
accepted_again opening s t lane call reply board (inr leads) =
    let may : MayAsk t call = may_ask_as s t call leads.8.tables (permitted_asks s call leads.0 (no_view s call.actor leads.3)) in
    record { again = λ changes. let kept = accepted_kept s t lane call reply (inr leads) changes in (kept.0, kept.1, comes_again opening t call kept.0 board may kept.1) }
