-- A name of a command and words after it are read, and nothing in them fails.
use Rattle.std.proofs.Common.{◌≡◌, ℕ, ◌≤◌, ◌++◌, ◌==◌, length, map, Option, Some, None, List, [], ◌∷◌, codes, true, false, not, Bool, refl, sym, ap, ◌∙◌, subst, fold, true≢false, append_assoc, append-nil, arith, nat_lt, is_some, cond}
use Rattle.std.specs.List.{list_all}
use Rattle.std.specs.Str.{bytes_eq}
use Rattle.std.proofs.lemmas.Bool.{and_parts, le-ltb}
use Rattle.std.proofs.lemmas.Slice.Eq.{bytes_eq-Decides}
use Rattle.clap.specs.Lexer.{usize_max}
use Rattle.clap.specs.Faults.{fault_of, is_simple_and_free, walk_fault, turn_fault, settle_fault, use_fault, values_fault, level_fault, defaults_fault, check_fault, entered_fault}
use Rattle.clap.specs.Kinds.{Kinds, or_else, range_kinds}
use Rattle.clap.specs.Simple.{Shape, built, is_simple, new_shape, entered, subcommand_of}
use Rattle.clap.specs.Walk.{Text, Rule, Held, Walk, Waiting, idle, positional, walked, nothing_held, rows_after, settled, finished, Names}
use Rattle.clap.specs.declared.builder.action.ArgAction.TheVariants.{Append}
use Rattle.clap.specs.declared.builder.value_parser.ValueParser.TheVariants as vp
use Rattle.clap.proofs.OnLiterals.{clap_on_literals}
use Rattle.words.specs.Names.{desk_app, rest_rule, asked_in as asked_by_rows}
use Rattle.words.specs.declared.task.Name.{Name}
use Rattle.words.specs.Words.{is_word, is_name, are_named, asked_of, asked_in, row_of, command_among, commands}

pub simple : is_simple_and_free desk_app ≡ true
unfolding clap_on_literals
simple = refl

pub simple_app : is_simple desk_app ≡ true
unfolding clap_on_literals
simple_app = refl

-- the rule of the words after a name, as built
abbrev rule : Rule
rule = record rest_rule { action = Some Append; parser = Some vp.String; index = Some 1 }

abbrev pend : List Text → Option (Text × List Text)
pend [] = None
pend (w ∷ ws) = Some (codes "words", w ∷ ws)

abbrev wait : List Text → Waiting
wait [] = idle
wait (w ∷ ws) = positional

abbrev at_words : List Text → Walk
at_words ws = record {
  held = record { rows = []; pending = pend ws; skip = 0 };
  waiting = wait ws;
  position = 1;
  is_trailing = false;
  stopped = None;
}

no_dash : (x : ℕ) (xs : List ℕ) → is_word (x ∷ xs) ≡ true → (x == 45) ≡ false
no_dash x xs h = flip (x == 45) h
  where
    flip : (b : Bool) → not b ≡ true → b ≡ false
    flip true h = cc
    flip false h = refl

leaf_step : (ws : List Text) (u : Text) → is_word u ≡ true → walked (rule ∷ []) [] (at_words ws) u ≡ at_words (ws ++ u ∷ [])
unfolding clap_on_literals walked
leaf_step ws [] h = absurd (true≢false (sym h))
leaf_step [] (x ∷ xs) h = let e = no_dash x xs h in rw e (rw e refl)
leaf_step (w ∷ ws) (x ∷ xs) h = let e = no_dash x xs h in rw e (rw e refl)

leaf_walk : (us ws : List Text) → list_all is_word us ≡ true → fold (walked (rule ∷ []) []) (at_words ws) us ≡ at_words (ws ++ us)
leaf_walk [] ws h = ap at_words (sym (append-nil ws))
leaf_walk (u ∷ us) ws h =
    let parts = and_parts (is_word u) (list_all is_word us) h in
    ap (λ s. fold (walked (rule ∷ []) []) s us) (leaf_step ws u parts.0)
    ∙ leaf_walk us (ws ++ u ∷ []) parts.1 ∙ ap at_words (append_assoc ws (u ∷ []) us)

turn_fine : (s : Shape) → s.rules ≡ rule ∷ [] → (ws : List Text) (u : Text) → is_word u ≡ true → turn_fault s [] (at_words ws) u ≡ []
unfolding clap_on_literals walked
turn_fine s r ws [] h = absurd (true≢false (sym h))
turn_fine s r [] (x ∷ xs) h = let e = no_dash x xs h in rw r (rw e (rw e refl))
turn_fine s r (w ∷ ws) (x ∷ xs) h = let e = no_dash x xs h in rw r (rw e (rw e refl))

leaf_fine : (s : Shape) → s.rules ≡ rule ∷ [] → (us ws : List Text) → list_all is_word us ≡ true → walk_fault s [] (at_words ws) us ≡ []
unfolding walk_fault
leaf_fine s r [] ws h = refl
leaf_fine s r (u ∷ us) ws h =
    let parts = and_parts (is_word u) (list_all is_word us) h in
    ap (λ k. or_else k (walk_fault s [] (walked s.rules [] (at_words ws) u) us)) (turn_fine s r ws u parts.0)
    ∙ ap (λ w. walk_fault s [] w us) (ap (λ rs. walked rs [] (at_words ws) u) r ∙ leaf_step ws u parts.0)
    ∙ leaf_fine s r us (ws ++ u ∷ []) parts.1

no_values : (ws : List Text) → values_fault rule ws ≡ []
no_values [] = refl
no_values (w ∷ ws) = no_values ws

-- a subcommand as built
abbrev sub : List ℕ → Shape
sub name = record (new_shape name) {
  rules = rule ∷ [];
  no_binary_name = true;
  disable_help_flag = true;
  disable_help_subcommand = true;
  disable_version_flag = true;
  is_built = true;
}

in_range : (n : ℕ) → n ≤ usize_max → range_kinds 0 usize_max n ≡ []
in_range n h =
    let a : (nat_lt n 0) ≡ false = le-ltb n 0 (omega arith) in
    let b : (nat_lt usize_max n) ≡ false = le-ltb usize_max n h in
    rw a (rw b refl)

uses_fine : (ws : List Text) → length ws ≤ usize_max → use_fault false rule ws [] ≡ []
uses_fine [] h = refl
uses_fine (w ∷ ws) h = ap (λ k. or_else k (values_fault rule (w ∷ ws))) (in_range (length (w ∷ ws)) h) ∙ no_values (w ∷ ws)

rest_fine : (name : List ℕ) (us : List Text) → length us ≤ usize_max
    → or_else (settle_fault (rule ∷ []) false (at_words us).held)
    (or_else (defaults_fault (settled (rule ∷ []) (at_words us).held).rows (rule ∷ [])) (check_fault (sub name) (finished (rule ∷ []) (at_words us).held) false)) ≡ []
unfolding defaults_fault
rest_fine name [] h = refl
rest_fine name (u ∷ us) h =
    let h2 : Held = (at_words (u ∷ us)).held in
    let after : Kinds = or_else (defaults_fault (settled (rule ∷ []) h2).rows (rule ∷ [])) (check_fault (sub name) (finished (rule ∷ []) h2) false) in
    ap (λ k. or_else k after) (uses_fine (u ∷ us) h)

leaf_level : (name : List ℕ) (us : List Text) → list_all is_word us ≡ true → length us ≤ usize_max → level_fault (sub name) [] nothing_held us false [] ≡ []
leaf_level name us plain h =
    let end : fold (walked (rule ∷ []) []) (at_words []) us ≡ at_words us = leaf_walk us [] plain in
    let ends : Walk → Kinds = λ w. or_else (settle_fault (rule ∷ []) false w.held)
    (or_else (defaults_fault (settled (rule ∷ []) w.held).rows (rule ∷ [])) (check_fault (sub name) (finished (rule ∷ []) w.held) false)) in
    ap (λ k. or_else k (ends (fold (walked (rule ∷ []) []) (at_words []) us))) (leaf_fine (sub name) refl us [] plain) ∙ ap ends end ∙ rest_fine name us h

-- ---- the words from the name on

abbrev names : Names
names = map (λ command. ((row_of command).name, [])) commands

abbrev at_stop : Option (Text × List Text) → Walk
at_stop stop = record { held = nothing_held; waiting = idle; position = 1; is_trailing = false; stopped = stop }

stop_walk : (us : List Text) (n : Text) (ps : List Text) → fold (walked [] names) (at_stop (Some (n, ps))) us ≡ at_stop (Some (n, ps ++ us))
unfolding walked
stop_walk [] n ps = ap (λ l. at_stop (Some (n, l))) (sym (append-nil ps))
stop_walk (u ∷ us) n ps = stop_walk us n (ps ++ u ∷ []) ∙ ap (λ l. at_stop (Some (n, l))) (append_assoc ps (u ∷ []) us)

stop_fine : (s : Shape) (us : List Text) (n : Text) (ps : List Text) → walk_fault s names (at_stop (Some (n, ps))) us ≡ []
unfolding walk_fault walked
stop_fine s [] n ps = refl
stop_fine s (u ∷ us) n ps = stop_fine s us n (ps ++ u ∷ [])

abbrev rest_of_top : Walk → Kinds
rest_of_top w =
    let a = built desk_app in
    or_else (entered_fault a w.stopped) (or_else (settle_fault a.top.rules a.top.args_override_self w.held)
    (or_else (defaults_fault (settled a.top.rules w.held).rows a.top.rules) (check_fault a.top (finished a.top.rules w.held) (is_some (entered a w.stopped)))))

-- ---- whichever name it is

abbrev first_or : {X : Type 0} → X → List X → X
first_or x [] = x
first_or x (y ∷ ys) = y

abbrev rest : {X : Type 0} → List X → List X
rest [] = []
rest (x ∷ xs) = xs

named_here : {X : Type 0} (f g : Text → X) (own name : Text) (command : Name) (others : Option Name) → f own ≡ g own → (is_some others ≡ true → f name ≡ g name)
    → (b : Bool) → bytes_eq own name ≡ b → is_some (cond b (Some command) others) ≡ true → f name ≡ g name
named_here f g own name command others same more true hit is = subst (λ n. f n ≡ g n) ((bytes_eq-Decides own name).0 hit) same
named_here f g own name command others same more false miss is = more is

-- what is the same at each name of the table is the same at a name of a command
named_among : {X : Type 0} (f g : Text → X) (all : List Name) (name : Text) → map (λ command. f (row_of command).name) all ≡ map (λ command. g (row_of command).name) all
    → is_some (command_among all name) ≡ true → f name ≡ g name
named_among f g [] name same is = absurd (true≢false (sym is))
named_among f g (command ∷ all) name same is =
    named_here f g (row_of command).name name command (command_among all name) (ap (first_or (f (row_of command).name)) same)
    (named_among f g all name (ap rest same)) (bytes_eq (row_of command).name name) refl is

-- ---- what fails

turns_fine : (us : List Text) (name : Text) → is_name name ≡ true
    → fault_of desk_app (name ∷ us) ≡ or_else (walk_fault (built desk_app).top names (at_stop (Some (name, []))) us) (rest_of_top (fold (walked [] names) (at_stop (Some (name, []))) us))
unfolding clap_on_literals walked walk_fault defaults_fault
turns_fine us name is = named_among (λ n. fault_of desk_app (n ∷ us))
    (λ n. or_else (walk_fault (built desk_app).top names (at_stop (Some (n, []))) us) (rest_of_top (fold (walked [] names) (at_stop (Some (n, []))) us))) commands name refl is

ends_fine : (us : List Text) (name : Text) → is_name name ≡ true → rest_of_top (at_stop (Some (name, us))) ≡ or_else (level_fault (sub name) [] nothing_held us false []) []
unfolding clap_on_literals walked walk_fault defaults_fault
ends_fine us name is = named_among (λ n. rest_of_top (at_stop (Some (n, us)))) (λ n. or_else (level_fault (sub n) [] nothing_held us false []) []) commands name refl is

name_fine : (us : List Text) (name : Text) → is_name name ≡ true → list_all is_word us ≡ true → length us ≤ usize_max → fault_of desk_app (name ∷ us) ≡ []
name_fine us name is plain h =
    turns_fine us name is
    ∙ ap (λ k. or_else k (rest_of_top (fold (walked [] names) (at_stop (Some (name, []))) us))) (stop_fine (built desk_app).top us name [])
    ∙ ap rest_of_top (stop_walk us name [])
    ∙ ends_fine us name is
    ∙ ap (λ (k : Kinds). or_else k []) (leaf_level name us plain h)

-- a name and words give no fault, so a parse of them fails for memory alone
pub none_fail : (words : List Text) → length words ≤ usize_max → are_named words ≡ true → fault_of desk_app words ≡ []
none_fail [] few named = absurd (true≢false (sym named))
none_fail (name ∷ us) few named =
    let parts = and_parts (is_name name) (list_all is_word us) named in
    name_fine us name parts.0 parts.1 (omega (arith, few))

-- ---- what is found

leaf_asked : (name : Text) (us : List Text) → list_all is_word us ≡ true → asked_by_rows (Some (name, rows_after (rule ∷ []) [] us)) ≡ asked_of name us
leaf_asked name us plain = ap (λ (w : Walk). asked_by_rows (Some (name, finished (rule ∷ []) w.held))) (leaf_walk us [] plain) ∙ last us
  where
    last : (us : List Text) → asked_by_rows (Some (name, finished (rule ∷ []) (at_words us).held)) ≡ asked_of name us
    last [] = refl
    last (u ∷ us) = refl

turns_found : (us : List Text) (name : Text) → is_name name ≡ true → subcommand_of desk_app (name ∷ us) ≡ entered (built desk_app) (fold (walked [] names) (at_stop (Some (name, []))) us).stopped
unfolding clap_on_literals walked
turns_found us name is = named_among (λ n. subcommand_of desk_app (n ∷ us)) (λ n. entered (built desk_app) (fold (walked [] names) (at_stop (Some (n, []))) us).stopped) commands name refl is

ends_found : (us : List Text) (name : Text) → is_name name ≡ true → entered (built desk_app) (Some (name, us)) ≡ Some (name, rows_after (rule ∷ []) [] us)
unfolding clap_on_literals walked
ends_found us name is = named_among (λ n. entered (built desk_app) (Some (n, us))) (λ n. Some (n, rows_after (rule ∷ []) [] us)) commands name refl is

-- what is found of them is the command that they form
pub asked_found : (words : List Text) → are_named words ≡ true → asked_by_rows (subcommand_of desk_app words) ≡ asked_in words
asked_found [] named = absurd (true≢false (sym named))
asked_found (name ∷ us) named =
    let parts = and_parts (is_name name) (list_all is_word us) named in
    rw named (
    ap asked_by_rows (turns_found us name parts.0 ∙ ap (λ (w : Walk). entered (built desk_app) w.stopped) (stop_walk us name []) ∙ ends_found us name parts.0)
    ∙ leaf_asked name us parts.1)
