use Rattle.std.proofs.Common.{rules, arith, refl, sym, ap, ap₂, subst, ◌∙◌, ◌≡◌, ◌≤◌, ◌<◌, ℕ, List, [], ◌∷◌, ◌+◌, true, false, drop, get_or, length, drop-cons, add-one, Option, Some, option_map}
use Rattle.std.proofs.lemmas.List.{drop_all}
use Rattle.csv.specs.Machine.{Read, next_record, is_end, ends_at_end}
use Rattle.csv.specs.Reading.{default_config}
use Rattle.csv.specs.declared.parser.State.{State}
use Rattle.csv.specs.declared.parser.State.TheVariants as st
use Rattle.csv_text.specs.Steps.{state_of, action_of, first_of}
use Rattle.csv_text.proofs.Firsts.{goes_on, kept_within, ends_here, ends_last, ends_no_more}
use Rattle.csv_text.proofs.steps.read_record.Goals as goal

cut : (text : List ℕ) (i : ℕ) → i < length text → drop i text ≡ get_or text i 0 ∷ drop (i + 1) text
cut text i h = rw (add-one, drop-cons text i 0) refl

abbrev left : ℕ → State → List (List ℕ) → List ℕ → List ℕ → Option Read
left most s fields field rest = option_map (first_of most) (next_record default_config s fields field rest)

pub loop-i-init : goal.loop-i-init
loop-i-init c = rw (c.new-fields.ensures.items, c.new-field.ensures.items) (record { same = refl; within = omega arith })

pub loop-i-preserved : goal.loop-i-preserved
loop-i-preserved c =
    let i = c.loop-i.i in
    let most = c.args.most in
    let text : List ℕ = c.args.text.now in
    let b : ℕ = get_or text i 0 in
    let place = state_of c.loop-i.place in
    let next = state_of c.step-next.result.0 in
    let a = action_of c.step-next.result.1 in
    let fs : List (List ℕ) = c.loop-i.fields.items in
    let f : List ℕ = c.loop-i.field.items in
    let before = c.loop-i.invariant.same ∙ ap (left most place fs f) (cut text i (omega arith)) in
    let h : is_end a ≡ false = sym c.ends.ensures ∙ c.if-ends.false in
    let made = c.in_ok-take_byte.ensures in
    record {
      same = before ∙ goes_on default_config most place next a fs f (drop (i + 1) text) b c.step-next.ensures h
          ∙ sym (ap₂ (λ x y. left most next x y (drop (i + 1) text)) made.fields made.field);
      within = subst (λ (x : List (List ℕ)). length x ≤ most) (sym made.fields) (kept_within default_config most a fs f c.loop-i.invariant.within);
    }

pub returns-then-ends-clause-value : goal.returns-then-ends-clause-value
returns-then-ends-clause-value c =
    let i = c.loop-i.i in
    let most = c.args.most in
    let text : List ℕ = c.args.text.now in
    let b : ℕ = get_or text i 0 in
    let place = state_of c.loop-i.place in
    let next = state_of c.step-next.result.0 in
    let a = action_of c.step-next.result.1 in
    let fs : List (List ℕ) = c.loop-i.fields.items in
    let f : List ℕ = c.loop-i.field.items in
    let before = c.loop-i.invariant.same ∙ ap (left most place fs f) (cut text i (omega arith)) in
    let h : is_end a ≡ true = sym c.ends.ensures ∙ c.if-ends.true in
    let is = before ∙ ends_here default_config most place next a fs f (drop (i + 1) text) b c.step-next.ensures h c.loop-i.invariant.within in
    sym (is ∙ ap (λ (x : List (List ℕ)). Some (x, next, drop (i + 1) text)) (sym (c.from_vec.ensures ∙ c.in_ok-take_byte.ensures.fields)))

pub returns-then-not-is_open-clause-value : goal.returns-then-not-is_open-clause-value
returns-then-not-is_open-clause-value c =
    let most = c.args.most in
    let place = state_of c.loop-i.place in
    let text : List ℕ = c.args.text.now in
    let fs : List (List ℕ) = c.loop-i.fields.items in
    let f : List ℕ = c.loop-i.field.items in
    let before = c.loop-i.invariant.same ∙ ap (left most place fs f) (drop_all c.loop-i.i text (omega arith)) in
    let h : ends_at_end place ≡ false = search rules in
    sym (before ∙ ends_no_more default_config most place fs f h)

pub returns-clause-value : goal.returns-clause-value
returns-clause-value c =
    let most = c.args.most in
    let place = state_of c.loop-i.place in
    let text : List ℕ = c.args.text.now in
    let fs : List (List ℕ) = c.loop-i.fields.items in
    let f : List ℕ = c.loop-i.field.items in
    let before = c.loop-i.invariant.same ∙ ap (left most place fs f) (drop_all c.loop-i.i text (omega arith)) in
    let h : ends_at_end place ≡ true = search rules in
    let is = before ∙ ends_last default_config most place fs f h c.loop-i.invariant.within in
    let whole = c.from_vec-2.ensures ∙ c.in_ok-take_byte-2.ensures.fields in
    let none : drop (length text) text ≡ [] = drop_all (length text) text (omega arith) in
    sym (is ∙ ap₂ (λ (x : List (List ℕ)) (y : List ℕ). Some (x, st.StartRecord, y)) (sym whole) (sym none))
