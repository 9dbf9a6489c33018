use Rattle.std.proofs.Common.{◌≡◌, ◌∙◌, sym, ap, subst, List, ℕ, [], ◌∷◌, ◌++◌, drop}
use Rattle.csv.specs.Machine.{Read, next_record}
use Rattle.csv.specs.Reading.{default_config, strip_bom, Reached}
use Rattle.csv.proofs.ReadFacts.{reached-more}
use Rattle.csv.specs.declared.parser.State.{State}
use Rattle.csv.specs.declared.parser.State.TheVariants as st
use Rattle.csv_text.specs.Steps.{state_of}
use Rattle.csv_text.specs.Records.{HasGiven}
use Rattle.csv_text.proofs.Firsts.{whole_of, none_read}
use Rattle.csv_text.proofs.records.Records.next.Goals as goal

pub returns-in-Ok-None-clause-given : goal.returns-in-Ok-None-clause-given
unfolding HasGiven
returns-in-Ok-None-clause-given c = λ text earlier h.
    let place = state_of c.args.self.now.place in
    let rest : List ℕ = c.args.self.now.rest.now in
    (place, rest, h, none_read c.args.most (next_record default_config place [] [] rest) (rw c.in-Ok-None.field-0-is at c.in-Ok-None.ensures.value))

pub returns-in-Ok-Some-clause-given : goal.returns-in-Ok-Some-clause-given
unfolding HasGiven
returns-in-Ok-Some-clause-given c = λ text earlier h.
    let place = state_of c.args.self.now.place in
    let rest : List ℕ = c.args.self.now.rest.now in
    let taken = c.in-Ok-Some.taken in
    let p : Read = (taken.fields, state_of taken.place, drop taken.length rest) in
    let whole = whole_of c.args.most p (next_record default_config place [] [] rest) (rw c.in-Ok-Some.field-0-is at c.in-Ok-Some.ensures.value) in
    let fields : List (List ℕ) = whole.0.0 in
    let more : Reached default_config st.StartRecord (strip_bom text) (earlier ++ fields ∷ []) whole.0.1 whole.0.2 =
    reached-more default_config st.StartRecord place (strip_bom text) rest earlier whole.0 h whole.1 in
    let at_place = subst (λ (s : State). Reached default_config st.StartRecord (strip_bom text) (earlier ++ fields ∷ []) s whole.0.2) (sym (ap (λ (r : Read). r.1) whole.2)) more in
    let left : drop taken.length rest ≡ whole.0.2 = ap (λ (r : Read). r.2) whole.2 in
    (fields, subst (λ (x : List ℕ). Reached default_config st.StartRecord (strip_bom text) (earlier ++ fields ∷ []) (state_of taken.place) x) (sym (c.after-self.ensures ∙ left)) at_place, ap (λ (r : Read). r.0) whole.2)
