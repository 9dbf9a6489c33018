-- Every text has records, so the first ones of a text can be made all of them.
use Rattle.std.proofs.Common.{◌≡◌, ◌∙◌, sym, refl, arith, ℕ, zero, suc, ◌+◌, ◌*◌, ◌<◌, List, [], ◌∷◌, ◌++◌, length, Option, Some, None, Bool, true, false}
use Rattle.csv.specs.Machine.{Read, step, is_end, fields_after, field_after, next_record, ends_at_end}
use Rattle.csv.specs.Reading.{AreRecords, Reached, default_config, strip_bom}
use Rattle.csv.specs.declared.parser.Config.{Config}
use Rattle.csv.specs.declared.parser.State.{State}
use Rattle.csv.specs.declared.parser.State.TheVariants as st
use Rattle.csv_text.specs.Steps.{state_of}
use Rattle.csv_text.specs.Records.{AreRecordsOf, HasGiven}
use Rattle.csv_text.specs.declared.records.Records.{Records}
use Rattle.csv_text.proofs.Turns.{within, ending, last, no_more}

open_at_end : Bool → ℕ
open_at_end true = 1
open_at_end false = 0

at_most : (b : Bool) → open_at_end b < 2
unfolding open_at_end
at_most true = omega arith
at_most false = omega arith

-- what is left to read
weight : State → List ℕ → ℕ
weight s xs = 2 * length xs + open_at_end (ends_at_end s)

-- one byte less
lighter : (s t : State) (c : ℕ) (rest : List ℕ) → weight t rest < weight s (c ∷ rest)
unfolding weight
lighter s t c rest = omega (arith, at_most (ends_at_end t))

lightest : (s : State) → ends_at_end s ≡ true → weight st.StartRecord [] < weight s []
unfolding weight open_at_end
lightest s h = rw h (omega arith)

-- a record takes something of it
shrinks : (cfg : Config) (xs : List ℕ) (s : State) (fs : List (List ℕ)) (f : List ℕ) (p : Read) → next_record cfg s fs f xs ≡ Some p → weight p.1 p.2 < weight s xs
shrinks cfg [] s fs f p e = by (ends_at_end s) refl
  where
    by : (b : Bool) → ends_at_end s ≡ b → weight p.1 p.2 < weight s []
    by true h =
        let same : Some (fs ++ f ∷ [], st.StartRecord, []) ≡ Some p = sym (last cfg s fs f h) ∙ e in
        let is_p : (fs ++ f ∷ [], st.StartRecord, []) ≡ p = cc in
        rw (← is_p) (lightest s h)
    by false h =
        let none : None ≡ Some p = sym (no_more cfg s fs f h) ∙ e in
        cc
shrinks cfg (c ∷ rest) s fs f p e =
    by (is_end (step cfg s c).1) refl (λ h. shrinks cfg rest (step cfg s c).0 (fields_after (step cfg s c).1 fs f) (field_after (step cfg s c).1 c f) p
    (sym (within cfg s (step cfg s c).0 (step cfg s c).1 fs f rest c refl h) ∙ e))
  where
    by : (b : Bool) → is_end (step cfg s c).1 ≡ b → (is_end (step cfg s c).1 ≡ false → weight p.1 p.2 < weight (step cfg s c).0 rest) → weight p.1 p.2 < weight s (c ∷ rest)
    by true h later =
        let same : Some (fields_after (step cfg s c).1 fs f, (step cfg s c).0, rest) ≡ Some p = sym (ending cfg s (step cfg s c).0 (step cfg s c).1 fs f rest c refl h) ∙ e in
        let is_p : (fields_after (step cfg s c).1 fs f, (step cfg s c).0, rest) ≡ p = cc in
        rw (← is_p) (lighter s (step cfg s c).0 c rest)
    by false h later = omega (arith, later h, lighter s (step cfg s c).0 c rest)

-- the records that are left
left : (n : ℕ) (cfg : Config) (s : State) (xs : List ℕ) → weight s xs < n → (records : List (List (List ℕ))) × AreRecords cfg s xs records
unfolding Reached
left zero cfg s xs h = absurd (omega (arith, h))
left (suc n) cfg s xs h = by (next_record cfg s [] [] xs) refl (λ p e. left n cfg p.1 p.2 (omega (arith, h, shrinks cfg xs s [] [] p e)))
  where
    by : (o : Option Read) → next_record cfg s [] [] xs ≡ o → ((p : Read) → next_record cfg s [] [] xs ≡ Some p → (records : List (List (List ℕ))) × AreRecords cfg p.1 p.2 records)
        → (records : List (List (List ℕ))) × AreRecords cfg s xs records
    by None e more = ([], (s, xs, (refl, refl), e))
    by (Some p) e more =
        let others = more p e in
        (p.0 ∷ others.0, (others.1.0, others.1.1, (p, e, refl, others.1.2), others.1.3))

joined : (cfg : Config) (s t u : State) (xs ys zs : List ℕ) (first others : List (List (List ℕ)))
    → Reached cfg s xs first t ys → Reached cfg t ys others u zs → Reached cfg s xs (first ++ others) u zs
unfolding Reached
joined cfg s t u xs ys zs [] others a b = rw (a.0, a.1) b
joined cfg s t u xs ys zs (r ∷ first) others a b = (a.0, a.1, a.2, joined cfg a.0.1 t u a.0.2 ys zs first others a.3 b)

-- the records that a reader has given are the first of all records of the text
pub all_records : (text : List ℕ) (given : List (List (List ℕ))) (reader : Records) → HasGiven text given reader
    → (others : List (List (List ℕ))) × AreRecordsOf text (given ++ others)
unfolding HasGiven
all_records text given reader h =
    let s = state_of reader.place in
    let xs : List ℕ = reader.rest.now in
    let more = left (weight s xs + 1) default_config s xs (omega arith) in
    (more.0, (more.1.0, more.1.1, joined default_config st.StartRecord s more.1.0 (strip_bom text) xs more.1.1 given more.0 h more.1.2, more.1.3))
