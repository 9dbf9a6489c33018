-- Laws on cutting a text into runs.
use Rattle.std.proofs.Common.{◌≡◌, ℕ, ◌+◌, ◌<◌, Bool, true, false, cond, not, eqb, List, [], ◌∷◌, ◌++◌, length, take, drop, refl, ap, sym, ◌∙◌, arith, append-nil, append_assoc}
use Rattle.std.specs.List.{slice_split, onto_first, prefix_len, position_or_len, filter}
use Rattle.std.proofs.lemmas.List.Splits.{slice_split_first, slice_split-cons_no}
use Rattle.desk_io.specs.Runs.{is_among, has_bytes, kept, runs_between}

kept_by : (b : Bool) (run : List ℕ) (runs : List (List ℕ)) → cond (not b) (run ∷ runs) runs ≡ cond b [] (run ∷ []) ++ runs
kept_by true run runs = refl
kept_by false run runs = refl

kept_first : (run : List ℕ) (runs : List (List ℕ)) → filter has_bytes (run ∷ runs) ≡ kept run ++ filter has_bytes runs
kept_first run runs = kept_by (eqb (length run) 0) run (filter has_bytes runs)

first_run : (separators text : List ℕ) → position_or_len (is_among separators) text < length text
    → runs_between separators text ≡ kept (take (position_or_len (is_among separators) text) text) ++ runs_between separators (drop (position_or_len (is_among separators) text + 1) text)
first_run separators text inside =
    ap (filter has_bytes) (slice_split_first (is_among separators) text 0 inside)
    ∙ kept_first (take (position_or_len (is_among separators) text) text) (slice_split (is_among separators) (drop (position_or_len (is_among separators) text + 1) text))

-- a text with a separator is its first run, and the runs of what follows
one_run : (separators text : List ℕ) (n : ℕ) → n ≡ position_or_len (is_among separators) text → n < length text
    → runs_between separators text ≡ kept (take n text) ++ runs_between separators (drop (n + 1) text)
one_run separators text n e inside = rw e (first_run separators text (omega (arith, e)))

uncut_step : (p : ℕ → Bool) (b : Bool) (x : ℕ) (xs : List ℕ) → p x ≡ b → cond (not b) (1 + prefix_len (λ y. not (p y)) xs) 0 ≡ length xs + 1
    → (prefix_len (λ y. not (p y)) xs ≡ length xs → slice_split p xs ≡ xs ∷ []) → slice_split p (x ∷ xs) ≡ (x ∷ xs) ∷ []
uncut_step p true x xs e all rest = absurd (omega arith)
uncut_step p false x xs e all rest = slice_split-cons_no p x xs e ∙ ap (onto_first x) (rest (omega arith))

-- a list without a separator stays whole
uncut : (p : ℕ → Bool) (xs : List ℕ) → position_or_len p xs ≡ length xs → slice_split p xs ≡ xs ∷ []
uncut p [] all = refl
uncut p (x ∷ xs) all = uncut_step p (p x) x xs refl (omega (arith, all)) (uncut p xs)

-- a text without one is a run
pub last_run : (separators text : List ℕ) (n : ℕ) → n ≡ position_or_len (is_among separators) text → n ≡ length text
    → runs_between separators text ≡ kept text
last_run separators text n e all =
    ap (filter has_bytes) (uncut (is_among separators) text (sym e ∙ all)) ∙ kept_first text [] ∙ append-nil (kept text)

-- one more run is cut
pub run_step : (separators text rest : List ℕ) (runs made all : List (List ℕ)) (n : ℕ)
    → n ≡ position_or_len (is_among separators) text → n < length text
    → made ≡ runs ++ kept (take n text) → rest ≡ drop (n + 1) text
    → runs ++ runs_between separators text ≡ all → made ++ runs_between separators rest ≡ all
run_step separators text rest runs made all n e inside more after before =
    rw (more, after) (append_assoc runs (kept (take n text)) (runs_between separators (drop (n + 1) text))
    ∙ ap (λ rs. runs ++ rs) (sym (one_run separators text n e inside)) ∙ before)
