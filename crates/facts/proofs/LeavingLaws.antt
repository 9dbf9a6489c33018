-- One pass over the reports that finds those that a sweep takes away.
use Rattle.std.proofs.Common.{◌≡◌, sym, ap, ◌∙◌, ℕ, ◌+◌, ◌<◌, Bool, true, false, cond, not, List, [], ◌∷◌, ◌++◌, append_assoc, append-nil, map, length, drop, filter, get_or}
use Rattle.std.proofs.lemmas.List.{drop_more}
use Rattle.facts.specs.declared.report.Report.{Report}

abbrev ids : List Report → List ℕ
ids rs = map (λ r. r.id) rs

by_test : (b : Bool) (found : List ℕ) (r : Report) (rest : List Report) → (found ++ cond b [] (r.id ∷ [])) ++ ids rest ≡ found ++ ids (cond (not b) (r ∷ rest) rest)
by_test true found r rest = ap (λ xs. xs ++ ids rest) (append-nil found)
by_test false found r rest = append_assoc found (r.id ∷ []) (ids rest)

-- a report more that goes or stays
pub leaving_more : (stays : Report → Bool) (found : List ℕ) (rs : List Report) (place : ℕ) (r : Report) (b : Bool) → place < length rs → r ≡ get_or rs place r → b ≡ stays r
    → (found ++ cond b [] (r.id ∷ [])) ++ ids (filter (λ x. not (stays x)) (drop (place + 1) rs)) ≡ found ++ ids (filter (λ x. not (stays x)) (drop place rs))
leaving_more stays found rs place r b within is tested =
    let rest : drop place rs ≡ r ∷ drop (place + 1) rs = drop_more rs place r within ∙ ap (λ x. x ∷ drop (place + 1) rs) (sym is) in
    by_test b found r (filter (λ x. not (stays x)) (drop (place + 1) rs))
    ∙ ap (λ t. found ++ ids (cond (not t) (r ∷ filter (λ x. not (stays x)) (drop (place + 1) rs)) (filter (λ x. not (stays x)) (drop (place + 1) rs)))) tested
    ∙ ap (λ xs. found ++ ids (filter (λ x. not (stays x)) xs)) (sym rest)
