use Rattle.std.proofs.Common.{◌≡◌, ℕ, List, [], ◌∷◌, ◌++◌, OnOk, append-nil, ap, subst, ◌∙◌}
use Rattle.decisions.proofs.release_lines.push_signature.Goals as goal

-- the pieces of a signature, of which the last one ends the text
ends : (before actor named at moment : List ℕ) → named ≡ actor → moment ≡ at → before ++ 32 ∷ (named ++ 32 ∷ (moment ++ [])) ≡ before ++ 32 ∷ (actor ++ 32 ∷ at)
ends before actor named at moment one two =
    ap (λ n. before ++ 32 ∷ (n ++ 32 ∷ (moment ++ []))) one ∙ ap (λ m. before ++ 32 ∷ (actor ++ 32 ∷ m)) (append-nil moment ∙ two)

pub returns : goal.returns
returns c =
    subst (λ (items : List ℕ). OnOk c.push_all.result (c.push_all.new.out.items ≡ items)) (ends c.args.out.now.items _ c.bytes.result.now _ c.show.result c.bytes.ensures c.show.ensures)
    c.push_all.ensures.ok
