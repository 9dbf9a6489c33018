use Rattle.std.proofs.Common.{◌≡◌, ℕ, ◌+◌, ◌∷◌, ◌++◌, length, w32, ap, ◌∙◌, arith, length-append, slice_index_or, slice_set}
use Rattle.std.specs.Int.{to_le_bytes}
use Rattle.compact_json.proofs.WriteLaws.{set_four}
use Rattle.compact_json.proofs.adding.set_length.Goals as goal

pub returns : goal.returns
returns c = λ front b w x y z s is at.
    let r = c.to_le_bytes-four.result in
    let start = c.args.start in
    let byte = λ (i : ℕ). slice_index_or r i 0 in
    let size : c.args.size ≡ length s = omega (arith, c.requires, ap length is, length-append front (b ∷ w ∷ x ∷ y ∷ z ∷ s), at) in
    ap (λ l. slice_set (slice_set (slice_set (slice_set l (start + 1) (byte 0)) (start + 2) (byte 1)) (start + 3) (byte 2)) (start + 4) (byte 3)) is
    ∙ set_four front start b w x y z (byte 0) (byte 1) (byte 2) (byte 3) s at
    ∙ ap (λ q. front ++ b ∷ slice_index_or q 0 0 ∷ slice_index_or q 1 0 ∷ slice_index_or q 2 0 ∷ slice_index_or q 3 0 ∷ s) c.to_le_bytes-four.ensures
    ∙ ap (λ n. front ++ b ∷ (to_le_bytes w32 n ++ s)) size
