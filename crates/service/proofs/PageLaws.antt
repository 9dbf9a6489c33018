-- A text that grows by pieces.
use Rattle.std.proofs.Common.{◌≡◌, ℕ, List, ◌++◌, ap, ◌∙◌, append_assoc}

pub two_on : (a b c w x : List ℕ) → b ≡ a ++ w → c ≡ b ++ x → c ≡ a ++ (w ++ x)
two_on a b c w x one two = two ∙ ap (λ l. l ++ x) one ∙ append_assoc a w x

pub four_on : (a b c d e w x y z : List ℕ) → b ≡ a ++ w → c ≡ b ++ x → d ≡ c ++ y → e ≡ d ++ z → e ≡ a ++ (((w ++ x) ++ y) ++ z)
four_on a b c d e w x y z one two three four = two_on a d e ((w ++ x) ++ y) z (two_on a c d (w ++ x) y (two_on a b c w x one two) three) four
