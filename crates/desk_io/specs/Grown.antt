-- Texts that grow only at their end.
use Rattle.std.specs.Prelude.{◌≡◌, ℕ, List, length, take}

-- the text starts with all bytes of the earlier text
abbrev pub BeginsWith : List ℕ → List ℕ → Type 0
BeginsWith text earlier = take (length earlier) text ≡ earlier
