-- HMAC (RFC 2104) with SHA-256, and the key that PBKDF2 (RFC 8018) makes of a password with it.
use Rattle.std.specs.Prelude.{ℕ, zero, suc, ◌-◌, nat_le, if◌then◌else◌, List, [], ◌∷◌, ◌++◌, length, drop, map, replicate}
use Rattle.std.specs.Int.Bits.{bit_xor}
use Rattle.sha2.specs.Sha256.{sha256}

-- each byte of the first list combined with the one at its place in the second
abbrev pub xors : List ℕ → List ℕ → List ℕ
xors [] others = []
xors (a ∷ bytes) [] = a ∷ bytes
xors (a ∷ bytes) (b ∷ others) = bit_xor a b ∷ xors bytes others

-- the bytes, followed by zeros up to 64
abbrev pub filled : List ℕ → List ℕ
filled bytes = bytes ++ drop (length bytes) (replicate 64 0)

-- the key's block of 64 bytes: the key itself, or its digest if it is longer
abbrev pub block_of : List ℕ → List ℕ
block_of key = if nat_le (length key) 64 then filled key else filled (sha256 key)

-- the block with each byte combined with this one
abbrev pub pad : ℕ → List ℕ → List ℕ
pad byte block = map (λ b. bit_xor b byte) block

-- HMAC-SHA-256
unfoldable pub hmac : List ℕ → List ℕ → List ℕ
hmac key message = sha256 (pad 0x5c (block_of key) ++ sha256 (pad 0x36 (block_of key) ++ message))

-- the sum after that many more rounds, each of which takes the HMAC of the last
unfoldable pub stretch : List ℕ → ℕ → List ℕ → List ℕ → List ℕ
stretch password zero last all = all
stretch password (suc n) last all = stretch password n (hmac password last) (xors all (hmac password last))

-- the first block of PBKDF2
unfoldable pub salted : List ℕ → List ℕ → ℕ → List ℕ
salted password salt rounds =
    stretch password (rounds - 1) (hmac password (salt ++ 0 ∷ 0 ∷ 0 ∷ 1 ∷ []))
    (hmac password (salt ++ 0 ∷ 0 ∷ 0 ∷ 1 ∷ []))
