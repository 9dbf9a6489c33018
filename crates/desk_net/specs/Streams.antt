-- How a link's bytes are read and written, if contracts know them.
use Rattle.std.specs.Prelude.{◌≡◌, ℕ, ◌+◌, List, drop, Option, None, Some, Result, MatchResult}
use Rattle.desk_io.specs.declared.faults.PutFault.{PutFault}
use Rattle.desk_io.specs.Told.{NextOf, Puts}

-- the whole input of a link, how much of it was read, and what was written
pub record Stream : Type 0 where
  pub input : List ℕ
  pub taken : ℕ
  pub written : List ℕ

abbrev pub stream : List ℕ → ℕ → List ℕ → Stream
stream input taken written = record { input = input; taken = taken; written = written }

-- the bytes not yet read, if the stream is known
abbrev pub unread : Option Stream → Option (List ℕ)
unread None = None
unread (Some s) = Some (drop s.taken s.input)

-- the input and what was written are unchanged
abbrev pub OnlyRead : Option Stream → Option Stream → Type 0
OnlyRead None None = Unit {0}
OnlyRead (Some old) (Some new) = (new.input ≡ old.input) × (new.written ≡ old.written)
OnlyRead _ _ = ⊥

-- the next n bytes of the input were read, and n is 0 only at its end
pub record TakesNext (old new : Stream) (n : ℕ) (into : List ℕ) : Type 0 where
  pub given : NextOf old.input old.taken n into
  pub input : new.input ≡ old.input
  pub taken : new.taken ≡ old.taken + n
  pub written : new.written ≡ old.written

-- A read returns the next bytes. If it fails, nothing was read.
abbrev pub Reads : {E : Type 0} → Option Stream → Option Stream → List ℕ → Result ℕ E → Type 0
Reads None None into r = Unit {0}
Reads (Some old) (Some new) into r = MatchResult r (λ n. TakesNext old new n into) (λ _. new ≡ old)
Reads _ _ into r = ⊥

-- the bytes or a prefix of them were written, or nothing was, and nothing was read
pub record Appended {T : Type 0} (old new : Stream) (bytes : List ℕ) (r : Result T PutFault) : Type 0 where
  pub puts : Puts (Some old.written) (Some new.written) bytes r
  pub input : new.input ≡ old.input
  pub taken : new.taken ≡ old.taken

-- `Ok` writes all of the bytes, `Failed` a prefix of them, and `OutOfMemory` nothing.
abbrev pub Writes : {T : Type 0} → Option Stream → Option Stream → List ℕ → Result T PutFault → Type 0
Writes None None bytes r = Unit {0}
Writes (Some old) (Some new) bytes r = Appended old new bytes r
Writes _ _ bytes r = ⊥
