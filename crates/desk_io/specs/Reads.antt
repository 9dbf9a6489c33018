-- What crossed a shelf: its reads in order, each with its name, its place, and the bytes that it returned.
use Rattle.std.specs.Prelude.{◌≡◌, ℕ, ◌+◌, ◌<◌, List, [], ◌∷◌, ◌++◌, length, take, None, Some, Result, Ok, Err}
use Rattle.std.specs.List.{concat}
use Rattle.desk_io.specs.declared.source_read.SourceRead.{SourceRead}
use Rattle.desk_io.specs.declared.faults.WholeFault.{WholeFault}
use Rattle.desk_io.specs.declared.faults.WholeFault.TheVariants.{ReadFault, TooLong, OutOfMemory}

-- a read that returned these bytes
abbrev pub returned_at : List ℕ → ℕ → List ℕ → SourceRead
returned_at name place bytes = record { name = name; place = place; bytes = Some bytes }

-- a read that failed
abbrev pub failed_at : List ℕ → ℕ → SourceRead
failed_at name place = record { name = name; place = place; bytes = None }

-- the read that filled the front of `into`, or failed
abbrev pub read_as : {E : Type 0} → List ℕ → ℕ → List ℕ → Result ℕ E → SourceRead
read_as name place into (Ok n) = returned_at name place (take n into)
read_as name place into (Err e) = failed_at name place

-- the reads of a source in pieces, each from where the one before ended
abbrev pub in_pieces : List ℕ → ℕ → List (List ℕ) → List SourceRead
in_pieces name place [] = []
in_pieces name place (piece ∷ pieces) = returned_at name place piece ∷ in_pieces name (place + length piece) pieces

abbrev pub NoneEmpty : List (List ℕ) → Type 0
NoneEmpty [] = Unit {0}
NoneEmpty (piece ∷ pieces) = (0 < length piece) × NoneEmpty pieces

-- The shelf returned this text of a source, from its start on and in pieces, then made these last reads, and no others.
pub record HandsOver (name text : List ℕ) (last old new : List SourceRead) : Type 0 where
  pub pieces : List (List ℕ)
  pub none_empty : NoneEmpty pieces
  pub whole : text ≡ concat pieces
  pub reads : new ≡ old ++ (in_pieces name 0 pieces ++ last)

-- the reads of a source that wasn't read whole: the last one failed, the text was too long, or memory ran out
abbrev pub StopsReading : List ℕ → List SourceRead → List SourceRead → WholeFault → Type 0
StopsReading name old new ReadFault = (text : List ℕ) × HandsOver name text (failed_at name (length text) ∷ []) old new
StopsReading name old new TooLong = (text : List ℕ) × (67_108_864 < length text) × HandsOver name text [] old new
StopsReading name old new OutOfMemory = (text : List ℕ) × HandsOver name text [] old new

-- The text is what the reads returned, in order, up to a read that found the end of the source.
abbrev pub ReadsTo : List ℕ → List SourceRead → List SourceRead → Result (List ℕ) WholeFault → Type 0
ReadsTo name old new (Ok text) = HandsOver name text (returned_at name (length text) [] ∷ []) old new
ReadsTo name old new (Err fault) = StopsReading name old new fault
