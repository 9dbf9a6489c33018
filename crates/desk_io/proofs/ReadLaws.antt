-- Reading a source piece by piece.
use Rattle.std.proofs.Common.{◌≡◌, ℕ, ◌+◌, ◌<◌, ◌≤◌, ◌++◌, ◌∙◌, List, [], ◌∷◌, length, take, refl, ap, sym, arith, append-nil, append_assoc, length-append, zero-add, Result, Ok, Err}
use Rattle.std.specs.List.{concat}
use Rattle.std.proofs.lemmas.List.{length-take-le}
use Rattle.std.proofs.lemmas.List.Folds.{concat-append}
use Rattle.desk_io.specs.declared.source_read.SourceRead.{SourceRead}
use Rattle.desk_io.specs.declared.faults.Failed.{Failed}
use Rattle.desk_io.specs.Reads.{returned_at, failed_at, read_as, in_pieces, NoneEmpty, HandsOver}

concat_last : (pieces : List (List ℕ)) (piece : List ℕ) → concat (pieces ++ piece ∷ []) ≡ concat pieces ++ piece
concat_last pieces piece = concat-append pieces (piece ∷ []) ∙ ap (λ xs. concat pieces ++ xs) (append-nil piece)

none_empty_last : (pieces : List (List ℕ)) (piece : List ℕ) → NoneEmpty pieces → 0 < length piece → NoneEmpty (pieces ++ piece ∷ [])
none_empty_last [] piece n h = (h, tt)
none_empty_last (p ∷ ps) piece n h = (n.0, none_empty_last ps piece n.1 h)

in_pieces_last : (name piece : List ℕ) (place : ℕ) (pieces : List (List ℕ))
    → in_pieces name place (pieces ++ piece ∷ []) ≡ in_pieces name place pieces ++ returned_at name (place + length (concat pieces)) piece ∷ []
in_pieces_last name piece place [] = ap (λ k. returned_at name k piece ∷ []) (omega arith)
in_pieces_last name piece place (p ∷ ps) =
    let s : (place + length p) + length (concat ps) ≡ place + length (p ++ concat ps) = omega (arith, length-append p (concat ps)) in
    ap (λ rs. returned_at name place p ∷ rs) (in_pieces_last name piece (place + length p) ps ∙ ap (λ k. in_pieces name (place + length p) ps ++ returned_at name k piece ∷ []) s)

-- nothing was read yet
pub handed_none : (name : List ℕ) (old : List SourceRead) → HandsOver name [] [] old old
handed_none name old = record { pieces = []; none_empty = tt; whole = refl; reads = sym (append-nil old) }

-- one last read, which returned no piece
handed_last : (name text : List ℕ) (old mid new : List SourceRead) (r : SourceRead) → HandsOver name text [] old mid → new ≡ mid ++ r ∷ [] → HandsOver name text (r ∷ []) old new
handed_last name text old mid new r h e = record {
  pieces = h.pieces;
  none_empty = h.none_empty;
  whole = h.whole;
  reads = e ∙ ap (λ m. m ++ r ∷ []) (h.reads ∙ ap (λ rs. old ++ rs) (append-nil (in_pieces name 0 h.pieces))) ∙ append_assoc old (in_pieces name 0 h.pieces) (r ∷ []);
}

-- one more piece
handed_more : (name text piece : List ℕ) (place : ℕ) (old mid new : List SourceRead) → HandsOver name text [] old mid → place ≡ length text
    → new ≡ mid ++ returned_at name place piece ∷ [] → 0 < length piece → HandsOver name (text ++ piece) [] old new
handed_more name text piece place old mid new h p e some =
    let ps = h.pieces in record {
      pieces = ps ++ piece ∷ [];
      none_empty = none_empty_last ps piece h.none_empty some;
      whole = ap (λ t. t ++ piece) h.whole ∙ sym (concat_last ps piece);
      reads = e ∙ ap (λ m. m ++ returned_at name place piece ∷ []) (h.reads ∙ ap (λ rs. old ++ rs) (append-nil (in_pieces name 0 ps)))
          ∙ append_assoc old (in_pieces name 0 ps) (returned_at name place piece ∷ [])
          ∙ ap (λ k. old ++ (in_pieces name 0 ps ++ returned_at name k piece ∷ [])) (p ∙ ap length h.whole ∙ sym (zero-add (length (concat ps))))
          ∙ ap (λ rs. old ++ rs) (sym (in_pieces_last name piece 0 ps) ∙ sym (append-nil (in_pieces name 0 (ps ++ piece ∷ []))));
    }

module _ (name text into : List ℕ) (place : ℕ) (answer : Result ℕ Failed) (old mid new : List SourceRead) (h : HandsOver name text [] old mid) (p : place ≡ length text)
    (e : new ≡ mid ++ read_as name place into answer ∷ []) where
  -- a read that returned some bytes
  pub reads_on : (n : ℕ) → answer ≡ Ok n → n ≤ length into → 0 < n → HandsOver name (text ++ take n into) [] old new
  reads_on n is within some =
      let long : 0 < length (take n into) = omega (arith, length-take-le n into within, some) in
      handed_more name text (take n into) place old mid new h p (e ∙ ap (λ a. mid ++ read_as name place into a ∷ []) is) long

  -- a read that found the end
  pub reads_end : answer ≡ Ok 0 → HandsOver name text (returned_at name (length text) [] ∷ []) old new
  reads_end is = handed_last name text old mid new (returned_at name (length text) []) h
      (e ∙ ap (λ a. mid ++ read_as name place into a ∷ []) is ∙ ap (λ k. mid ++ returned_at name k [] ∷ []) p)

  -- a read that failed
  pub reads_fail : (fault : Failed) → answer ≡ Err fault → HandsOver name text (failed_at name (length text) ∷ []) old new
  reads_fail fault is = handed_last name text old mid new (failed_at name (length text)) h
      (e ∙ ap (λ a. mid ++ read_as name place into a ∷ []) is ∙ ap (λ k. mid ++ failed_at name k ∷ []) p)
