-- What was written so far, and what is left.
use Rattle.std.proofs.Common.{◌≡◌, ℕ, ◌++◌, ◌∙◌, List, [], length, take, Option, Some, ap, sym, refl, append-nil, append_assoc}
use Rattle.std.proofs.Math.Seq.{take-append_seam}
use Rattle.std.specs.Io.KnownBytes.{Appends}
use Rattle.desk_io.specs.Told.{AppendsFront}

pub record Grew (old new bytes rest : List ℕ) : Type 0 where
  pub front : List ℕ
  pub cut : bytes ≡ front ++ rest
  pub taken : new ≡ old ++ front

pub grew_none : (old bytes : List ℕ) → Grew old old bytes bytes
grew_none old bytes = record { front = []; cut = refl; taken = sym (append-nil old) }

pub grew_more : (old mid new bytes rest left piece : List ℕ) → Grew old mid bytes rest → rest ≡ piece ++ left → new ≡ mid ++ piece → Grew old new bytes left
grew_more old mid new bytes rest left piece h r n = record {
  front = h.front ++ piece;
  cut = h.cut ∙ ap (λ xs. h.front ++ xs) r ∙ sym (append_assoc h.front piece left);
  taken = n ∙ ap (λ xs. xs ++ piece) h.taken ∙ append_assoc old h.front piece;
}

pub grew_front : (old new bytes rest : List ℕ) → Grew old new bytes rest → AppendsFront (Some old) (Some new) bytes
grew_front old new bytes rest h = (length h.front, h.taken ∙ ap (λ xs. old ++ xs) (sym (ap (take (length h.front)) h.cut ∙ take-append_seam h.front rest)))

pub grew_all : (old new bytes : List ℕ) → Grew old new bytes [] → Appends (Some old) (Some new) bytes
grew_all old new bytes h = h.taken ∙ ap (λ xs. old ++ xs) (sym (h.cut ∙ append-nil h.front))
