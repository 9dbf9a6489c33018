-- What was written so far, and what is left.
use Rattle.std.proofs.Common.{◌≡◌, ℕ, ◌++◌, ◌∙◌, List, [], length, take, Option, None, Some, ap, sym, refl, subst, append-nil, append_assoc}
use Rattle.std.proofs.KnownBytes.{Appends-nil, Appends-trans, Keeps-refl, Keeps-trans}
use Rattle.std.proofs.Math.Seq.{take-append_seam}
use Rattle.std.specs.Io.KnownBytes.{Appends, Keeps}
use Rattle.desk_io.specs.Told.{AppendsFront}

-- `taken` gained a front of the bytes, and the writer the same if it tells what it holds
pub record Sent (old new bytes rest : List ℕ) (held holds : Option (List ℕ)) : Type 0 where
  pub front : List ℕ
  pub cut : bytes ≡ front ++ rest
  pub taken : new ≡ old ++ front
  pub told : Appends held holds front

pub sent_none : (old bytes : List ℕ) (held : Option (List ℕ)) → Sent old old bytes bytes held held
sent_none old bytes held = record { front = []; cut = refl; taken = sym (append-nil old); told = Appends-nil held }

pub sent_more : (old mid new bytes rest left piece : List ℕ) (a b c : Option (List ℕ)) → Sent old mid bytes rest a b → rest ≡ piece ++ left → new ≡ mid ++ piece → Appends b c piece
    → Sent old new bytes left a c
sent_more old mid new bytes rest left piece a b c h r n t = record {
  front = h.front ++ piece;
  cut = h.cut ∙ ap (λ xs. h.front ++ xs) r ∙ sym (append_assoc h.front piece left);
  taken = n ∙ ap (λ xs. xs ++ piece) h.taken ∙ append_assoc old h.front piece;
  told = Appends-trans a b c h.front piece h.told t;
}

pub sent_front : (old new bytes rest : List ℕ) (a b : Option (List ℕ)) → Sent old new bytes rest a b → AppendsFront (Some old) (Some new) bytes
sent_front old new bytes rest a b h = (length h.front, h.taken ∙ ap (λ xs. old ++ xs) (sym (ap (take (length h.front)) h.cut ∙ take-append_seam h.front rest)))

sent_whole : (old new bytes : List ℕ) (a b : Option (List ℕ)) (h : Sent old new bytes [] a b) → h.front ≡ bytes
sent_whole old new bytes a b h = sym (h.cut ∙ append-nil h.front)

pub sent_all : (old new bytes : List ℕ) (a b : Option (List ℕ)) → Sent old new bytes [] a b → Appends (Some old) (Some new) bytes
sent_all old new bytes a b h = h.taken ∙ ap (λ xs. old ++ xs) (sent_whole old new bytes a b h)

pub sent_told : (old new bytes : List ℕ) (a b : Option (List ℕ)) → Sent old new bytes [] a b → Appends a b bytes
sent_told old new bytes a b h = subst (Appends a b) (sent_whole old new bytes a b h) h.told

-- an interrupted write keeps what the writer holds
pub appends_kept : (a b c : Option (List ℕ)) (bs : List ℕ) → Keeps a b → Appends b c bs → Appends a c bs
appends_kept None b c bs p q = tt
appends_kept (Some x) None c bs p q = absurd p
appends_kept (Some x) (Some y) None bs p q = absurd q
appends_kept (Some x) (Some y) (Some z) bs p q = q ∙ ap (λ l. l ++ bs) p

pub kept_none : (a : Option (List ℕ)) → Keeps a a
kept_none a = Keeps-refl a

pub kept_more : (a b c : Option (List ℕ)) → Keeps a b → Keeps b c → Keeps a c
kept_more a b c p q = Keeps-trans a b c p q
