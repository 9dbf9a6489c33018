-- The number of a leg is read as it is written, and a text is cut at its first sign.
use Rattle.std.proofs.Common.{◌≡◌, ℕ, suc, ◌+◌, ◌≤◌, true, not, ◌==◌, List, [], ◌∷◌, ◌++◌, length, take, drop, get_or, Some, IfSome, decimal, refl, sym, ap, ◌∙◌, arith, length-append, add-one, eq-eqb, lt-ltb}
use Rattle.std.specs.List.{position, position_or_len}
use Rattle.std.proofs.lemmas.Bool.{and_parts, eqb-true}
use Rattle.std.proofs.lemmas.List.{take_at, take-append-drop, drop_more}
use Rattle.std.proofs.lemmas.List.Quantifiers.{position-Some}
use Rattle.desk_time.proofs.Chains.{bind_known}
use Rattle.desk_time.proofs.NumberLaws.{number_again}
use Rattle.release_text.specs.Legible.{is_free}
use Rattle.release_json.specs.Cuts.{leg_of, cut}

pub leg_again : (n : ℕ) → n ≤ 4_294_967_295 → leg_of (decimal n) ≡ Some n
leg_again n few = number_again 4_294_967_295 n few (omega arith)

-- ---- texts that are cut

front : (sign : ℕ) (text rest : List ℕ) → is_free sign text ≡ true → position_or_len (λ b. b == sign) (text ++ sign ∷ rest) ≡ length text
front sign [] rest free = rw (eq-eqb sign sign refl) refl
front sign (b ∷ text) rest free =
    let parts = and_parts (not (b == sign)) (is_free sign text) free in
    rw parts.0 (omega (arith, front sign text rest parts.1))

past : (sign : ℕ) (text rest : List ℕ) → drop (suc (length text)) (text ++ sign ∷ rest) ≡ rest
past sign [] rest = refl
past sign (b ∷ text) rest = past sign text rest

pub cut_at : (sign : ℕ) (text rest : List ℕ) → is_free sign text ≡ true → cut sign (text ++ sign ∷ rest) ≡ Some (text, rest)
cut_at sign text rest free =
    rw (front sign text rest free, lt-ltb (length text) (length (text ++ sign ∷ rest)) (omega (arith, length-append text (sign ∷ rest))), take_at text (sign ∷ rest) (length text) refl, add-one, past sign text rest) refl

abbrev pub IsCut : ℕ → List ℕ → List ℕ × List ℕ → Type 0
IsCut sign text halves = text ≡ halves.0 ++ sign ∷ halves.1

cut_here : (sign : ℕ) (text : List ℕ) (at : ℕ) → position (λ b. b == sign) text ≡ Some at → IsCut sign text (take at text, drop (at + 1) text)
cut_here sign text at is =
    let found = position-Some (λ b. b == sign) text at 0 is in
    let same = eqb-true (get_or text at 0) sign found.1 in
    let rest = drop_more text at 0 found.0 in
    sym (take-append-drop at text) ∙ ap (λ (l : List ℕ). take at text ++ l) (rest ∙ ap (λ (b : ℕ). b ∷ drop (at + 1) text) same)

-- the two parts of a text are put together with the sign between them
pub cut_back : (sign : ℕ) (text : List ℕ) → IfSome (cut sign text) (IsCut sign text)
cut_back sign text = bind_known (position (λ b. b == sign) text) (λ at. Some (take at text, drop (at + 1) text)) (IsCut sign text) (λ at is. cut_here sign text at is)
