-- What came of a call leads to the calls that are left.
use Rattle.std.proofs.Common.{◌≡◌, ◌↔◌, ◌∙◌, sym, ap, refl, subst, ℕ, zero, suc, ◌+◌, ◌-◌, ◌*◌, ◌==◌, arith, false, ne_eqb, List, [], ◌∷◌, Option, None, Some}
use Rattle.asks.specs.declared.call.Call.{Call}
use Rattle.asks.specs.declared.reply.Done.{Done}
use Rattle.made_items.specs.Calls.{Came, flights, first, second, third, draft, prepare, sign, concur, cancel}
use Rattle.made_items.specs.Numbers.{next_number, minimum_of}
use Rattle.made_items.specs.Makers.{Making, call_at, next_call, to_first, to_next, noted_at, noted, left_at, calls_left, many_at, how_many, GoesOn}
use Rattle.made_items.specs.declared.maker.Turn.{Turn}
use Rattle.made_items.specs.declared.maker.Turn.TheVariants as turn

headed : (x call : Call) (rest : List Call) → Some x ≡ Some call → x ∷ rest ≡ call ∷ rest
headed x call rest is = let same : x ≡ call = cc in ap (λ c. c ∷ rest) same

not_zero : (n : ℕ) → (suc n == 0) ≡ false
not_zero n = ne_eqb (suc n) 0 (λ is. omega (arith, is))

one_less : (n : ℕ) → suc n - 1 ≡ n
one_less n = omega arith

making_of : Turn → ℕ → ℕ → ℕ → ℕ → List ℕ → Making
making_of t earlier left x release digest = record { turn = t; earlier = earlier; left = left; x = x; release = release; digest = digest }

-- the flights that are left are those from the first on
from_first : (t : Turn) (earlier left x release : ℕ) (digest : List ℕ) (came : Came) → let m = to_first (making_of t earlier left x release digest) in
    flights left x earlier came ≡ left_at m.turn m came
unfolding making_of
from_first t earlier zero x release digest came = refl
from_first t earlier (suc n) x release digest came = rw (not_zero n, one_less n) refl

-- or from the next one on
from_next : (t : Turn) (earlier left x release : ℕ) (digest : List ℕ) (came : Came) → let m = to_next (making_of t earlier left x release digest) in
    flights left x (earlier + 1) came ≡ left_at m.turn m came
unfolding making_of
from_next t earlier zero x release digest came = refl
from_next t earlier (suc n) x release digest came = rw (not_zero n, one_less n) refl

calls_on : (t : Turn) (m : Making) (what : Option Done) (call : Call) → call_at t m ≡ Some call → (came : Came)
    → left_at t m (what ∷ came) ≡ call ∷ left_at (noted_at t m what).turn (noted_at t m what) came
unfolding making_of
calls_on turn.First m what call is came = headed first call _ is
calls_on turn.Second m what call is came = headed second call _ is
calls_on turn.Third m what call is came =
    ap (λ (rest : List Call). third ∷ rest) (from_first m.turn m.earlier m.left m.x m.release m.digest came) ∙ headed third call _ is
calls_on turn.Draft m what call is came = headed (draft m.earlier (minimum_of (next_number m.x))) call _ is
calls_on turn.Prepare m what call is came = headed (prepare m.earlier m.release) call _ is
calls_on turn.Sign m what call is came = headed (sign m.earlier m.release m.digest) call _ is
calls_on turn.Concur m what call is came = headed (concur m.earlier m.release m.digest) call _ is
calls_on turn.Cancel m what call is came =
    ap (λ (rest : List Call). cancel m.earlier m.release ∷ rest) (from_next m.turn m.earlier m.left m.x m.release m.digest came) ∙ headed (cancel m.earlier m.release) call _ is
calls_on turn.End m what call is came = absurd (cc)

many_first : (t : Turn) (earlier left x release : ℕ) (digest : List ℕ) → let m = to_first (making_of t earlier left x release digest) in
    5 * left ≡ many_at m.turn m.left
unfolding making_of
many_first t earlier zero x release digest = refl
many_first t earlier (suc n) x release digest = rw (not_zero n) (omega arith)

many_next : (t : Turn) (earlier left x release : ℕ) (digest : List ℕ) → let m = to_next (making_of t earlier left x release digest) in
    5 * left ≡ many_at m.turn m.left
unfolding making_of
many_next t earlier zero x release digest = refl
many_next t earlier (suc n) x release digest = rw (not_zero n) (omega arith)

fewer_on : (t : Turn) (m : Making) (what : Option Done) (call : Call) → call_at t m ≡ Some call → many_at t m.left ≡ many_at (noted_at t m what).turn (noted_at t m what).left + 1
unfolding making_of
fewer_on turn.First m what call is = omega arith
fewer_on turn.Second m what call is = omega arith
fewer_on turn.Third m what call is = omega (arith, many_first m.turn m.earlier m.left m.x m.release m.digest)
fewer_on turn.Draft m what call is = omega arith
fewer_on turn.Prepare m what call is = omega arith
fewer_on turn.Sign m what call is = omega arith
fewer_on turn.Concur m what call is = omega arith
fewer_on turn.Cancel m what call is = omega (arith, many_next m.turn m.earlier m.left m.x m.release m.digest)
fewer_on turn.End m what call is = absurd (cc)

goes : (m : Making) (what : Option Done) → GoesOn m what (noted m what)
unfolding next_call noted calls_left how_many
goes m what = record {
  calls = λ call is came. calls_on m.turn m what call is came;
  fewer = λ call is. fewer_on m.turn m what call is;
}

pub goes_on : (old new : Making) (what : Option Done) → new ≡ noted old what → GoesOn old what new
goes_on old new what is = subst (λ (m : Making). GoesOn old what m) (sym is) (goes old what)

-- ---- the end

none_left : (t : Turn) (m : Making) → (call_at t m ≡ None) ↔ ((came : Came) → left_at t m came ≡ [])
none_left turn.First m = (λ is. absurd (cc), λ all. let no = all [] in absurd (cc))
none_left turn.Second m = (λ is. absurd (cc), λ all. let no = all [] in absurd (cc))
none_left turn.Third m = (λ is. absurd (cc), λ all. let no = all [] in absurd (cc))
none_left turn.Draft m = (λ is. absurd (cc), λ all. let no = all [] in absurd (cc))
none_left turn.Prepare m = (λ is. absurd (cc), λ all. let no = all [] in absurd (cc))
none_left turn.Sign m = (λ is. absurd (cc), λ all. let no = all [] in absurd (cc))
none_left turn.Concur m = (λ is. absurd (cc), λ all. let no = all [] in absurd (cc))
none_left turn.Cancel m = (λ is. absurd (cc), λ all. let no = all [] in absurd (cc))
none_left turn.End m = (λ is came. refl, λ all. refl)

pub last_call : (m : Making) (call : Option Call) → call ≡ next_call m → (call ≡ None) ↔ ((came : Came) → calls_left m came ≡ [])
unfolding next_call calls_left
last_call m call is = (λ none. (none_left m.turn m).0 (sym is ∙ none), λ all. is ∙ (none_left m.turn m).1 all)
