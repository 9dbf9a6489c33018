use Rattle.std.proofs.Common.{◌≡◌, ◌∙◌, ap, sym, refl, arith, ℕ, List, ◌∷◌, ◌+◌, ◌*◌, ◌-◌, ◌<◌, drop, get_or, length, drop-cons, add-one}
use Rattle.desk_time.specs.Numbers.{digits_after}
use Rattle.desk_time.proofs.NumberLaws.{too_great}
use Rattle.desk_time.proofs.numbers.number_up_to.Goals as goal

cut : (text : List ℕ) (i : ℕ) → i < length text → drop i text ≡ get_or text i 0 ∷ drop (i + 1) text
cut text i h = rw (add-one, drop-cons text i 0) refl

pub returns-then-next-from : goal.returns-then-next-from
returns-then-next-from c =
    let i = c.loop-digit.digit-index in
    let digits : List ℕ = c.args.digits.now in
    let number = 10 * c.loop-digit.number + (get_or digits i 0 - 48) in
    let same = sym (ap (digits_after c.loop-digit.number) (cut digits i (omega (arith, c.loop-digit-test.true)))) ∙ c.loop-digit.invariant.1 in
    rw (too_great number c.args.limit (drop (i + 1) digits) digits same (omega (arith, c.if-next-from.true, c.from.ensures, c.from-in-loop-digit.ensures, c.from-in-loop-digit-2.ensures, c.saturating_sub.ensures))) refl
