use Rattle.std.proofs.Common.{◌≡◌, ◌+◌, ◌*◌, ◌-◌, ℕ, List, ◌∷◌, ◌<◌, drop, get_or, length, drop-cons, add-one, ap, sym, ◌∙◌, arith, refl}
use Rattle.desk_time.specs.Numbers.{digits_after}
use Rattle.desk_http.proofs.Bounds.{more}
use Rattle.desk_http.proofs.digits.digits_value.Goals as goal

cut : (text : List ℕ) (i : ℕ) → i < length text → drop i text ≡ get_or text i 0 ∷ drop (i + 1) text
cut text i h = rw (add-one, drop-cons text i 0) refl

stepped : (text : List ℕ) (i n d : ℕ) → i < length text → d ≡ get_or text i 0 - 48 → digits_after n (drop i text) ≡ digits_after 0 text
    → digits_after (10 * n + d) (drop (i + 1) text) ≡ digits_after 0 text
stepped text i n d within is so_far =
    ap (λ x. digits_after (10 * n + x) (drop (i + 1) text)) is ∙ sym (ap (digits_after n) (cut text i within)) ∙ so_far

pub loop-digit-preserved : goal.loop-digit-preserved
loop-digit-preserved c =
    let i = c.loop-digit.digit-index in
    let same = c.from.ensures ∙ c.saturating_sub.ensures in (
      more i _ _ c.loop-digit.invariant.0 (omega (arith, same, c.type_inv.digits i)),
      stepped c.args.digits.now i _ _ c.loop-digit-test.true same c.loop-digit.invariant.1,
    )
