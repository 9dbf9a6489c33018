use Rattle.std.proofs.Common.{◌≡◌, drop, get_or, ℤ, Bool, true, false, ◌==◌, None, Some, option_and_then, sym, refl, ap, ◌∙◌}
use Rattle.std.specs.Prelude.{Float, if◌then◌else◌}
use Rattle.fast_float.specs.Text.{scan, Parts}
use Rattle.serde_json.specs.Data.{negative, float}
use Rattle.serde_json.specs.Find.{as_u64}
use Rattle.serde_json.specs.Read.{number_of, number_from}
use Rattle.compact_json.proofs.numbers.whole_number.Goals as goal

-- a number with a sign is no whole number
never : (a b : Bool) (z : ℤ) (x : Float) → None ≡ option_and_then as_u64 (if a then Some (negative z) else (if b then Some (float x) else None))
never true b z x = refl
never false true z x = refl
never false false z x = refl

signed_none : (p : Parts) → None ≡ option_and_then as_u64 (number_from true p)
signed_none p = never _ _ _ _

pub returns-then-has_minus : goal.returns-then-has_minus
unfolding number_of
returns-then-has_minus c =
    let s = c.args.text.now in
    let signed : (get_or s 0 0 == 45) ≡ true = sym c.if-has_minus.ensures in
    let read : number_from true (scan (drop 1 s)) ≡ number_of s = rw signed in
    signed_none (scan (drop 1 s)) ∙ ap (option_and_then as_u64) read

pub returns-else-has_minus : goal.returns-else-has_minus
unfolding number_of
returns-else-has_minus c =
    let s = c.args.text.now in
    let plain : (get_or s 0 0 == 45) ≡ false = sym c.if-has_minus.ensures in
    let read : number_from false (scan s) ≡ number_of s = rw plain in
    c.whole_of.ensures ∙ ap (λ p. option_and_then as_u64 (number_from false p)) c.scan.ensures.parts ∙ ap (option_and_then as_u64) read
