-- How many fields fit into a number of bytes.
use Rattle.std.proofs.Common.{ℕ, ◌*◌, ◌≤◌, List, [], ◌∷◌, length, ap, arith, length-append, All, flat_map}
use Rattle.std.proofs.lemmas.List.Elements.{All-head, All-tail}
use Rattle.httparse.specs.Grammar.{Field, IsField, LineEnd, crlf, lf, print_end, print_field, RequestHead, print_request}
use Rattle.httparse.specs.Spans.{RequestExceeds}

end_some : (e : LineEnd) → 1 ≤ length (print_end e)
end_some crlf = omega arith
end_some lf = omega arith

field_some : (f : Field) → IsField f → 3 ≤ length (print_field f)
field_some f h =
    let some = h.name.0 in
    let e = end_some f.end in
    simp length-append (omega arith)

fields_some : (fs : List Field) → All IsField fs → 3 * length fs ≤ length (flat_map print_field fs)
fields_some [] h = omega arith
fields_some (f ∷ fs) h =
    omega (arith, field_some f (All-head IsField f fs h), length-append (print_field f) (flat_map print_field fs), fields_some fs (All-tail IsField f fs h))

pub head_some : (h : RequestHead) → All IsField h.fields → 3 * length h.fields ≤ length (print_request h)
unfolding print_request
head_some h all = let some = fields_some h.fields all in simp length-append (omega arith)

-- 16,384 bytes hold no more than 5,462 fields
pub no_excess : (buf : List ℕ) (room : ℕ) → 5462 ≤ room → length buf ≤ 16384 → RequestExceeds room buf → ⊥
no_excess buf room fits short (front, rest, split, h, reads, over) =
    let some = head_some h reads.0.fields in
    let all = ap length reads.1 in
    let part = ap length split in
    let a = simp length-append at all in
    let b = simp length-append at part in
    omega arith
