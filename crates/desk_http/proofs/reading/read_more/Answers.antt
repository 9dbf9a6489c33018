use Rattle.std.proofs.Common.{◌≡◌, ap, ◌∙◌, ◌++◌, ◌+◌, List, ℕ, take, drop}
use Rattle.std.proofs.Math.Seq.{take-add}
use Rattle.desk_http.proofs.reading.read_more.Goals as goal

joined : (kept room read now : List ℕ) (n m : ℕ) → now ≡ take (n + m) read → take n read ≡ take n room → take n room ≡ kept → now ≡ kept ++ take m (drop n read)
joined kept room read now n m cut same front = cut ∙ take-add n m read ∙ ap (λ xs. xs ++ take m (drop n read)) (same ∙ front)

-- the bytes that were read stand after those that were kept
pub returns-in-Ok-clause-more : goal.returns-in-Ok-clause-more
returns-in-Ok-clause-more g c =
    let read : List ℕ = c.read_after.new.bytes.items in
    let kept = c.in_ok-kept.kept in (
      take c.in-Ok.count (drop kept read),
      joined c.args.bytes.now.items c.add_room.new.bytes.items read c.truncate.new.self.items kept c.in-Ok.count c.truncate.ensures.items c.read_after.ensures.front c.in_ok-kept.ensures.front,
      c.in-Ok.ensures.given,
    )
