-- Reads that follow one another.
use Rattle.std.proofs.Common.{◌≡◌, ℕ, ◌+◌, ◌-◌, ◌≤◌, List, [], ◌++◌, length, take, drop, min, sym, ap, ◌∙◌, append_assoc, append-nil, arith}
use Rattle.std.proofs.lemmas.List.{take_all}
use Rattle.std.proofs.Math.Seq.{take-add}
use Rattle.std.proofs.lemmas.Grind.{common_steps}
use Rattle.pg_wire.specs.Backend.{Skips, TakesContent}

pub skips_none : (before : List ℕ) (n : ℕ) → n ≡ 0 → Skips before before n
skips_none before n none = ([], sym (append-nil before), sym none)

pub skips_more : (a b c : List ℕ) (n m k : ℕ) → Skips a b n → Skips b c m → k ≡ n + m → Skips a c k
skips_more a b c n m k one two is =
    let whole : length (one.0 ++ two.0) ≡ k = grind (arith, common_steps, one.2, two.2, is) in
    (one.0 ++ two.0, two.1 ∙ ap (λ l. l ++ two.0) one.1 ∙ append_assoc a one.0 two.0, whole)

-- the front of a content that was kept, and its rest that was dropped
pub content_of : (a b c front : List ℕ) (room size : ℕ) → b ≡ a ++ front → length front ≡ min room size → Skips b c (size - min room size)
    → TakesContent a c size room front
content_of a b c front room size read sized skipped =
    let whole : length (front ++ skipped.0) ≡ size = grind (arith, common_steps, sized, skipped.2) in
    let shown : front ≡ take room (front ++ skipped.0) = grind (arith, common_steps, sized, skipped.2) in
    record {
      content = front ++ skipped.0;
      read = skipped.1 ∙ ap (λ l. l ++ skipped.0) read ∙ append_assoc a front skipped.0;
      sized = whole;
      shown = shown;
    }

-- a read over the bytes from a place on
pub front_more : (old a b into after : List ℕ) (p n : ℕ) → a ≡ old ++ take p into → take p after ≡ take p into → b ≡ a ++ take n (drop p after)
    → b ≡ old ++ take (p + n) after
front_more old a b into after p n come kept read =
    read ∙ ap (λ l. l ++ take n (drop p after)) (come ∙ ap (λ l. old ++ l) (sym kept)) ∙ append_assoc old (take p after) (take n (drop p after))
    ∙ ap (λ l. old ++ l) (sym (take-add p n after))

-- a whole buffer was read
pub front_whole : (old a into : List ℕ) (p : ℕ) → a ≡ old ++ take p into → length into ≤ p → a ≡ old ++ into
front_whole old a into p come long = come ∙ ap (λ l. old ++ l) (take_all p into long)
