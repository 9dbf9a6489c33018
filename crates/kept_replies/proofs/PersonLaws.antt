-- What holds of keys by person once one comes, and once some go.
use Rattle.std.proofs.Common.{◌≡◌, sym, subst, ℕ, ◌<◌, Bool, false, List, length, Option, Some, IfSome, arith}
use Rattle.std.specs.List.{AllByRecursion}
use Rattle.desk_io.specs.Keys.{KeySet}
use Rattle.kept_replies.specs.Index.{Key}
use Rattle.kept_replies.specs.ByPerson.{place_of, HasOne, IsChangedAt, IsPut, IsSpare, AreKept, AreByPerson}
use Rattle.kept_replies.proofs.SetLaws.{but_here, changed_length, have_kept, kept_length}

within_length : (o : Option ℕ) (n k : ℕ) → k ≡ n → IfSome o (λ i. i < n) → IfSome o (λ i. i < k)
within_length o n k same within = subst (λ m. IfSome o (λ i. i < m)) (sym same) within

pub put_holds : (places : List (ℕ × ℕ)) (a : ℕ) (ss ts : List (KeySet Key)) (count capacity : ℕ) (spare : Option (KeySet Key)) (key : Key) (place : ℕ) → place_of places key.0 ≡ Some place
    → ((m : ℕ) → IfSome (place_of places m) (λ i. i < length ss)) → AllByRecursion HasOne ss → IfSome spare IsSpare → IsChangedAt (IsPut key) place ss ts → AreByPerson places a ts count capacity spare (Some place) false
put_holds places a ss ts count capacity spare key place at within all empty is = record {
  within = λ m. within_length (place_of places m) (length ss) (length ts) (changed_length (IsPut key) place ss ts is) (within m);
  last_within = within_length (Some place) (length ss) (length ts) (changed_length (IsPut key) place ss ts is) (subst (λ o. IfSome o (λ i. i < length ss)) at (within key.0));
  have = but_here (IsPut key) place ss ts is all;
  empty = empty;
  ready = λ e. absurd cc;
}

pub kept_holds : (p : Key → Bool) (places : List (ℕ × ℕ)) (a : ℕ) (ss ts : List (KeySet Key)) (n m c d : ℕ) (spare : Option (KeySet Key)) (last : Option ℕ) (room : Bool) → AreKept p ss ts → m ≡ n → d ≡ c
    → AreByPerson places a ss n c spare last room → AreByPerson places a ts m d spare last room
kept_holds p places a ss ts n m c d spare last room is same wide holds = record {
  within = λ mark. within_length (place_of places mark) (length ss) (length ts) (kept_length p ss ts is) (holds.within mark);
  last_within = within_length last (length ss) (length ts) (kept_length p ss ts is) holds.last_within;
  have = have_kept p last ss ts is holds.have;
  empty = holds.empty;
  ready = λ e.
      let all = holds.ready e in
      record {
        has_place = all.has_place;
        has_end = let less = all.has_end in omega (arith, less, same, wide);
        has_spare = all.has_spare;
        none_full = all.none_full;
      };
}
