-- What is found for a person: a reply of his under the number, and the number of a floor of his.
use Rattle.std.proofs.Common.{◌≡◌, ◌≢◌, refl, ap, ℕ, ◌==◌, Bool, true, false, cond, List, [], ◌∷◌, Option, Some, None, bytes_eq, option_map}
use Rattle.std.proofs.lemmas.Bool.{eqb-true, and_parts}
use Rattle.std.proofs.lemmas.List.Elements.{All-nil, All-cons}
use Rattle.std.proofs.lemmas.Slice.Eq.{bytes_eq-Decides}
use Rattle.std.specs.List.{find}
use Rattle.desk_io.proofs.ByIdLaws.{same}
use Rattle.asks.specs.declared.kept.Floor.{Floor}
use Rattle.asks.specs.declared.kept.KeptReply.{KeptReply}
use Rattle.kept_replies.specs.Requests.{is_request, kept_at, floor_at, IsFoundFor, IsToldOf}

clash : (b : Bool) → b ≡ false → b ≡ true → ⊥
clash true e f = cc
clash false e f = cc

module _ (actor : List ℕ) where
  named : (name : List ℕ) → name ≡ actor → bytes_eq name actor ≡ true
  named name is = (bytes_eq-Decides name actor).1 is

  -- ---- replies

  module _ (number : ℕ) where
    requested : (k : KeptReply) → k.actor ≡ actor → k.number ≡ number → is_request actor number k ≡ true
    requested k his under = rw (same k.number number under, named k.actor his) refl

    one_more : (k : KeptReply) (ks : List KeptReply) (o : Option KeptReply) → is_request actor number k ≡ false → IsFoundFor actor number ks o → IsFoundFor actor number (k ∷ ks) o
    one_more k ks None other none = All-cons (λ (x : KeptReply). x.actor ≡ actor → x.number ≢ number) k ks (λ his under. clash (is_request actor number k) other (requested k his under)) none
    one_more k ks (Some x) other is = record {
      before = k ∷ is.before;
      after = is.after;
      stands = ap (λ xs. k ∷ xs) is.stands;
      his = is.his;
      under = is.under;
    }

    pub found_for : (kept : List KeptReply) → IsFoundFor actor number kept (kept_at actor number kept)
    found_for [] = All-nil (λ (x : KeptReply). x.actor ≡ actor → x.number ≢ number)
    found_for (k ∷ ks) = by (is_request actor number k) refl (found_for ks)
      where
        by : (b : Bool) → is_request actor number k ≡ b → IsFoundFor actor number ks (kept_at actor number ks) → IsFoundFor actor number (k ∷ ks) (cond b (Some k) (kept_at actor number ks))
        by true e rest =
            let both = and_parts (k.number == number) (bytes_eq k.actor actor) e in
            record {
              before = [];
              after = ks;
              stands = refl;
              his = (bytes_eq-Decides k.actor actor).0 both.1;
              under = eqb-true k.number number both.0;
            }
        by false e rest = one_more k ks (kept_at actor number ks) e rest

  -- ---- floors

  another : (f : Floor) (fs : List Floor) (o : Option ℕ) → bytes_eq f.actor actor ≡ false → IsToldOf actor fs o → IsToldOf actor (f ∷ fs) o
  another f fs None other none = All-cons (λ (g : Floor). g.actor ≢ actor) f fs (λ his. clash (bytes_eq f.actor actor) other (named f.actor his)) none
  another f fs (Some n) other is = record {
    before = f ∷ is.before;
    floor = is.floor;
    after = is.after;
    stands = ap (λ xs. f ∷ xs) is.stands;
    his = is.his;
    tells = is.tells;
  }

  pub told_of : (floors : List Floor) → IsToldOf actor floors (floor_at actor floors)
  told_of [] = All-nil (λ (g : Floor). g.actor ≢ actor)
  told_of (f ∷ fs) = by (bytes_eq f.actor actor) refl (told_of fs)
    where
      by : (b : Bool) → bytes_eq f.actor actor ≡ b → IsToldOf actor fs (floor_at actor fs)
          → IsToldOf actor (f ∷ fs) (option_map (λ (g : Floor). g.number) (cond b (Some f) (find (λ g. bytes_eq g.actor actor) fs)))
      by true e rest = record {
        before = [];
        floor = f;
        after = fs;
        stands = refl;
        his = (bytes_eq-Decides f.actor actor).0 e;
        tells = refl;
      }
      by false e rest = another f fs (floor_at actor fs) e rest
