-- The table of sky groups and the feet that each reports (FMH-1, 12.6.9; WMO FM 15, 15.9).
use Rattle.std.specs.Prelude.{◌≡◌, ℕ, ◌*◌, List, [], ◌++◌, codes}
use Rattle.codes.specs.declared.shapes.Named.{Named}
use Rattle.codes.specs.declared.shapes.Named.TheVariants.{Value, Unmeasured, Nothing, Bad}
use Rattle.codes.specs.Digits.{ThreeDigits}

-- a layer that isn't a ceiling
pub data IsOpenLayer : List ℕ → Type 0 where
  few : IsOpenLayer (codes "FEW")
  scattered : IsOpenLayer (codes "SCT")

-- a layer that is a ceiling
pub data IsCeiling : List ℕ → Type 0 where
  broken : IsCeiling (codes "BKN")
  overcast : IsCeiling (codes "OVC")

-- the height of a layer in hundreds of feet, or /// if it wasn't measured
pub data ShowsHeight : List ℕ → Named → Type 0 where
  measured : {text : List ℕ} {n : ℕ} → ThreeDigits text n → ShowsHeight text (Value (n * 100))
  unmeasured : ShowsHeight (codes "///") Unmeasured

-- the type of cloud after the height: none, cumulonimbus, towering cumulus, or unknown
pub data IsCloud : List ℕ → Type 0 where
  unnamed : IsCloud []
  cumulonimbus : IsCloud (codes "CB")
  towering : IsCloud (codes "TCU")
  unknown : IsCloud (codes "///")

-- a sky group and what it reports
pub data InSky : List ℕ → Named → Type 0 where
  open_layer : {word text kind : List ℕ} {height : Named} → IsOpenLayer word → ShowsHeight text height → IsCloud kind → InSky (word ++ (text ++ kind)) (Value 100_000)
  ceiling : {word text kind : List ℕ} {height : Named} → IsCeiling word → ShowsHeight text height → IsCloud kind → InSky (word ++ (text ++ kind)) height
  vertical : {text : List ℕ} {height : Named} → ShowsHeight text height → InSky (codes "VV" ++ text) height
  sky_clear : InSky (codes "SKC") (Value 100_000)
  clear_below_12_000 : InSky (codes "CLR") (Value 12_000)
  none_significant : InSky (codes "NSC") (Value 5000)
  none_detected : InSky (codes "NCD") (Value 5000)
  cavok : InSky (codes "CAVOK") (Value 5000)

-- the group begins like a layer or a vertical visibility
pub data BeginsAsLayer : List ℕ → Type 0 where
  with_open_layer : {word : List ℕ} → IsOpenLayer word → (rest : List ℕ) → BeginsAsLayer (word ++ rest)
  with_ceiling : {word : List ℕ} → IsCeiling word → (rest : List ℕ) → BeginsAsLayer (word ++ rest)
  with_vertical : (rest : List ℕ) → BeginsAsLayer (codes "VV" ++ rest)

-- what the table gives for a group
pub record IsTabledSky (group : List ℕ) (named : Named) : Type 0 where
  pub in_sky : (value : Named) → InSky group value → named ≡ value
  pub bad : BeginsAsLayer group → ((value : Named) → InSky group value → ⊥) → named ≡ Bad
  pub other : (BeginsAsLayer group → ⊥) → ((value : Named) → InSky group value → ⊥) → named ≡ Nothing
