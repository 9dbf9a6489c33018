-- What the writer adds for each piece of JSON that it reads.
use Rattle.std.specs.Prelude.{◌≡◌, ℕ, ◌≤◌, ◌<◌, ◌^◌, List, ◌∷◌, ◌++◌, length, Option, Some}
use Rattle.json.specs.Token.{Token}
use Rattle.serde_json.specs.Data.{Data, Items, Members}
use Rattle.compact_json.specs.declared.boxes.Kind.{Kind}
use Rattle.compact_json.specs.declared.boxes.Kind.TheVariants as kind
use Rattle.compact_json.specs.Boxes.{kind_of, content, after, long_box}
use Rattle.compact_json.specs.Kept.{data_of, items_of, members_of}

-- the bytes are one box of this kind and content, whatever follows
pub record IsBoxOf (k : Kind) (s bytes : List ℕ) : Type 0 where
  pub some : 1 ≤ length bytes
  pub kind_is : (more : List ℕ) → kind_of (bytes ++ more) ≡ k
  pub content_is : (more : List ℕ) → content (bytes ++ more) ≡ s
  pub after_is : (more : List ℕ) → after (bytes ++ more) ≡ more

-- the bytes are one box, whatever follows
pub record IsBox (bytes : List ℕ) : Type 0 where
  pub some : 1 ≤ length bytes
  pub same : (more : List ℕ) → data_of (bytes ++ more) ≡ data_of bytes
  pub after_is : (more : List ℕ) → after (bytes ++ more) ≡ more

-- a box was added
pub record HasBox (k : Kind) (s old new : List ℕ) : Type 0 where
  pub added : List ℕ
  pub longer : new ≡ old ++ added
  pub is_box : IsBoxOf k s added

-- a box was added that stores the value that was read
pub record HasData (old new : List ℕ) (read : Option (Data × List Token)) (left : List Token) : Type 0 where
  pub added : List ℕ
  pub longer : new ≡ old ++ added
  pub is_box : IsBox added
  pub keeps : read ≡ Some (data_of added, left)

-- the boxes of a list's items were added
pub record HasItems (old new : List ℕ) (read : Option (Items × List Token)) (left : List Token) : Type 0 where
  pub added : List ℕ
  pub longer : new ≡ old ++ added
  pub keeps : read ≡ Some (items_of added, left)

-- a box with the items was added
pub record HasArray (old new : List ℕ) (read : Option (Items × List Token)) (left : List Token) : Type 0 where
  pub inner : List ℕ
  pub is_array : HasBox kind.Array inner old new
  pub keeps : read ≡ Some (items_of inner, left)

-- the boxes of an object's members were added
pub record HasMembers (old new : List ℕ) (read : Option (Members × List Token)) (left : List Token) : Type 0 where
  pub added : List ℕ
  pub longer : new ≡ old ++ added
  pub keeps : read ≡ Some (members_of added, left)

-- a box with the members was added
pub record HasObject (old new : List ℕ) (read : Option (Members × List Token)) (left : List Token) : Type 0 where
  pub inner : List ℕ
  pub is_object : HasBox kind.Object inner old new
  pub keeps : read ≡ Some (members_of inner, left)

-- the length of the box that begins at index `start` was set
abbrev pub SetsLength : List ℕ → List ℕ → ℕ → Type 0
SetsLength old new start =
    (front : List ℕ) (b w x y z : ℕ) (s : List ℕ) → old ≡ front ++ b ∷ w ∷ x ∷ y ∷ z ∷ s → length front ≡ start → new ≡ front ++ long_box b s

abbrev pub FitsLength : List ℕ → ℕ → Type 0
FitsLength old start = (front : List ℕ) (b w x y z : ℕ) (s : List ℕ) → old ≡ front ++ b ∷ w ∷ x ∷ y ∷ z ∷ s → length front ≡ start → length s < 2 ^ 32
