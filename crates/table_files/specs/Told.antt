-- Proofs that a row depends only on its record's first fields, one more than the columns.
use Rattle.std.specs.Prelude.{[], ◌∷◌, refl}
use Rattle.table_files.specs.Files.{airports, approaches, alternates, types, tails, uses, distances, routes, mel, pairs, actors, hours}
use Rattle.table_files.specs.Reading.{IsToldByFirst}

pub airport_told : IsToldByFirst airports
airport_told [] = refl
airport_told (a ∷ []) = refl
airport_told (a ∷ b ∷ []) = refl
airport_told (a ∷ b ∷ c ∷ []) = refl
airport_told (a ∷ b ∷ c ∷ d ∷ others) = refl

pub approach_told : IsToldByFirst approaches
approach_told [] = refl
approach_told (a ∷ []) = refl
approach_told (a ∷ b ∷ []) = refl
approach_told (a ∷ b ∷ c ∷ []) = refl
approach_told (a ∷ b ∷ c ∷ d ∷ []) = refl
approach_told (a ∷ b ∷ c ∷ d ∷ e ∷ []) = refl
approach_told (a ∷ b ∷ c ∷ d ∷ e ∷ f ∷ []) = refl
approach_told (a ∷ b ∷ c ∷ d ∷ e ∷ f ∷ g ∷ []) = refl
approach_told (a ∷ b ∷ c ∷ d ∷ e ∷ f ∷ g ∷ h ∷ others) = refl

pub alternate_told : IsToldByFirst alternates
alternate_told [] = refl
alternate_told (a ∷ []) = refl
alternate_told (a ∷ b ∷ []) = refl
alternate_told (a ∷ b ∷ c ∷ []) = refl
alternate_told (a ∷ b ∷ c ∷ d ∷ others) = refl

pub type_told : IsToldByFirst types
type_told [] = refl
type_told (a ∷ []) = refl
type_told (a ∷ b ∷ []) = refl
type_told (a ∷ b ∷ c ∷ []) = refl
type_told (a ∷ b ∷ c ∷ d ∷ []) = refl
type_told (a ∷ b ∷ c ∷ d ∷ e ∷ []) = refl
type_told (a ∷ b ∷ c ∷ d ∷ e ∷ f ∷ []) = refl
type_told (a ∷ b ∷ c ∷ d ∷ e ∷ f ∷ g ∷ others) = refl

pub tail_told : IsToldByFirst tails
tail_told [] = refl
tail_told (a ∷ []) = refl
tail_told (a ∷ b ∷ []) = refl
tail_told (a ∷ b ∷ c ∷ others) = refl

pub use_told : IsToldByFirst uses
use_told [] = refl
use_told (a ∷ []) = refl
use_told (a ∷ b ∷ []) = refl
use_told (a ∷ b ∷ c ∷ others) = refl

pub distance_told : IsToldByFirst distances
distance_told [] = refl
distance_told (a ∷ []) = refl
distance_told (a ∷ b ∷ []) = refl
distance_told (a ∷ b ∷ c ∷ []) = refl
distance_told (a ∷ b ∷ c ∷ d ∷ others) = refl

pub route_told : IsToldByFirst routes
route_told [] = refl
route_told (a ∷ []) = refl
route_told (a ∷ b ∷ []) = refl
route_told (a ∷ b ∷ c ∷ others) = refl

pub item_told : IsToldByFirst mel
item_told [] = refl
item_told (a ∷ []) = refl
item_told (a ∷ b ∷ []) = refl
item_told (a ∷ b ∷ c ∷ []) = refl
item_told (a ∷ b ∷ c ∷ d ∷ []) = refl
item_told (a ∷ b ∷ c ∷ d ∷ e ∷ []) = refl
item_told (a ∷ b ∷ c ∷ d ∷ e ∷ f ∷ []) = refl
item_told (a ∷ b ∷ c ∷ d ∷ e ∷ f ∷ g ∷ []) = refl
item_told (a ∷ b ∷ c ∷ d ∷ e ∷ f ∷ g ∷ h ∷ []) = refl
item_told (a ∷ b ∷ c ∷ d ∷ e ∷ f ∷ g ∷ h ∷ i ∷ others) = refl

pub pair_told : IsToldByFirst pairs
pair_told [] = refl
pair_told (a ∷ []) = refl
pair_told (a ∷ b ∷ []) = refl
pair_told (a ∷ b ∷ c ∷ []) = refl
pair_told (a ∷ b ∷ c ∷ d ∷ others) = refl

pub actor_told : IsToldByFirst actors
actor_told [] = refl
actor_told (a ∷ []) = refl
actor_told (a ∷ b ∷ []) = refl
actor_told (a ∷ b ∷ c ∷ []) = refl
actor_told (a ∷ b ∷ c ∷ d ∷ others) = refl

pub hours_told : IsToldByFirst hours
hours_told [] = refl
hours_told (a ∷ []) = refl
hours_told (a ∷ b ∷ []) = refl
hours_told (a ∷ b ∷ c ∷ []) = refl
hours_told (a ∷ b ∷ c ∷ d ∷ others) = refl
