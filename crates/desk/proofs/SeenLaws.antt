-- What goes on through one call of a desk goes on through two.
use Rattle.std.proofs.Common.{refl, ◌∙◌}
use Rattle.desk.proofs.SavedLaws.{between_none, between_on}
use Rattle.desk.specs.Seen.{DeskSeen, DeskGoesOn}
use Rattle.keeper.proofs.SeenLaws.{keeper_stays, keeper_on}

pub desk_stays : (desk : DeskSeen) → DeskGoesOn desk desk
desk_stays desk = record {
  opening = refl;
  rows = λ kept. kept;
  keeper = keeper_stays desk.keeper;
  saves = between_none desk.keeper.account desk.keeper.account desk.state desk.state refl refl;
  listed = λ held. held;
  rung = λ bells since. since;
}

pub desk_on : (old mid new : DeskSeen) → DeskGoesOn old mid → DeskGoesOn mid new → DeskGoesOn old new
desk_on old mid new one two = record {
  opening = two.opening ∙ one.opening;
  rows = λ kept. two.rows (one.rows kept);
  keeper = keeper_on old.keeper mid.keeper new.keeper one.keeper two.keeper;
  saves = between_on old.keeper.account mid.keeper.account new.keeper.account old.state mid.state new.state one.saves two.saves;
  listed = λ held. two.listed (one.listed held);
  rung = λ bells since. two.rung bells (one.rung bells since);
}
