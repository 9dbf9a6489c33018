-- The rows of valid records that fit together have no fault.
use Rattle.std.proofs.Common.{◌≡◌, List, [], ◌∷◌, ◌++◌, map, Result, Ok, Err, ap, ◌∙◌, subst}
use Rattle.std.specs.List.{AllByRecursion}
use Rattle.std.proofs.lemmas.List.Elements.{recursion_from_All}
use Rattle.desk_io.specs.declared.rows.Row.{Row}
use Rattle.release_json.specs.declared.version.Version.{Version}
use Rattle.records.specs.Bodies.{row_in}
use Rattle.records.specs.Checks.{AreRowsOf, HasNoRecord, IsFaultOf, IsFirstBad, IsMisfit}
use Rattle.records.specs.Faults.{fit}
use Rattle.records.specs.Reading.{version_of}
use Rattle.records.specs.Valid.{IsRecord, SaysRecord}
use Rattle.records.specs.declared.faults.RowWhy.{RowWhy}
use Rattle.records.specs.declared.faults.RowWhy.TheVariants.{NotCanonical, NoMeta, Orphan, OverLimit}
use Rattle.records.specs.declared.faults.RowsFault.TheVariants.{BadRow, BadPair}
use Rattle.records.specs.declared.record.Record.{Record}
use Rattle.row_changes.specs.Held.{AreOfDesk}
use Rattle.row_changes.proofs.SameRows.{AreRowsIn, one_list}

-- each row of valid records is that of one of them
row_there : (version : Version) (rs : List Record) (before after : List Row) (row : Row) → AllByRecursion IsRecord rs → AllByRecursion (SaysRecord version) rs → map (row_in version) rs ≡ before ++ row ∷ after
    → HasNoRecord version row → ⊥
row_there version [] [] after row valid said stands none = cc
row_there version [] (b ∷ before) after row valid said stands none = cc
row_there version (r ∷ rs) [] after row valid said stands none = none r valid.0 said.0 (cc)
row_there version (r ∷ rs) (b ∷ before) after row valid said stands none = row_there version rs before after row valid.1 said.1 (cc) none

all_read : (version : Version) (rows : List Row) (rs : List Record) → AreRowsIn version rows rs → (row : Row) → IsFirstBad rows row → ⊥
all_read version rows rs are row is =
    row_there version rs is.before is.after row (recursion_from_All IsRecord rs are.are.valid) (recursion_from_All (SaysRecord version) rs are.are.said) (are.are.made ∙ is.stands)
    (subst (λ v. HasNoRecord v row) are.named is.bad)

-- records with the rows of a desk pass its tests
same_fit : (version : Version) (rows : List Row) (rs records : List Record) → AreOfDesk rs → AreRowsIn version rows rs → AreRowsOf (version_of rows) rows records → fit records ≡ Ok tt
same_fit version rows rs records desk are read = ap fit (one_list version rows records rs (subst (λ v. AreRowsOf v rows records) are.named read) are.are) ∙ desk.fit

not_both : {T E : Type 0} (r : Result T E) (x : T) (e : E) → r ≡ Ok x → r ≡ Err e → ⊥
not_both r x e passed fails = cc

all_fit : (version : Version) (rows : List Row) (rs : List Record) → AreOfDesk rs → AreRowsIn version rows rs → (row : Row) (why : RowWhy) → IsMisfit rows row why → ⊥
all_fit version rows rs desk are row why is = not_both (fit is.misfit.records) tt _ (same_fit version rows rs is.misfit.records desk are is.misfit.are) is.misfit.fails

-- no row of a desk is bad
pub no_bad_row : (version : Version) (rows : List Row) (rs : List Record) → AreOfDesk rs → AreRowsIn version rows rs → (row : Row) (why : RowWhy) → IsFaultOf rows (BadRow row why) → ⊥
no_bad_row version rows rs desk are row NotCanonical is = all_read version rows rs are row is
no_bad_row version rows rs desk are row NoMeta is = all_fit version rows rs desk are row NoMeta is
no_bad_row version rows rs desk are row Orphan is = all_fit version rows rs desk are row Orphan is
no_bad_row version rows rs desk are row OverLimit is = all_fit version rows rs desk are row OverLimit is

-- no two rows of a desk are at odds
pub no_bad_pair : (version : Version) (rows : List Row) (rs : List Record) → AreOfDesk rs → AreRowsIn version rows rs → (one two : Row) → IsFaultOf rows (BadPair one two) → ⊥
no_bad_pair version rows rs desk are one two is = not_both (fit is.misfit.records) tt _ (same_fit version rows rs is.misfit.records desk are is.misfit.are) is.misfit.fails
