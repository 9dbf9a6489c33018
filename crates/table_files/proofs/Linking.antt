-- Tables that were read from all files name what stands in them.
use Rattle.std.proofs.Common.{◌≡◌, ◌∙◌, sym, ap, refl, subst, ℕ, List, Bool, Ok, All, IsTrue, ◌&&◌}
use Rattle.desk_io.specs.declared.source_read.SourceRead.{SourceRead}
use Rattle.ops_tables.specs.Tables.{TableRows, has_airport, has_type, has_item, has_captain}
use Rattle.ops_tables.specs.Keys.{is_same_airport, is_same_approach, is_same_alternate, is_same_type, is_same_tail, is_same_use, is_same_distance, is_same_route, is_same_item, is_same_pair, is_same_actor, is_same_hours}
use Rattle.ops_tables.specs.Limits.{FitsSettings}
use Rattle.ops_tables.specs.Linked.{AreLinked}
use Rattle.ops_tables.specs.declared.rows.AlternateRow.{AlternateRow}
use Rattle.ops_tables.specs.declared.rows.Approach.{Approach}
use Rattle.ops_tables.specs.Rows.{CaptainHours, ItemPair}
use Rattle.ops_tables.specs.declared.rows.Distance.{Distance}
use Rattle.ops_tables.specs.declared.rows.MelRow.{MelRow}
use Rattle.ops_tables.specs.declared.rows.Route.{Route}
use Rattle.ops_tables.specs.declared.rows.Tail.{Tail}
use Rattle.ops_tables.specs.declared.rows.Use.{Use}
use Rattle.table_files.specs.Files.{files, no_rows, airports, approaches, alternates, types, tails, uses, distances, routes, mel, pairs, actors, hours}
use Rattle.table_files.specs.Reading.{Table}
use Rattle.table_files.specs.Good.{SaysTable}
use Rattle.table_files.specs.Whole.{Told, FilesGive}

-- the rows of a table that was read are linked
filled : {R : Type 0} (same : R → R → Bool) (limit : ℕ) (table : Table R) (before after : TableRows) (records : List (List (List ℕ))) → SaysTable same limit table before records (Ok after)
    → (rows : List R) × (table.with_rows before rows ≡ after) × All (λ r. IsTrue (table.is_linked before r)) rows
filled same limit table before after records says =
    let good = (says.good after).1 refl in
    (good.0, good.2, good.1.holds.linked)

pub linked : (told : Told) (old new : List SourceRead) (t : TableRows) → FilesGive told old new no_rows files t → FitsSettings t.settings → AreLinked t
linked told old new t r1 fits =
    let p1 = (r1.2.says.good r1.0).1 refl in
    let t1 : TableRows = record no_rows { settings = p1.0 } in
    let e1 : t1 ≡ r1.0 = p1.2 in
    let r2 = r1.3 in
    let p2 = filled is_same_airport 5000 airports r1.0 r2.0 r2.2.gives.records r2.2.says in
    let t2 : TableRows = record t1 { airports = p2.0 } in
    let e2 : t2 ≡ r2.0 = ap (λ (t : TableRows). record t { airports = p2.0 }) e1 ∙ p2.1 in
    let r3 = r2.3 in
    let p3 = filled is_same_approach 50000 approaches r2.0 r3.0 r3.2.gives.records r3.2.says in
    let t3 : TableRows = record t2 { approaches = p3.0 } in
    let e3 : t3 ≡ r3.0 = ap (λ (t : TableRows). record t { approaches = p3.0 }) e2 ∙ p3.1 in
    let r4 = r3.3 in
    let p4 = filled is_same_alternate 20000 alternates r3.0 r4.0 r4.2.gives.records r4.2.says in
    let t4 : TableRows = record t3 { alternates = p4.0 } in
    let e4 : t4 ≡ r4.0 = ap (λ (t : TableRows). record t { alternates = p4.0 }) e3 ∙ p4.1 in
    let r5 = r4.3 in
    let p5 = filled is_same_type 200 types r4.0 r5.0 r5.2.gives.records r5.2.says in
    let t5 : TableRows = record t4 { types = p5.0 } in
    let e5 : t5 ≡ r5.0 = ap (λ (t : TableRows). record t { types = p5.0 }) e4 ∙ p5.1 in
    let r6 = r5.3 in
    let p6 = filled is_same_tail 5000 tails r5.0 r6.0 r6.2.gives.records r6.2.says in
    let t6 : TableRows = record t5 { tails = p6.0 } in
    let e6 : t6 ≡ r6.0 = ap (λ (t : TableRows). record t { tails = p6.0 }) e5 ∙ p6.1 in
    let r7 = r6.3 in
    let p7 = filled is_same_use 200000 uses r6.0 r7.0 r7.2.gives.records r7.2.says in
    let t7 : TableRows = record t6 { uses = p7.0 } in
    let e7 : t7 ≡ r7.0 = ap (λ (t : TableRows). record t { uses = p7.0 }) e6 ∙ p7.1 in
    let r8 = r7.3 in
    let p8 = filled is_same_distance 200000 distances r7.0 r8.0 r8.2.gives.records r8.2.says in
    let t8 : TableRows = record t7 { distances = p8.0 } in
    let e8 : t8 ≡ r8.0 = ap (λ (t : TableRows). record t { distances = p8.0 }) e7 ∙ p8.1 in
    let r9 = r8.3 in
    let p9 = filled is_same_route 50000 routes r8.0 r9.0 r9.2.gives.records r9.2.says in
    let t9 : TableRows = record t8 { routes = p9.0 } in
    let e9 : t9 ≡ r9.0 = ap (λ (t : TableRows). record t { routes = p9.0 }) e8 ∙ p9.1 in
    let r10 = r9.3 in
    let p10 = filled is_same_item 50000 mel r9.0 r10.0 r10.2.gives.records r10.2.says in
    let t10 : TableRows = record t9 { mel = p10.0 } in
    let e10 : t10 ≡ r10.0 = ap (λ (t : TableRows). record t { mel = p10.0 }) e9 ∙ p10.1 in
    let r11 = r10.3 in
    let p11 = filled is_same_pair 50000 pairs r10.0 r11.0 r11.2.gives.records r11.2.says in
    let t11 : TableRows = record t10 { pairs = p11.0 } in
    let e11 : t11 ≡ r11.0 = ap (λ (t : TableRows). record t { pairs = p11.0 }) e10 ∙ p11.1 in
    let r12 = r11.3 in
    let p12 = filled is_same_actor 5000 actors r11.0 r12.0 r12.2.gives.records r12.2.says in
    let t12 : TableRows = record t11 { actors = p12.0 } in
    let e12 : t12 ≡ r12.0 = ap (λ (t : TableRows). record t { actors = p12.0 }) e11 ∙ p12.1 in
    let r13 = r12.3 in
    let p13 = filled is_same_hours 20000 hours r12.0 r13.0 r13.2.gives.records r13.2.says in
    let t13 : TableRows = record t12 { hours = p13.0 } in
    let e13 : t13 ≡ r13.0 = ap (λ (t : TableRows). record t { hours = p13.0 }) e12 ∙ p13.1 in
    let is_t : t13 ≡ t = e13 ∙ r13.3.0 in
    subst AreLinked is_t (record {
      settings = subst (λ (t : TableRows). FitsSettings t.settings) (sym is_t) fits;
      approaches = subst (λ (t : TableRows). All (λ (r : Approach). IsTrue (has_airport t r.station)) p3.0) (sym e2) p3.2;
      alternates = subst (λ (t : TableRows). All (λ (r : AlternateRow). IsTrue (has_airport t r.station)) p4.0) (sym e3) p4.2;
      tails = subst (λ (t : TableRows). All (λ (r : Tail). IsTrue (has_type t r.kind)) p6.0) (sym e5) p6.2;
      uses = subst (λ (t : TableRows). All (λ (r : Use). IsTrue (has_type t r.kind && has_airport t r.station)) p7.0) (sym e6) p7.2;
      distances = subst (λ (t : TableRows). All (λ (r : Distance). IsTrue (has_airport t r.from && has_airport t r.to)) p8.0) (sym e7) p8.2;
      routes = subst (λ (t : TableRows). All (λ (r : Route). IsTrue (has_airport t r.from && has_airport t r.to)) p9.0) (sym e8) p9.2;
      mel = subst (λ (t : TableRows). All (λ (r : MelRow). IsTrue (has_type t r.kind)) p10.0) (sym e9) p10.2;
      pairs = subst (λ (t : TableRows). All (λ (r : ItemPair). IsTrue (has_type t r.kind && has_item t r.kind r.item && has_item t r.kind r.other)) p11.0) (sym e10) p11.2;
      hours = subst (λ (t : TableRows). All (λ (r : CaptainHours). IsTrue (has_captain t r.captain && has_type t r.kind)) p13.0) (sym e12) p13.2;
    })
