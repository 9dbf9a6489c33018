-- Marks of records: any two conflicting records share one, and an index has the first place of each.
use Rattle.std.specs.Prelude.{◌≡◌, ℕ, Bool, ◌||◌, if◌then◌else◌, List, Option}
use Rattle.std.specs.declared.cmp.Ordering.{Ordering}
use Rattle.std.specs.Ordering.{nat_cmp, ordering_then}
use Rattle.std.specs.List.{position_from}
use Rattle.std.specs.Map.{lookup}
use Rattle.std.specs.BTreeMap.{is_at}
use Rattle.plan.specs.Phases.{is_active}
use Rattle.records.specs.Kinds.{kind_of, key_of}
use Rattle.facts.specs.Index.{fingerprint}
use Rattle.records.specs.Faults.{minute_of}
use Rattle.records.specs.declared.marks.Marks.{Marks}
use Rattle.records.specs.declared.record.Record.{Record}
use Rattle.records.specs.declared.record.Record.TheVariants.{Meta, Report, Deferral, Release, Kept, Alert}

abbrev pub Mark : Type 0
Mark = ℕ × ℕ

-- the kind and the key of its row
abbrev pub own_mark : Record → Mark
own_mark r = (kind_of r, key_of r)

-- an inactive release has the same mark as its alert
abbrev pub release_mark : Bool → ℕ → Mark
release_mark active id = if active then (3, id) else (6, id)

-- the mark of its content, which two conflicting records of different rows share
abbrev pub other_mark : Record → Mark
other_mark (Meta m) = (0, 0)
other_mark (Report r) = (minute_of r, fingerprint r.text)
other_mark (Deferral d) = (2, d.id)
other_mark (Release r) = release_mark (is_active r.phase) r.id
other_mark (Kept k) = (fingerprint k.actor, k.number)
other_mark (Alert a) = (6, a.release)

abbrev pub marks_of : Record → Marks
marks_of r = record { own = own_mark r; other = other_mark r }

abbrev pub mark_cmp : Mark → Mark → Ordering
mark_cmp x y = ordering_then (nat_cmp x.0 y.0) (nat_cmp x.1 y.1)

-- a mark is one of the two
abbrev pub is_marked : Mark → Marks → Bool
is_marked mark m = is_at (mark_cmp m.own) mark || is_at (mark_cmp m.other) mark

abbrev pub place_at : List (Mark × ℕ) → Mark → Option ℕ
place_at entries mark = lookup (is_at (mark_cmp mark)) entries

-- an index with the first place of each mark
abbrev pub IsIndex : List (Mark × ℕ) → List Marks → Type 0
IsIndex entries ms = (mark : ℕ × ℕ) → place_at entries mark ≡ position_from (is_marked mark) 0 ms
