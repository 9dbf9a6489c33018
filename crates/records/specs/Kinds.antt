-- The kinds of rows, and their keys.
use Rattle.std.specs.Prelude.{ℕ, ◌==◌, Bool}
use Rattle.records.specs.declared.record.Record.{Record}
use Rattle.records.specs.declared.record.Record.TheVariants.{Meta, Report, Deferral, Release, Kept, Alert}

abbrev pub kind_of : Record → ℕ
kind_of (Meta m) = 0
kind_of (Report r) = 1
kind_of (Deferral d) = 2
kind_of (Release r) = 3
kind_of (Kept k) = 4
kind_of (Alert a) = 5

-- the id of the record; an alert has the id of its release, and the meta row has 0
abbrev pub key_of : Record → ℕ
key_of (Meta m) = 0
key_of (Report r) = r.id
key_of (Deferral d) = d.id
key_of (Release r) = r.id
key_of (Kept k) = k.id
key_of (Alert a) = a.release

abbrev pub is_kind : ℕ → Record → Bool
is_kind kind r = kind_of r == kind
