use Rattle.std.proofs.Common.{ℕ, ◌+◌, ◌*◌, ◌≤◌, length}
use Rattle.json.specs.Json.{items, members, value}
use Rattle.serde_json.specs.Data.{no_members}
use Rattle.serde_json.specs.Read.{of_items, of_members, converted}
use Rattle.compact_json.proofs.WriteLaws.{ItemsGrown, MembersGrown}
use Rattle.compact_json.proofs.writing.+write.Given as goal

abbrev pub decreases-write : goal.decreases-write
decreases-write l = 3 * l.depth

abbrev pub decreases-write_array : goal.decreases-write_array
decreases-write_array l = 3 * l.depth + 2

abbrev pub decreases-write_items : goal.decreases-write_items
decreases-write_items l = 3 * l.depth + 1

abbrev pub decreases-write_members : goal.decreases-write_members
decreases-write_members l = 3 * l.depth + 1

abbrev pub decreases-write_object : goal.decreases-write_object
decreases-write_object l = 3 * l.depth + 2

abbrev pub invariant-write_items-items : goal.invariant-write_items-items
invariant-write_items-items l =
    (n : ℕ) × (length l.reader ≤ n)
    × ItemsGrown l.initial.out.items l.out.items (converted of_items (items (value l.depth) (length l.initial.reader) l.initial.reader)) (converted of_items (items (value l.depth) n l.reader))
    × (length l.reader ≤ length l.initial.reader)

abbrev pub decreases-write_items-items : goal.decreases-write_items-items
decreases-write_items-items l = length l.reader

abbrev pub invariant-write_members-members : goal.invariant-write_members-members
invariant-write_members-members l =
    (n : ℕ) × (length l.reader ≤ n)
    × MembersGrown l.initial.out.items l.out.items (converted (λ ms. of_members ms no_members) (members (value l.depth) (length l.initial.reader) l.initial.reader)) (λ found. converted (λ ms. of_members ms found) (members (value l.depth) n l.reader))
    × (length l.reader ≤ length l.initial.reader)

abbrev pub decreases-write_members-members : goal.decreases-write_members-members
decreases-write_members-members l = length l.reader
