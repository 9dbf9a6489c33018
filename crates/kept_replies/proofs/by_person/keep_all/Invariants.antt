use Rattle.std.proofs.Common.{◌≡◌, vec_len}
use Rattle.std.specs.Vec.{vec_capacity}
use Rattle.kept_replies.specs.Index.{leads_to}
use Rattle.kept_replies.proofs.SetLaws.{KeptTo}
use Rattle.kept_replies.proofs.by_person.keep_all.Given as goal

abbrev pub invariant-loop-place : goal.invariant-loop-place
invariant-loop-place l =
    KeptTo (leads_to l.kept.list) l.place l.initial.sets.items l.sets.items × (vec_len l.sets ≡ vec_len l.initial.sets) × (vec_capacity l.sets ≡ vec_capacity l.initial.sets)
