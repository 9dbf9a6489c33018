use Rattle.std.proofs.Common.{◌≡◌, ◌≤◌, ◌&&◌, ◌||◌, not, ℕ, drop}
use Rattle.facts.specs.Index.{key_cmp}
use Rattle.desk_io.specs.Keys.{is_held}
use Rattle.release_index.proofs.moves.leave_others.Given as goal

abbrev pub invariant-loop-key : goal.invariant-loop-key
invariant-loop-key l = record {
  each : (q : ℕ × ℕ) → ((not (is_held key_cmp q (drop l.key-index l.leaving)) || is_held key_cmp q l.coming) && is_held key_cmp q l.index.keys)
      ≡ ((not (is_held key_cmp q l.leaving) || is_held key_cmp q l.coming) && is_held key_cmp q l.fn.index.keys);
  room : l.fn.index.room ≤ l.index.room;
}
