use Rattle.std.proofs.Common.{◌≡◌, ◌≤◌, ◌+◌, ◌||◌, ℕ, drop, length}
use Rattle.facts.specs.Index.{key_cmp}
use Rattle.desk_io.specs.Keys.{is_held}
use Rattle.release_index.proofs.keys.enter.Given as goal

abbrev pub invariant-loop-key : goal.invariant-loop-key
invariant-loop-key l = record {
  each : (q : ℕ × ℕ) → (is_held key_cmp q (drop l.key-index l.coming) || is_held key_cmp q l.held.keys)
      ≡ (is_held key_cmp q l.coming || is_held key_cmp q l.fn.held.keys);
  room : length l.coming ≤ l.held.room + l.key-index;
}
