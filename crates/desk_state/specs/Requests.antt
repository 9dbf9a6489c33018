-- Kept replies by person and number, and floors: the highest swept number of each person.
use Rattle.std.specs.Prelude.{ℕ, max, List, [], ◌∷◌, filter, not}
use Rattle.std.specs.Ordering.{nat_cmp}
use Rattle.std.specs.declared.cmp.Ordering.{Ordering}
use Rattle.std.specs.declared.cmp.Ordering.TheVariants.{Less, Equal, Greater}
use Rattle.std.specs.Cmp.Lexicographic.{slice_cmp}
use Rattle.asks.specs.declared.kept.Floor.{Floor}
use Rattle.asks.specs.declared.kept.KeptReply.{KeptReply}
pub use Rattle.kept_replies.specs.Requests.{is_request, kept_at, floor_at, is_since}

abbrev pub floor : List ℕ → ℕ → Floor
floor actor number = record { actor = actor; number = number }

abbrev pub raised_here : Ordering → List ℕ → ℕ → Floor → List Floor → List Floor → List Floor
raised_here Less actor number f rest raised = floor actor number ∷ f ∷ rest
raised_here Equal actor number f rest raised = floor f.actor (max f.number number) ∷ rest
raised_here Greater actor number f rest raised = f ∷ raised

-- the floors, with that of a person raised to at least this number, in byte order of the names
abbrev pub raised_to : List ℕ → ℕ → List Floor → List Floor
raised_to actor number [] = floor actor number ∷ []
raised_to actor number (f ∷ fs) = raised_here (slice_cmp nat_cmp actor f.actor) actor number f fs (raised_to actor number fs)

-- the floors raised to at least the numbers of these replies
abbrev pub raised_by : List KeptReply → List Floor → List Floor
raised_by [] floors = floors
raised_by (k ∷ ks) floors = raised_by ks (raised_to k.actor k.number floors)

-- the replies that a sweep removes
abbrev pub kept_before : ℕ → List KeptReply → List KeptReply
kept_before before kept = filter (λ k. not (is_since before k)) kept
