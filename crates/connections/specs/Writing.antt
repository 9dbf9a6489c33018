-- What is written at each step of a connection.
use Rattle.std.specs.Prelude.{◌≡◌, ◌⊎◌, ℕ, ◌++◌, Bool, true, false, List, [], Option, None, Some, Result, Ok, Err}
use Rattle.desk_http.specs.declared.wire.WireFault.{WireFault}
use Rattle.desk_http.specs.declared.wire.WireFault.TheVariants as fault
use Rattle.desk_io.specs.Health.{HasFailed}
use Rattle.desk_io.specs.Over.{Over}
use Rattle.desk_net.specs.Seen.{LinkSeen}
use Rattle.desk_net.specs.Streams.{Stream}
use Rattle.connections.specs.Connections.{FoundNoMemory, IsFrontOf, IsWritten, bad_head_answer, too_large_answer, no_length_answer, wrong_method_answer, clock_fault_answer, out_of_memory_answer}
use Rattle.connections.specs.declared.answers.Unanswered.{Unanswered}
use Rattle.connections.specs.declared.answers.Unanswered.TheVariants as why
use Rattle.connections.specs.declared.serving.Served.{Served}
use Rattle.connections.specs.declared.serving.Served.TheVariants as served

-- the link gained the text, if its bytes are known
abbrev pub Gains : Option Stream → Option Stream → List ℕ → Type 0
Gains None None text = Unit {0}
Gains (Some old) (Some new) text = (new.input ≡ old.input) × (new.written ≡ old.written ++ text)
Gains _ _ text = ⊥

-- the link gained bytes with the property; if its bytes are unknown, some bytes have the property
abbrev pub Wrote : Option Stream → Option Stream → (List ℕ → Type 0) → Type 0
Wrote old new P = (piece : List ℕ) × Gains old new piece × P piece

-- The response that ends a connection was written, or a prefix of it if the link failed. Or memory ran out, and
-- nothing was written.
abbrev pub EndsAs : Type 0 → Served → List ℕ → Served → List ℕ → Type 0
EndsAs rose wanted text result piece = ((result ≡ wanted) × IsWritten rose text piece) ⊎ ((result ≡ served.OutOfMemory) × FoundNoMemory piece)

-- how a connection ends after no further request was read
abbrev pub EndsWithout : Type 0 → WireFault → Served → List ℕ → Type 0
EndsWithout rose fault.End result piece = (result ≡ served.Ended) × (piece ≡ [])
EndsWithout rose fault.Cut result piece = (result ≡ served.Cut) × (piece ≡ [])
EndsWithout rose fault.ReadFault result piece = (result ≡ served.ReadFault) × (piece ≡ [])
EndsWithout rose fault.BadHead result piece = EndsAs rose served.BadHead bad_head_answer result piece
EndsWithout rose fault.TooLarge result piece = EndsAs rose served.TooLarge too_large_answer result piece
EndsWithout rose fault.NoLength result piece = EndsAs rose served.NoLength no_length_answer result piece
EndsWithout rose fault.WrongMethod result piece = EndsAs rose served.WrongMethod wrong_method_answer result piece
EndsWithout rose fault.OutOfMemory result piece = EndsAs rose served.OutOfMemory out_of_memory_answer result piece

-- A response was written whole, and the connection ends if its request was the last. Or the link failed after a
-- prefix. Or memory ran out, and nothing was written.
abbrev pub WritesAll : Type 0 → List ℕ → Bool → Option Served → List ℕ → Type 0
WritesAll rose bytes last None piece = (last ≡ false) × (piece ≡ bytes)
WritesAll rose bytes last (Some served.Ended) piece = (last ≡ true) × (piece ≡ bytes)
WritesAll rose bytes last (Some served.WriteFault) piece = rose × IsFrontOf bytes piece
WritesAll rose bytes last (Some served.OutOfMemory) piece = FoundNoMemory piece
WritesAll rose bytes last (Some other) piece = ⊥

-- the connection ends, in this way
abbrev pub Ends : Option Served → (Served → Type 0) → Type 0
Ends None P = ⊥
Ends (Some how) P = P how

-- the bytes written for an answer, or if there is none
abbrev pub WritesAnswer : Type 0 → Result (List ℕ) Unanswered → Bool → Option Served → List ℕ → Type 0
WritesAnswer rose (Ok bytes) last result piece = WritesAll rose bytes last result piece
WritesAnswer rose (Err why.ClockFault) last result piece = Ends result (λ how. EndsAs rose served.ClockFault clock_fault_answer how piece)
WritesAnswer rose (Err why.OutOfMemory) last result piece = Ends result (λ how. EndsAs rose served.OutOfMemory out_of_memory_answer how piece)

-- the link gained bytes with the property, which may refer to whether the link failed
abbrev pub WroteTo : Over LinkSeen → (Type 0 → List ℕ → Type 0) → Type 0
WroteTo link P = Wrote link.before.stream link.after.stream (P (HasFailed link.before.health link.after.health))
