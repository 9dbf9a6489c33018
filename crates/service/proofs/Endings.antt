-- What ends a connection.
use Rattle.std.proofs.Common.{false, ◌≡◌, ◌≢◌, ℕ, List, [], ◌++◌, Option, None, Some, inl, inr, refl, subst}
use Rattle.connections.specs.Connections.{Answered, AreRequests, IsConnection, Kind, Last, OnBoth}
use Rattle.connections.specs.declared.serving.Served.{Served}
use Rattle.connections.specs.declared.serving.Served.TheVariants as served
use Rattle.desk_io.specs.Health.{HasFailed}
use Rattle.desk_net.specs.Seen.{ClockSeen}
use Rattle.desk_state.specs.State.{State}
use Rattle.service.specs.Alone.{GoesAlone}
use Rattle.service.specs.Connections.{in_lane}
use Rattle.service.proofs.AloneLaws.{goes_failed}

-- a connection ends by a fault of the clock only where the clock has failed
ends_clock : (lane : ℕ) (early late : ClockSeen) (link : Type 0) (before after : ℕ) (s t : State) (bytes rest : Option (List ℕ)) (how : Served) (text : List ℕ) → how ≡ served.ClockFault
    → IsConnection (in_lane false lane) (GoesAlone lane early late before after s t) link bytes rest how text → HasFailed early.health late.health
ends_clock lane early late link before after s t bytes rest how text is one =
    let by : IsConnection (in_lane false lane) (GoesAlone lane early late before after s t) link bytes rest served.ClockFault text =
    subst (λ (h : Served). IsConnection (in_lane false lane) (GoesAlone lane early late before after s t) link bytes rest h text) is one in
    goes_failed lane early late before after s t (by.xs ++ by.more) (subst (λ (last : Last). GoesAlone lane early late before after s t (by.xs ++ by.more) last) by.ends.1 by.goes_on)

-- where the clock hasn't failed none ends by it
pub not_by_clock : (lane : ℕ) (early late : ClockSeen) (link : Type 0) (before after : ℕ) (s t : State) (bytes rest : Option (List ℕ)) (how : Served) (text : List ℕ)
    → IsConnection (in_lane false lane) (GoesAlone lane early late before after s t) link bytes rest how text → (HasFailed early.health late.health → ⊥) → how ≢ served.ClockFault
not_by_clock lane early late link before after s t bytes rest how text one never = λ is. never (ends_clock lane early late link before after s t bytes rest how text is one)

-- where the link hasn't failed none ends by it, whoever answers
pub not_by_link : {X : Type 0} (k : Kind X) (goes : List X → Last → Type 0) (link : Type 0) (bytes rest : Option (List ℕ)) (how : Served) (text : List ℕ)
    → IsConnection k goes link bytes rest how text → (link → ⊥) → (how ≢ served.ReadFault) × (how ≢ served.WriteFault)
not_by_link k goes link bytes rest how text one never = (
  λ is. never (subst (λ (h : Served). IsConnection k goes link bytes rest h text) is one).ends.1,
  λ is. never (subst (λ (h : Served). IsConnection k goes link bytes rest h text) is one).ends.0,
)

-- memory ran out before anything was read
pub unserved : {X : Type 0} (k : Kind X) (goes : List X → Last → Type 0) (link : Type 0) (bytes : Option (List ℕ)) → goes [] Answered → IsConnection k goes link bytes bytes served.OutOfMemory []
unserved k goes link bytes none = record {
  xs = [];
  more = [];
  last = Answered;
  left = bytes;
  piece = [];
  requests = unread_all bytes;
  going = tt;
  goes_on = none;
  says = refl;
  ends = (inl (refl, inl refl), inr refl);
}
  where
    unread_all : (b : Option (List ℕ)) → OnBoth b b (λ xs l. AreRequests k xs [] l)
    unread_all None = tt
    unread_all (Some b) = refl
