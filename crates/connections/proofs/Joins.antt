-- Requests that were answered, and then others: one connection.
use Rattle.std.proofs.Common.{◌≡◌, ℕ, List, [], ◌∷◌, ◌++◌, Option, Some, None, refl, ap, sym, subst, ◌∙◌, append_assoc}
use Rattle.std.specs.List.{AllByRecursion}
use Rattle.desk_http.specs.Requests.{unused}
use Rattle.desk_net.specs.Streams.{Stream}
use Rattle.connections.specs.Connections.{Answered, AreRequests, EndsConnection, GoesOn, IsConnection, IsOpen, Kind, Last, OnBoth, responses}
use Rattle.connections.specs.Writing.{Wrote}
use Rattle.connections.specs.declared.serving.Served.{Served}
use Rattle.connections.specs.declared.serving.Served.TheVariants as served
use Rattle.connections.proofs.Lines.{wrote_on}
use Rattle.connections.proofs.Steps.{written_more as written_as, written_or}

module _ {X : Type 0} (k : Kind X) where
  responses-append : (xs ys : List X) → responses k (xs ++ ys) ≡ responses k xs ++ responses k ys
  responses-append [] ys = refl
  responses-append (x ∷ xs) ys = ap (λ t. k.text x ++ t) (responses-append xs ys) ∙ sym (append_assoc (k.text x) (responses k xs) (responses k ys))

  requests_on : (bytes : List ℕ) (xs ys : List X) (middle left : List ℕ) → AreRequests k bytes xs middle → AreRequests k middle ys left → AreRequests k bytes (xs ++ ys) left
  requests_on bytes [] ys middle left one two = subst (λ b. AreRequests k b ys left) one two
  requests_on bytes (x ∷ xs) ys middle left (rest, begins, one) two = (rest, begins, requests_on rest xs ys middle left one two)

  both_on : (bytes middle left : Option (List ℕ)) (xs ys : List X) → OnBoth bytes middle (λ b l. AreRequests k b xs l) → OnBoth middle left (λ b l. AreRequests k b ys l)
      → OnBoth bytes left (λ b l. AreRequests k b (xs ++ ys) l)
  both_on None None None xs ys one two = tt
  both_on (Some bytes) (Some middle) (Some left) xs ys one two = requests_on bytes xs ys middle left one two
  both_on None None (Some left) xs ys one two = absurd two
  both_on None (Some middle) left xs ys one two = absurd one
  both_on (Some bytes) None left xs ys one two = absurd one
  both_on (Some bytes) (Some middle) None xs ys one two = absurd two

  all_on : (xs ys : List X) → AllByRecursion (IsOpen k) xs → AllByRecursion (IsOpen k) ys → AllByRecursion (IsOpen k) (xs ++ ys)
  all_on [] ys one two = two
  all_on (x ∷ xs) ys one two = (one.0, all_on xs ys one.1 two)

  ends_on : (rose link : Type 0) (more : List X) (last : Last) (left rest : Option (List ℕ)) (how : Served) (piece : List ℕ) → (rose → link) → EndsConnection k rose more last left rest how piece
      → EndsConnection k link more last left rest how piece
  ends_on rose link more last left rest served.Ended piece of_link ends = ends
  ends_on rose link more last left rest served.Cut piece of_link ends = ends
  ends_on rose link more last left rest served.BadHead piece of_link (none, why, written) = (none, why, written_as rose link _ piece of_link written)
  ends_on rose link more last left rest served.TooLarge piece of_link (none, why, written) = (none, why, written_as rose link _ piece of_link written)
  ends_on rose link more last left rest served.NoLength piece of_link (none, why, written) = (none, why, written_as rose link _ piece of_link written)
  ends_on rose link more last left rest served.WrongMethod piece of_link (none, why, written) = (none, why, written_as rose link _ piece of_link written)
  ends_on rose link more last left rest served.ReadFault piece of_link (none, why, mid, is) = (none, of_link why, mid, is)
  ends_on rose link more last left rest served.WriteFault piece of_link (why, one) = (of_link why, one)
  ends_on rose link more last left rest served.ClockFault piece of_link (none, is, asks, written) = (none, is, asks, written_as rose link _ piece of_link written)
  ends_on rose link more last left rest served.OutOfMemory piece of_link (state, written) = (state, written_or rose link _ piece of_link written)

  module _ (first then all : List X → Last → Type 0) (on : (xs ys : List X) (last : Last) → first xs Answered → then ys last → all (xs ++ ys) last) where
    -- requests that were answered, and then a connection's end
    pub joined : (rose link : Type 0) (bytes mid rest : Option (List ℕ)) (how : Served) (one two : List ℕ) → (rose → link) → GoesOn k first bytes mid one → IsConnection k then rose mid rest how two
        → IsConnection k all link bytes rest how (one ++ two)
    joined rose link bytes mid rest how one two of_link before after =
        let whole : (before.xs ++ after.xs) ++ after.more ≡ before.xs ++ (after.xs ++ after.more) = append_assoc before.xs after.xs after.more in record {
          xs = before.xs ++ after.xs;
          more = after.more;
          last = after.last;
          left = after.left;
          piece = after.piece;
          requests = subst (λ xs. OnBoth bytes after.left (λ b l. AreRequests k b xs l)) (sym whole) (both_on bytes mid after.left before.xs (after.xs ++ after.more) before.requests after.requests);
          going = all_on before.xs after.xs before.going after.going;
          goes_on = subst (λ xs. all xs after.last) (sym whole) (on before.xs (after.xs ++ after.more) after.last before.goes_on after.goes_on);
          says =
              ap (λ t. t ++ two) before.says
              ∙ ap (λ t. responses k before.xs ++ t) after.says
              ∙ sym (append_assoc (responses k before.xs) (responses k after.xs) after.piece)
              ∙ ap (λ t. t ++ after.piece) (sym (responses-append before.xs after.xs));
          ends = ends_on rose link after.more after.last after.left rest how after.piece of_link after.ends;
        }

    -- it ends by the request that ended the last part
    pub joined_more : (rose link : Type 0) (bytes mid rest : Option (List ℕ)) (how : Served) (one two : List ℕ) (of_link : rose → link) (before : GoesOn k first bytes mid one)
        (after : IsConnection k then rose mid rest how two) → (joined rose link bytes mid rest how one two of_link before after).more ≡ after.more
    unfolding joined
    joined_more rose link bytes mid rest how one two of_link before after = refl

    -- requests that were answered, and then others
    pub gone_on : (bytes mid left : Option (List ℕ)) (one two : List ℕ) → GoesOn k first bytes mid one → GoesOn k then mid left two → GoesOn k all bytes left (one ++ two)
    gone_on bytes mid left one two before after = record {
      xs = before.xs ++ after.xs;
      requests = both_on bytes mid left before.xs after.xs before.requests after.requests;
      going = all_on before.xs after.xs before.going after.going;
      goes_on = on before.xs after.xs Answered before.goes_on after.goes_on;
      says = ap (λ t. t ++ two) before.says ∙ ap (λ t. responses k before.xs ++ t) after.says ∙ sym (responses-append before.xs after.xs);
    }

    -- the same of what was written
    pub written_end : (old mid new : Option Stream) (rose link : Type 0) (bytes left rest : Option (List ℕ)) (how : Served) → (rose → link) → Wrote old mid (GoesOn k first bytes left)
        → Wrote mid new (IsConnection k then rose left rest how) → Wrote old new (IsConnection k all link bytes rest how)
    written_end old mid new rose link bytes left rest how of_link before after =
        wrote_on old mid new (GoesOn k first bytes left) (IsConnection k then rose left rest how) (IsConnection k all link bytes rest how)
        (λ p q one two. joined rose link bytes left rest how p q of_link one two) before after

    pub written_on : (old mid new : Option Stream) (bytes rest left : Option (List ℕ)) → Wrote old mid (GoesOn k first bytes rest) → Wrote mid new (GoesOn k then rest left)
        → Wrote old new (GoesOn k all bytes left)
    written_on old mid new bytes rest left before after =
        wrote_on old mid new (GoesOn k first bytes rest) (GoesOn k then rest left) (GoesOn k all bytes left) (λ p q one two. gone_on bytes rest left p q one two) before after

  none_used : (bytes : Option (List ℕ)) → OnBoth bytes (unused [] bytes) (λ b l. AreRequests k b [] l)
  none_used None = tt
  none_used (Some bytes) = refl

  -- nothing was answered yet, and no bytes are kept
  pub begins : (goes : List X → Last → Type 0) (bytes : Option (List ℕ)) (kept : List ℕ) → kept ≡ [] → goes [] Answered → GoesOn k goes bytes (unused kept bytes) []
  begins goes bytes kept none nothing =
      subst (λ kept. GoesOn k goes bytes (unused kept bytes) []) (sym none) (record { xs = []; requests = none_used bytes; going = tt; goes_on = nothing; says = refl })

  -- a connection of which more, or less, is said of what came of its requests
  pub with_goes : (goes all : List X → Last → Type 0) → ((xs : List X) (last : Last) → goes xs last → all xs last) → (link : Type 0) (bytes rest : Option (List ℕ)) (how : Served) (written : List ℕ)
      → IsConnection k goes link bytes rest how written → IsConnection k all link bytes rest how written
  with_goes goes all law link bytes rest how written one = record {
    xs = one.xs;
    more = one.more;
    last = one.last;
    left = one.left;
    piece = one.piece;
    requests = one.requests;
    going = one.going;
    goes_on = law (one.xs ++ one.more) one.last one.goes_on;
    says = one.says;
    ends = one.ends;
  }
