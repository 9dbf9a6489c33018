-- The messages of an answer, one by one.
use Rattle.std.proofs.Common.{◌≡◌, ℕ, List, [], ◌∷◌, ◌++◌, take, Option, None, Some, refl, sym, ap, ◌∙◌, subst, append_assoc, append-nil}
use Rattle.pg_wire.specs.Backend.{Message, message_bytes, all_bytes, TakesMessage}
use Rattle.pg_wire.specs.Answers.{Told, silent, noted, told_by, HasAnswered}
use Rattle.desk_time.specs.Digits.{◌>>=◌}

pub bytes_more : (ms : List Message) (m : Message) → all_bytes (ms ++ m ∷ []) ≡ all_bytes ms ++ message_bytes m
unfolding all_bytes
bytes_more [] m = append-nil (message_bytes m)
bytes_more (x ∷ xs) m = ap (λ bs. message_bytes x ++ bs) (bytes_more xs m) ∙ sym (append_assoc (message_bytes x) (all_bytes xs) (message_bytes m))

told_next : (u v : Told) (xs : List Message) (m : Message) (o : Option Told) → ((w : Told) → told_by w xs ≡ Some u → told_by w (xs ++ m ∷ []) ≡ Some v)
    → (o >>= λ w. told_by w xs) ≡ Some u → (o >>= λ w. told_by w (xs ++ m ∷ [])) ≡ Some v
told_next u v xs m None more so = absurd (cc)
told_next u v xs m (Some w) more so = more w so

told_here : (t u v : Told) (m : Message) → told_by t [] ≡ Some u → noted u m.0 (take 512 m.1) ≡ Some v → told_by t (m ∷ []) ≡ Some v
unfolding told_by
told_here t u v m so is = let same : t ≡ u = cc in rw (same, is) refl

pub told_more : (t u v : Told) (ms : List Message) (m : Message) → told_by t ms ≡ Some u → noted u m.0 (take 512 m.1) ≡ Some v
    → told_by t (ms ++ m ∷ []) ≡ Some v
unfolding told_by
told_more t u v [] m so is = told_here t u v m so is
told_more t u v (x ∷ xs) m so is = told_next u v xs m (noted t x.0 (take 512 x.1)) (λ w found. told_more w u v xs m found is) so

-- the messages so far
pub record HasCome (before after : List ℕ) (t : Told) : Type 0 where
  pub messages : List Message
  pub read : after ≡ before ++ all_bytes messages
  pub says : told_by silent messages ≡ Some t

pub come_none : (before : List ℕ) (t : Told) → t ≡ silent → HasCome before before t
unfolding all_bytes told_by
come_none before t is = record { messages = []; read = sym (append-nil before); says = ap Some (sym is) }

pub come_more : (a b c front : List ℕ) (tag : ℕ) (t u : Told) → HasCome a b t → TakesMessage b c tag 512 front → noted t tag front ≡ Some u → HasCome a c u
come_more a b c front tag t u come took is =
    let m : Message = (tag, took.content) in
    record {
      messages = come.messages ++ m ∷ [];
      read = took.read ∙ ap (λ l. l ++ message_bytes m) come.read ∙ append_assoc a (all_bytes come.messages) (message_bytes m)
          ∙ ap (λ l. a ++ l) (sym (bytes_more come.messages m));
      says = told_more silent t u come.messages m come.says (subst (λ l. noted t tag l ≡ Some u) took.shown is);
    }

pub one_kept : (content : List ℕ) → take 512 content ≡ 73 ∷ [] → content ≡ 73 ∷ []
one_kept [] is = absurd (cc)
one_kept (x ∷ []) is = is
one_kept (x ∷ y ∷ rest) is = absurd (cc)

-- ReadyForQuery ends them
pub come_settled : (a b c front : List ℕ) (t : Told) → HasCome a b t → TakesMessage b c 90 512 front → front ≡ 73 ∷ [] → HasAnswered a c t
come_settled a b c front t come took is =
    let short : took.content ≡ 73 ∷ [] = one_kept took.content (sym took.shown ∙ is) in
    record {
      messages = come.messages;
      read = took.read ∙ ap (λ l. l ++ message_bytes (90, took.content)) come.read ∙ ap (λ l. a ++ all_bytes come.messages ++ message_bytes (90, l)) short;
      says = come.says;
    }
