-- What writes do to a link.
use Rattle.std.proofs.Common.{ℕ, List, [], ◌++◌, take, drop, Option, Some, None, Ok, Err, refl, ap, sym, ◌∙◌, append-nil, append_assoc}
use Rattle.std.proofs.lemmas.List.{take-append-drop}
use Rattle.desk_io.specs.declared.faults.PutFault.TheVariants.{Failed, OutOfMemory}
use Rattle.desk_net.specs.Streams.{Stream, Writes, OnlyRead}
use Rattle.connections.specs.Connections.{IsFrontOf}
use Rattle.connections.specs.Writing.{Gains, Wrote}

pub gains_all : {T : Type 0} (old new : Option Stream) (bytes : List ℕ) (x : T) → Writes old new bytes (Ok x) → Gains old new bytes
gains_all None None bytes x is = tt
gains_all (Some old) (Some new) bytes x is = (is.input, is.puts)
gains_all None (Some new) bytes x is = absurd is
gains_all (Some old) None bytes x is = absurd is

pub wrote_front : (T : Type 0) (old new : Option Stream) (bytes : List ℕ) → Writes {T = T} old new bytes (Err Failed) → Wrote old new (IsFrontOf bytes)
wrote_front T None None bytes is = (bytes, tt, ([], sym (append-nil bytes)))
wrote_front T (Some old) (Some new) bytes is = let n = is.puts.0 in (take n bytes, (is.input, is.puts.1), (drop n bytes, sym (take-append-drop n bytes)))
wrote_front T None (Some new) bytes is = absurd is
wrote_front T (Some old) None bytes is = absurd is

pub gains_none : (T : Type 0) (old new : Option Stream) (bytes : List ℕ) → Writes {T = T} old new bytes (Err OutOfMemory) → Gains old new []
gains_none T None None bytes is = tt
gains_none T (Some old) (Some new) bytes is = (is.input, is.puts ∙ sym (append-nil old.written))
gains_none T None (Some new) bytes is = absurd is
gains_none T (Some old) None bytes is = absurd is

pub gains_still : (line : Option Stream) → Gains line line []
gains_still None = tt
gains_still (Some line) = (refl, sym (append-nil line.written))

only_gains : (old new : Option Stream) → OnlyRead old new → Gains old new []
only_gains None None is = tt
only_gains (Some old) (Some new) is = (is.0, is.1 ∙ sym (append-nil old.written))
only_gains None (Some new) is = absurd is
only_gains (Some old) None is = absurd is

gains_on : (old mid new : Option Stream) (p q : List ℕ) → Gains old mid p → Gains mid new q → Gains old new (p ++ q)
gains_on None None None p q one two = tt
gains_on (Some old) (Some mid) (Some new) p q one two = (two.0 ∙ one.0, two.1 ∙ ap (λ x. x ++ q) one.1 ∙ append_assoc old.written p q)
gains_on None None (Some new) p q one two = absurd two
gains_on None (Some mid) new p q one two = absurd one
gains_on (Some old) None new p q one two = absurd one
gains_on (Some old) (Some mid) None p q one two = absurd two

-- what was written after reading
pub wrote_after : (old mid new : Option Stream) (P Q : List ℕ → Type 0) → OnlyRead old mid → ((piece : List ℕ) → P piece → Q piece) → Wrote mid new P → Wrote old new Q
wrote_after old mid new P Q only step wrote = (wrote.0, gains_on old mid new [] wrote.0 (only_gains old mid only) wrote.1, step wrote.0 wrote.2)

-- what was written by two calls
pub wrote_on : (old mid new : Option Stream) (P Q R : List ℕ → Type 0) → ((p q : List ℕ) → P p → Q q → R (p ++ q)) → Wrote old mid P → Wrote mid new Q → Wrote old new R
wrote_on old mid new P Q R step one two = (one.0 ++ two.0, gains_on old mid new one.0 two.0 one.1 two.1, step one.0 two.0 one.2 two.2)

pub wrote_as : (old new : Option Stream) (P Q : List ℕ → Type 0) → ((piece : List ℕ) → P piece → Q piece) → Wrote old new P → Wrote old new Q
wrote_as old new P Q step wrote = (wrote.0, wrote.1, step wrote.0 wrote.2)
