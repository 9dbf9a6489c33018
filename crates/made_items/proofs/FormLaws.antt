-- The calls that are made have their forms.
use Rattle.std.proofs.Common.{◌≡◌, refl, ℕ, zero, suc, ◌+◌, ◌*◌, ◌<◌, ◌≤◌, arith, Bool, true, List, [], ◌∷◌, Option, IfSome}
use Rattle.std.specs.Prelude.{nat_lt, slice_index}
use Rattle.std.specs.List.{list_all}
use Rattle.std.proofs.lemmas.Bool.{and_parts}
use Rattle.std.proofs.lemmas.Bool.Decides.{nat_tests}
use Rattle.json.proofs.Printed.Utf8.{IsUtf8-are_ascii}
use Rattle.asks.specs.declared.call.Ask.{Ask}
use Rattle.asks.specs.declared.call.Ask.TheVariants.{Draft, Prepare, Sign, Concur, Cancel}
use Rattle.asks.specs.declared.call.Call.{Call}
use Rattle.asks.specs.Digests.{IsDigest}
use Rattle.asks.specs.Forms.{IsId, IsShort, AskHasForms, CallHasForms}
use Rattle.made_items.specs.Calls.{no_digest, name_of, key_of, asked_by, first, second, third}
use Rattle.made_items.specs.Makers.{Making, call_at, next_call}
use Rattle.made_items.specs.Numbers.{next_number, minimum_of}
use Rattle.made_items.specs.Plans.{plan_of}
use Rattle.made_items.specs.declared.calls.Person.{Person}
use Rattle.made_items.specs.declared.calls.Person.TheVariants.{Feed, Dispatcher, Captain}
use Rattle.made_items.specs.declared.maker.Turn.{Turn}
use Rattle.made_items.specs.declared.maker.Turn.TheVariants as turn
use Rattle.made_items.proofs.PlanForms.{plan_formed}

-- ---- digests

is_byte : ℕ → Bool
is_byte b = nat_lt b 256

byte_below : (b : ℕ) → is_byte b ≡ true → b < 256
unfolding is_byte
byte_below b is = grind (arith, nat_tests)

below : (xs : List ℕ) → list_all is_byte xs ≡ true → (i : ℕ) → slice_index xs i < 256
below [] all i = omega arith
below (x ∷ xs) all zero = byte_below x (and_parts (is_byte x) (list_all is_byte xs) all).0
below (x ∷ xs) all (suc i) = below xs (and_parts (is_byte x) (list_all is_byte xs) all).1 i

pub zeros : IsDigest no_digest
unfolding is_byte
zeros = record { long = refl; bytes = below no_digest refl }

-- ---- calls

name_short : (p : Person) → IsShort (name_of p)
name_short Feed = record { text = IsUtf8-are_ascii (name_of Feed) refl; few = omega arith }
name_short Dispatcher = record { text = IsUtf8-are_ascii (name_of Dispatcher) refl; few = omega arith }
name_short Captain = record { text = IsUtf8-are_ascii (name_of Captain) refl; few = omega arith }

key_short : (p : Person) → IsShort (key_of p)
key_short Feed = record { text = IsUtf8-are_ascii (key_of Feed) refl; few = omega arith }
key_short Dispatcher = record { text = IsUtf8-are_ascii (key_of Dispatcher) refl; few = omega arith }
key_short Captain = record { text = IsUtf8-are_ascii (key_of Captain) refl; few = omega arith }

asked_formed : (p : Person) (number : ℕ) (ask : Ask) → number ≤ 1_000_000_000_000 → AskHasForms ask → CallHasForms (asked_by p number ask)
asked_formed p number ask few forms = record { actor = name_short p; key = key_short p; number = few; ask = forms }

turn_formed : (t : Turn) (m : Making) → m.earlier ≤ 20_000 → IsId m.release → IsDigest m.digest → IfSome (call_at t m) CallHasForms
turn_formed turn.First m few id digest = asked_formed Feed 1 first.ask (omega arith) (IsUtf8-are_ascii _ refl)
turn_formed turn.Second m few id digest = asked_formed Feed 2 second.ask (omega arith) (IsUtf8-are_ascii _ refl)
turn_formed turn.Third m few id digest = asked_formed Feed 3 third.ask (omega arith) (IsUtf8-are_ascii _ refl)
turn_formed turn.Draft m few id digest =
    let x = next_number m.x in
    asked_formed Dispatcher (4 * m.earlier + 1) (Draft (plan_of (m.earlier + 1) (minimum_of x))) (omega (arith, few)) (plan_formed (m.earlier + 1) x (omega (arith, few)))
turn_formed turn.Prepare m few id digest = asked_formed Dispatcher (4 * m.earlier + 2) (Prepare m.release) (omega (arith, few)) id
turn_formed turn.Sign m few id digest = asked_formed Dispatcher (4 * m.earlier + 3) (Sign m.release 1 m.digest) (omega (arith, few)) (id, omega arith, digest)
turn_formed turn.Concur m few id digest = asked_formed Captain (m.earlier + 1) (Concur m.release 1 m.digest) (omega (arith, few)) (id, omega arith, digest)
turn_formed turn.Cancel m few id digest = asked_formed Dispatcher (4 * m.earlier + 4) (Cancel m.release) (omega (arith, few)) id
turn_formed turn.End m few id digest = tt

pub call_formed : (m : Making) (call : Option Call) → call ≡ next_call m → m.earlier ≤ 20_000 → IsId m.release → IsDigest m.digest → IfSome call CallHasForms
unfolding next_call
call_formed m call is few id digest = rw is (turn_formed m.turn m few id digest)
