-- The calls that are generated from a seed, in order.
use Rattle.std.specs.Prelude.{ℕ, zero, suc, ◌+◌, ◌*◌, nat_le, if◌then◌else◌, List, [], ◌∷◌, ◌++◌, drop, Option, None, Some, codes}
use Rattle.asks.specs.declared.call.Ask.{Ask}
use Rattle.asks.specs.declared.call.Ask.TheVariants.{Admit, Draft, Prepare, Sign, Concur, Cancel}
use Rattle.asks.specs.declared.call.Call.{Call}
use Rattle.asks.specs.declared.reply.Done.{Done}
use Rattle.asks.specs.declared.reply.Done.TheVariants as done
use Rattle.made_items.specs.Numbers.{next_number, minimum_of}
use Rattle.made_items.specs.Plans.{plan_of}
use Rattle.made_items.specs.declared.calls.Person.{Person}
use Rattle.made_items.specs.declared.calls.Person.TheVariants.{Feed, Dispatcher, Captain}

-- 2025-03-12T17:25Z, the moment of all calls
abbrev pub made_at : ℕ
made_at = 29_030_005

-- ---- who asks

abbrev pub name_of : Person → List ℕ
name_of Feed = codes "F1"
name_of Dispatcher = codes "D1"
name_of Captain = codes "C7"

abbrev pub key_of : Person → List ℕ
key_of Feed = codes "kF1"
key_of Dispatcher = codes "kD1"
key_of Captain = codes "kC7"

abbrev pub asked_by : Person → ℕ → Ask → Call
asked_by person number ask = record { actor = name_of person; key = key_of person; number = number; ask = ask }

-- ---- three reports

abbrev pub admit : ℕ → List ℕ → Call
admit number text = asked_by Feed number (Admit text)

abbrev pub first : Call
first = admit 1 (codes "TAF KBOS 121720Z 1218/1324 24010KT P6SM SCT040")

abbrev pub second : Call
second = admit 2 (codes "TAF KJFK 121720Z 1218/1324 24010KT P6SM BKN030")

abbrev pub third : Call
third = admit 3 (codes "TAF KPHL 121720Z 1218/1324 24010KT P6SM BKN030")

-- ---- results of calls

-- The result of each call, in order; None if it was refused.
abbrev pub Came : Type 0
Came = List (Option Done)

-- the result of the first call
abbrev pub head_of : Came → Option Done
head_of [] = None
head_of (what ∷ others) = what

-- an id that a call can name, as all ids of a desk are; otherwise 0
abbrev pub nameable : ℕ → ℕ
nameable id = if nat_le id 1_000_000_000_000_000 then id else 0

-- the release that was drafted; 0 if there is none
abbrev pub release_of : Option Done → ℕ
release_of (Some (done.Filed release revision)) = nameable release
release_of _ = 0

-- 32 zero bytes
abbrev pub no_digest : List ℕ
no_digest = 0 ∷ 0 ∷ 0 ∷ 0 ∷ 0 ∷ 0 ∷ 0 ∷ 0 ∷ 0 ∷ 0 ∷ 0 ∷ 0 ∷ 0 ∷ 0 ∷ 0 ∷ 0 ∷ 0 ∷ 0 ∷ 0 ∷ 0 ∷ 0 ∷ 0 ∷ 0 ∷ 0 ∷ 0 ∷ 0 ∷ 0 ∷ 0 ∷ 0 ∷ 0 ∷ 0 ∷ 0 ∷ []

-- the digest of the prepared text; zeros if there is none
abbrev pub digest_of : Option Done → List ℕ
digest_of (Some (done.Prepared release revision digest)) = digest
digest_of _ = no_digest

-- ---- a flight, after `earlier` ones

abbrev pub draft : ℕ → ℕ → Call
draft earlier minimum = asked_by Dispatcher (4 * earlier + 1) (Draft (plan_of (earlier + 1) minimum))

abbrev pub prepare : ℕ → ℕ → Call
prepare earlier release = asked_by Dispatcher (4 * earlier + 2) (Prepare release)

abbrev pub sign : ℕ → ℕ → List ℕ → Call
sign earlier release digest = asked_by Dispatcher (4 * earlier + 3) (Sign release 1 digest)

abbrev pub concur : ℕ → ℕ → List ℕ → Call
concur earlier release digest = asked_by Captain (earlier + 1) (Concur release 1 digest)

abbrev pub cancel : ℕ → ℕ → Call
cancel earlier release = asked_by Dispatcher (4 * earlier + 4) (Cancel release)

-- the last three calls of a flight
abbrev pub from_sign : ℕ → ℕ → List ℕ → List Call
from_sign earlier release digest = sign earlier release digest ∷ concur earlier release digest ∷ cancel earlier release ∷ []

-- the last four calls of a flight; the last three use the result of the first
abbrev pub from_prepare : ℕ → ℕ → Option Done → List Call
from_prepare earlier release prepared = prepare earlier release ∷ from_sign earlier release (digest_of prepared)

-- the five calls of a flight with the random number x, given the results of the first two
abbrev pub flight : ℕ → ℕ → Option Done → Option Done → List Call
flight x earlier drafted prepared = draft earlier (minimum_of x) ∷ from_prepare earlier (release_of drafted) prepared

-- ---- all calls

-- the calls of this many flights after `earlier` ones, the first with the random number after x
abbrev pub flights : ℕ → ℕ → ℕ → Came → List Call
flights zero x earlier came = []
flights (suc left) x earlier came =
    flight (next_number x) earlier (head_of came) (head_of (drop 1 came)) ++ flights left (next_number x) (earlier + 1) (drop 5 came)

-- All calls of a seed with `count` flights: three reports, then five calls for each flight. Calls use the results of
-- earlier ones.
unfoldable pub calls : ℕ → ℕ → Came → List Call
calls number count came = first ∷ second ∷ third ∷ flights count number 0 (drop 3 came)
