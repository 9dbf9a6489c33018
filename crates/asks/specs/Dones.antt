-- Reading the result of a request from a JSON object with exactly the keys of its kind.
use Rattle.std.specs.Prelude.{ℕ, if◌then◌else◌, Option, None, Some, codes}
use Rattle.std.specs.Option.{option_or}
use Rattle.serde_json.specs.Data.{Data}
use Rattle.desk_time.specs.Digits.{◌>>=◌}
use Rattle.asks.specs.declared.reply.Done.{Done}
use Rattle.asks.specs.declared.reply.Done.TheVariants.{Report, Deferral, Filed, Prepared, Release, Swept}
use Rattle.asks.specs.Digests.{digest_at}
use Rattle.asks.specs.Fields.{number_at, has_members}

abbrev pub report_of : ℕ → Data → Option Done
report_of ids d = number_at (codes "report") ids d >>= λ id. if has_members 1 d then Some (Report id) else None

abbrev pub deferral_of : ℕ → Data → Option Done
deferral_of ids d = number_at (codes "deferral") ids d >>= λ id. if has_members 1 d then Some (Deferral id) else None

abbrev pub filed_of : ℕ → Data → Option Done
filed_of ids d = number_at (codes "release") ids d >>= λ release. number_at (codes "revision") ids d >>= λ revision. if has_members 2 d then Some (Filed release revision) else None

abbrev pub prepared_of : ℕ → Data → Option Done
prepared_of ids d =
    number_at (codes "release") ids d >>= λ release. number_at (codes "revision") ids d >>= λ revision. digest_at (codes "digest") d >>= λ digest.
    if has_members 3 d then Some (Prepared release revision digest) else None

abbrev pub release_of : ℕ → Data → Option Done
release_of ids d = number_at (codes "release") ids d >>= λ id. if has_members 1 d then Some (Release id) else None

abbrev pub swept_of : ℕ → Data → Option Done
swept_of counts d = number_at (codes "reports") counts d >>= λ reports. number_at (codes "kept") counts d >>= λ kept. if has_members 2 d then Some (Swept reports kept) else None

infixl 10 ◌otherwise◌
abbrev pub ◌otherwise◌ : Option Done → Option Done → Option Done
first otherwise second = option_or first second

-- the result of the one kind whose keys the object has, within one limit for ids and revisions, another for counts
unfoldable pub done_within : ℕ → ℕ → Data → Option Done
done_within ids counts d =
    report_of ids d otherwise deferral_of ids d otherwise filed_of ids d otherwise prepared_of ids d otherwise release_of ids d otherwise swept_of counts d

-- a result as the desk keeps it
abbrev pub done_of : Data → Option Done
done_of d = done_within 1_000_000_000_000_000 4_294_967_295 d

-- a result as a reply states it, with all 64-bit numbers
abbrev pub said_done_of : Data → Option Done
said_done_of d = done_within 18_446_744_073_709_551_615 18_446_744_073_709_551_615 d
