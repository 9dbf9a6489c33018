-- The changes of the alerts of the releases of some ids.
use Rattle.std.proofs.Common.{◌≡◌, ℕ, ◌+◌, true, List, [], ◌∷◌, ◌++◌, length, filter, Option, None, Some, refl, ap, sym, ◌∙◌, arith}
use Rattle.std.specs.List.{cons_option}
use Rattle.std.specs.List.Sorted.{IsStrictlyIncreasing}
use Rattle.plan.specs.declared.release.Release.{Release}
use Rattle.release_index.specs.Touched.{is_among}
use Rattle.desk_state.specs.Counting.{count_touched}
use Rattle.desk_state.specs.Events.{alert_changes, changes_over}
use Rattle.desk_state.specs.Holds.{Holds}
use Rattle.desk_state.specs.Sound.{EffectFits, Rise, Sound}
use Rattle.desk_state.specs.State.{State, release_at}
use Rattle.desk_state.specs.Touched.{is_touched}
use Rattle.desk_state.proofs.Parts.{releases_rise}
use Rattle.desk_state.proofs.Untouched.{touched_changes}
use Rattle.alert_judging.specs.declared.prospect.Prospect.{Prospect}
use Rattle.alert_judging.specs.Prospect.{changes_found, changes_named, count_found, count_named, prospect}
use Rattle.alert_judging.specs.Touching.{is_there, touches}
use Rattle.alert_judging.proofs.Ids.{among_all, among_touched}
use Rattle.alert_judging.proofs.Named.{named, named_pass}

changes_more : (p : Prospect) (o : Option Release) (rs : List Release)
    → changes_found p o ++ changes_over (prospect p) p.content.now.state.alerts rs ≡ changes_over (prospect p) p.content.now.state.alerts (cons_option o rs)
changes_more p None rs = refl
changes_more p (Some r) rs = refl

changes_are : (p : Prospect) (ids : List ℕ) → changes_named p ids ≡ changes_over (prospect p) p.content.now.state.alerts (named (prospect p).releases ids)
changes_are p [] = refl
changes_are p (id ∷ ids) =
    ap (λ cs. changes_found p (release_at id (prospect p).releases) ++ cs) (changes_are p ids)
    ∙ changes_more p (release_at id (prospect p).releases) (named (prospect p).releases ids)

count_more : (o : Option Release) (rs : List Release) → count_found o + length rs ≡ length (cons_option o rs)
count_more None rs = omega arith
count_more (Some r) rs = omega arith

count_is : (p : Prospect) (ids : List ℕ) → count_named p ids ≡ length (named (prospect p).releases ids)
count_is p [] = refl
count_is p (id ∷ ids) =
    ap (λ n. count_found (release_at id (prospect p).releases) + n) (count_is p ids) ∙ count_more (release_at id (prospect p).releases) (named (prospect p).releases ids)

rise_then : (p : Prospect) → EffectFits p.content.now.state p.effect.now → Holds p.content.now.state → Rise 0 (prospect p).releases (prospect p).counters.next_release
rise_then p fits held = releases_rise p.content.now.state p.effect.now.on_releases fits.releases held.judgeable.ids

-- the ids that an event touches name the releases that it touches
named_touched : (p : Prospect) (ids : List ℕ) → IsStrictlyIncreasing ids → ((id : ℕ) → is_among ids id ≡ touches p.content.now.state p.effect.now id)
    → EffectFits p.content.now.state p.effect.now → Holds p.content.now.state
    → named (prospect p).releases ids ≡ filter (is_touched p.content.now.state p.effect.now) (prospect p).releases
named_touched p ids up among fits held =
    named_pass (is_touched p.content.now.state p.effect.now) ids (prospect p).releases (prospect p).counters.next_release up (rise_then p fits held)
    (among_touched p.content.now.state p.effect.now ids among held.judgeable.ids)

every_one : (rs : List Release) → filter (λ r. true) rs ≡ rs
every_one [] = refl
every_one (r ∷ rs) = ap (λ more. r ∷ more) (every_one rs)

named_all : (p : Prospect) (ids : List ℕ) → IsStrictlyIncreasing ids → ((id : ℕ) → is_among ids id ≡ is_there p.content.now.state p.effect.now id)
    → EffectFits p.content.now.state p.effect.now → Holds p.content.now.state → named (prospect p).releases ids ≡ (prospect p).releases
named_all p ids up among fits held =
    named_pass (λ r. true) ids (prospect p).releases (prospect p).counters.next_release up (rise_then p fits held) (among_all p.content.now.state p.effect.now ids among held.judgeable.ids)
    ∙ every_one (prospect p).releases

-- the changes of the alerts of those that an event touches are all changes
pub touched_judged : (p : Prospect) (ids : List ℕ) → IsStrictlyIncreasing ids → ((id : ℕ) → is_among ids id ≡ touches p.content.now.state p.effect.now id)
    → Sound p.content.now.state → EffectFits p.content.now.state p.effect.now → Holds p.content.now.state → changes_named p ids ≡ alert_changes p.effect.now p.content.now.state
touched_judged p ids up among sound fits held =
    let s : State = p.content.now.state in
    changes_are p ids
    ∙ ap (λ (rs : List Release). changes_over (prospect p) s.alerts rs) (named_touched p ids up among fits held)
    ∙ sym (touched_changes s p.effect.now sound held.bounds.deferrals.rising fits)

pub touched_counted : (p : Prospect) (ids : List ℕ) → IsStrictlyIncreasing ids → ((id : ℕ) → is_among ids id ≡ touches p.content.now.state p.effect.now id)
    → EffectFits p.content.now.state p.effect.now → Holds p.content.now.state → count_named p ids ≡ count_touched p.content.now.state p.effect.now
touched_counted p ids up among fits held = count_is p ids ∙ ap (λ (rs : List Release). length rs) (named_touched p ids up among fits held)

-- and so are those of all releases
pub all_judged : (p : Prospect) (ids : List ℕ) → IsStrictlyIncreasing ids → ((id : ℕ) → is_among ids id ≡ is_there p.content.now.state p.effect.now id)
    → EffectFits p.content.now.state p.effect.now → Holds p.content.now.state → changes_named p ids ≡ alert_changes p.effect.now p.content.now.state
all_judged p ids up among fits held =
    changes_are p ids ∙ ap (λ (rs : List Release). changes_over (prospect p) p.content.now.state.alerts rs) (named_all p ids up among fits held)
