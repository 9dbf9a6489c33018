-- The alert of a release is put in its place, or taken out, as by its id.
use Rattle.std.proofs.Common.{◌≡◌, refl, ap, ◌∙◌, ℕ, List, Some, None}
use Rattle.desk_io.specs.ById.{AreRising, put, without}
use Rattle.desk_io.proofs.ByIdForms.{put_is, stopped_without_is}
use Rattle.alerts.specs.declared.alert.Alert.{Alert}
use Rattle.desk_state.specs.Events.{put_alert}
use Rattle.desk_state.specs.Install.{IsOf}

pub put_own : (id : ℕ) (a : Alert) (xs : List Alert) → IsOf id a → put (λ (x : Alert). x.release) a xs ≡ put_alert id (Some a) xs
put_own id a xs is =
    put_is (λ (x : Alert). x.release) a (put_alert a.release (Some a)) refl (λ y ys. refl) xs ∙ ap (λ (n : ℕ). put_alert n (Some a) xs) is

pub take_none : (id : ℕ) (xs : List Alert) → AreRising (λ (x : Alert). x.release) xs → without (λ (x : Alert). x.release) id xs ≡ put_alert id None xs
take_none id xs rising = stopped_without_is (λ (x : Alert). x.release) id (put_alert id None) refl (λ y ys. refl) xs rising
