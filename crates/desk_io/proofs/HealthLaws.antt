-- What goes on through one call goes on through two, and what failed in a part of a call failed in all of it.
use Rattle.std.proofs.Common.{ℕ, ◌≤◌, refl, ◌∙◌, arith}
use Rattle.desk_io.specs.Health.{Health, RoseOrFull, GoesOn, GoesOnWhere, HasFailed}

pub stays : (health : Health) → GoesOn health health
stays health = record { later = omega arith; sound = λ sound. (sound, refl) }

pub goes_on : (old mid new : Health) → GoesOn old mid → GoesOn mid new → GoesOn old new
goes_on old mid new one two = record {
  later = let first = one.later in let then = two.later in omega (arith, first, then);
  sound = λ sound. let middle = one.sound sound in let after = two.sound middle.0 in (after.0, after.1 ∙ middle.1);
}

-- the same where what the second call asks for is held wherever all of that is
pub goes_on_where : (all held : Type 0) (old mid new : Health) → (all → held) → GoesOnWhere all old mid → GoesOnWhere held mid new → GoesOnWhere all old new
goes_on_where all held old mid new among one two = record {
  later = let first = one.later in let then = two.later in omega (arith, first, then);
  sound = λ sound.
      let middle = one.sound sound in
      let after = two.sound middle.0 in
      (after.0, λ holds. after.1 (among holds) ∙ middle.1 holds);
}

rose_later : (before middle after : ℕ) → middle ≤ after → RoseOrFull before middle → RoseOrFull before after
rose_later before middle after more rose = omega (arith, more, rose)

pub rose_before : (before middle after : ℕ) → before ≤ middle → RoseOrFull middle after → RoseOrFull before after
rose_before before middle after less rose = omega (arith, less, rose)

-- in its first part
pub failed_first : (old mid new : Health) → GoesOn mid new → HasFailed old mid → HasFailed old new
failed_first old mid new then failed = (rose_later old.faults mid.faults new.faults then.later failed.0, failed.1)

-- in its last part
pub failed_last : (old mid new : Health) → GoesOn old mid → HasFailed mid new → HasFailed old new
failed_last old mid new first failed =
    (rose_before old.faults mid.faults new.faults first.later failed.0, λ sound. failed.1 (first.sound sound).0)
