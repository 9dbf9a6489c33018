-- A value before a call and after it.
pub record Over (A : Type 0) : Type 0 where
  pub before : A
  pub after : A

abbrev pub over : {T A : Type 0} → (T → A) → T → T → Over A
over seen old new = record { before = seen old; after = seen new }
