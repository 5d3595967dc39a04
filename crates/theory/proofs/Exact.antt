-- The check decides whether some group has the table, and which group that is.
use mathlib.Core.Path.{◌≡◌}
use mathlib.Core.Logic.Iff
use mathlib.Core.Logic.{◌↔◌}
use mathlib.Core.List.{List}
use Prim.Native.Nat.{ℕ, ◌<◌}
use Rattle.theory.specs.Table.{Table, Columns}
use Rattle.theory.specs.Words.{Spelled}
use Rattle.theory.specs.Group.{GroupOn, RightSteps, RightRegular}
use Rattle.theory.specs.AnyGroup.{SomeGroup}
use Rattle.theory.specs.Regular.{compose, inverse, Check}
use Rattle.theory.proofs.Sound.{sound, sound_steps}
use Rattle.theory.proofs.Complete.{columns, complete, compose_is_op, inverse_is_inv}
use Rattle.theory.proofs.AnyCarrier.{any_carrier, on_numbers, on_numbers_steps}

module _ {n N : ℕ} {step : ℕ → ℕ → ℕ} {word : ℕ → List ℕ} (S : Spelled n N step word) where
  -- The check is exact: the table is a group's just if its columns are permutations and the check passes.
  pub exact : Table n N step → RightRegular n N step ↔ ((back : ℕ → ℕ → ℕ) × Columns n N step back × Check n N step word)
  exact T = (
    λ r. (λ e g. r.op e (r.inv (step 0 g)), columns r.group r.steps, complete r.group r.steps S),
    λ c. record { op = compose step word; inv = inverse c.0 word; group = sound T S c.2 c.1; steps = sound_steps T S c.2 },
  )

  -- The same for a group on any carrier.
  pub exact_any : Table n N step → SomeGroup n N step ↔ ((back : ℕ → ℕ → ℕ) × Columns n N step back × Check n N step word)
  exact_any T = Iff.trans any_carrier (exact T)

  -- A table is right multiplication in one group at most.
  pub unique : {op op' : ℕ → ℕ → ℕ} {inv inv' : ℕ → ℕ} → GroupOn N op inv → RightSteps n N step op → GroupOn N op' inv' → RightSteps n N step op'
      → {a b : ℕ} → a < N → b < N → op a b ≡ op' a b
  unique G R G' R' a b = cc (compose_is_op G R S a b, compose_is_op G' R' S a b)

  -- Whatever the carrier: composing and inverting the numbers is multiplying and inverting what they number.
  module _ (G : SomeGroup n N step) where
    open G use {group, numbers}

    pub compose_is_any : {a b : ℕ} → a < N → b < N → compose step word a b ≡ numbers.num (group.op (numbers.elt a) (numbers.elt b))
    compose_is_any a b = compose_is_op (on_numbers G) (on_numbers_steps G) S a b

    pub inverse_is_any : {back : ℕ → ℕ → ℕ} → Columns n N step back → {a : ℕ} → a < N
        → inverse back word a ≡ numbers.num (group.inv (numbers.elt a))
    inverse_is_any B a = inverse_is_inv (on_numbers G) (on_numbers_steps G) S B a
