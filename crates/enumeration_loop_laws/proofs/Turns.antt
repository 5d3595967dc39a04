-- Two letters in turn, as they come from a later place on, forth and back; and that elements which begin as a ring does, and go on as it does, are the ring.
use Prim.Native.Nat.{ℕ, zero, suc, ◌+◌, ◌-◌, ◌%◌, ◌<◌, ◌≤◌}
use mathlib.Core.Path.{◌≡◌, sym, ◌∙◌}
use mathlib.Core.Logic.{◌⊎◌, inl, inr}
use mathlib.Core.Bool.{Bool, true, false}
use native.Mathlib.Decide.{ℕ_discrete}
use native.Mathlib.Omega.{arith}
use borrow.Author.Tests.{eq-eqb, ne_eqb}
use lib.Dec.{eqb}
use Rattle.egg.specs.Table.{pick}
use Rattle.enumeration_loop_laws.specs.Rings.{turn, ring}

turn_even : (a b j : ℕ) → j % 2 ≡ 0 → turn a b j ≡ a
turn_even a b j q = rw (eq-eqb (j % 2) 0 q)

pub turn_odd : (a b j : ℕ) → (j % 2 ≡ 0 → ⊥) → turn a b j ≡ b
turn_odd a b j q = rw (ne_eqb (j % 2) 0 q)

pub turn_same : (a b i j : ℕ) → i % 2 ≡ j % 2 → turn a b i ≡ turn a b j
turn_same a b i j q = rw q

pub turn_other : (a b i j : ℕ) → i % 2 ≡ suc j % 2 → turn a b i ≡ turn b a j
turn_other a b i j q = by (ℕ_discrete (j % 2) 0) where
  by : Dec (j % 2 ≡ 0) → turn a b i ≡ turn b a j
  by (yes z) = turn_odd a b i (omega arith) ∙ sym (turn_even b a j z)
  by (no d) = turn_even a b i (omega arith) ∙ sym (turn_odd b a j d)

-- What holds of both letters holds of each.
pub turn_in : (P : ℕ → Type 0) {a b : ℕ} → P a → P b → (j : ℕ) → P (turn a b j)
turn_in P {a} {b} p q j = by (eqb (j % 2) 0) where
  by : (c : Bool) → P (pick c a b)
  by true = p
  by false = q

-- The letters from place s on: as they are, or swapped.
pub turn_begins : (h g s : ℕ) → ((turn h g s ≡ h) × (turn h g (suc s) ≡ g)) ⊎ ((turn h g s ≡ g) × (turn h g (suc s) ≡ h))
turn_begins h g s = by (ℕ_discrete (s % 2) 0) where
  by : Dec (s % 2 ≡ 0) → ((turn h g s ≡ h) × (turn h g (suc s) ≡ g)) ⊎ ((turn h g s ≡ g) × (turn h g (suc s) ≡ h))
  by (yes z) = inl (turn_even h g s z, turn_odd h g (suc s) (omega arith))
  by (no d) = inr (turn_odd h g s d, turn_even h g (suc s) (omega arith))

pub turn_shift : (h g s j : ℕ) → turn (turn h g s) (turn h g (suc s)) j ≡ turn h g (s + j)
turn_shift h g s j = by (ℕ_discrete (j % 2) 0) where
  by : Dec (j % 2 ≡ 0) → turn (turn h g s) (turn h g (suc s)) j ≡ turn h g (s + j)
  by (yes z) = turn_even (turn h g s) (turn h g (suc s)) j z ∙ turn_same h g s (s + j) (omega arith)
  by (no d) = turn_odd (turn h g s) (turn h g (suc s)) j d ∙ turn_same h g (suc s) (s + j) (omega arith)

-- The letters before place p, from it back.
pub turn_back : (h g p j : ℕ) → j < p → turn (turn h g (suc p)) (turn h g p) j ≡ turn h g (p - suc j)
turn_back h g p j l = by (ℕ_discrete (j % 2) 0) where
  by : Dec (j % 2 ≡ 0) → turn (turn h g (suc p)) (turn h g p) j ≡ turn h g (p - suc j)
  by (yes z) = turn_even (turn h g (suc p)) (turn h g p) j z ∙ turn_same h g (suc p) (p - suc j) (omega arith)
  by (no d) = turn_odd (turn h g (suc p)) (turn h g p) j d ∙ turn_same h g p (p - suc j) (omega arith)

-- What begins at u and takes each next step is the ring.
pub ring_is : (step : ℕ → ℕ → ℕ) (a b : ℕ) (z : ℕ → ℕ) (u limit : ℕ) → u ≡ z 0 → ((j : ℕ) → j < limit → z (suc j) ≡ step (z j) (turn a b j))
    → (j : ℕ) → j ≤ limit → ring step a b u j ≡ z j
ring_is step a b z u limit start next zero h = start
ring_is step a b z u limit start next (suc j) h = rw (ring_is step a b z u limit start next j (omega arith)) (sym (next j h))
