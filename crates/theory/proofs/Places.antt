-- The places of a table in the order in which they are read.
use mathlib.Core.Path.{◌≡◌, sym}
use mathlib.Core.Logic.{◌⊎◌, inl, inr}
use Prim.Native.Nat.{ℕ, suc, ◌<◌}
use native.Mathlib.Omega.{arith}
use Rattle.theory.specs.Appearance.{Ahead, row, column}
use Rattle.theory.proofs.BoundedTests.{below_suc}
use Rattle.theory.proofs.Induction.{Order, less, equal, more, order}

-- Of two places one is read before the other, or they are the same.
pub data Places (x g y h : ℕ) : Type 0 where
  sooner : Ahead x g y h → Places x g y h
  same : x ≡ y → g ≡ h → Places x g y h
  later : Ahead y h x g → Places x g y h

pub places : (x g y h : ℕ) → Places x g y h
places x g y h = go (order x y) (order g h) where
  go : Order x y → Order g h → Places x g y h
  go (less p) q = sooner (row p)
  go (equal p) (less q) = sooner (column p q)
  go (equal p) (equal q) = same p q
  go (equal p) (more q) = later (column (sym p) q)
  go (more p) q = later (row p)

-- What is read before the next column is what was read before, or stands at the place itself.
pub ahead_column : {y h x g : ℕ} → Ahead y h x (suc g) → ((y ≡ x) × (h ≡ g)) ⊎ Ahead y h x g
ahead_column (row p) = inr (row p)
ahead_column {y} {h} {x} {g} (column p q) = go (below_suc q) where
  go : (h ≡ g) ⊎ (h < g) → ((y ≡ x) × (h ≡ g)) ⊎ Ahead y h x g
  go (inl e) = inl (p, e)
  go (inr l) = inr (column p l)

pub ahead_row : {n y h x : ℕ} → h < n → Ahead y h (suc x) 0 → Ahead y h x n
ahead_row {n} {y} {h} {x} hn (row p) = go (below_suc p) where
  go : (y ≡ x) ⊎ (y < x) → Ahead y h x n
  go (inl e) = column e hn
  go (inr l) = row l
ahead_row hn (column p q) = absurd (omega arith)

pub ahead_suc : {y h x g : ℕ} → Ahead y h x g → Ahead y h x (suc g)
ahead_suc (row p) = row p
ahead_suc (column p q) = column p (omega arith)

pub ahead_next : {y h x g : ℕ} → Ahead y h x g → Ahead y h (suc x) 0
ahead_next (row p) = row (omega arith)
ahead_next (column p q) = row (omega arith)

pub nothing_ahead : {y h : ℕ} → ¬ (Ahead y h 0 0)
nothing_ahead (row p) = omega arith
nothing_ahead (column p q) = omega arith
