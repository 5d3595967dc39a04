-- This file defines what two maps between a subgroup and its overgroup have to be.
use Rattle.std.specs.Prelude.{ℕ, ◌<◌, ◌≤◌, ◌≡◌}
use Rattle.build_numbering.specs.Renumber as appear

-- The two maps between 0 .. N-1 and a part of 0 .. M-1: each undoes the other, and what is not in that part is `no_number`.
pub record MapsUndo (M N : ℕ) (toOver toSub : ℕ → ℕ) : Type 0 where
  pub small : N ≤ appear.no_number
  pub over_below : {e : ℕ} → e < N → toOver e < M
  pub there_and_back : {e : ℕ} → e < N → toSub (toOver e) ≡ e
  pub sub_below : {x : ℕ} → x < M → ¬ (toSub x ≡ appear.no_number) → toSub x < N
  pub back_and_there : {x : ℕ} → x < M → ¬ (toSub x ≡ appear.no_number) → toOver (toSub x) ≡ x

-- The map to the overgroup carries the operation, the inverse and the identity.
pub record Homomorphic (N : ℕ) (opₛ : ℕ → ℕ → ℕ) (invₛ : ℕ → ℕ) (op : ℕ → ℕ → ℕ) (inv : ℕ → ℕ) (toOver : ℕ → ℕ) : Type 0 where
  pub identity : toOver 0 ≡ 0
  pub composes : {a b : ℕ} → a < N → b < N → toOver (opₛ a b) ≡ op (toOver a) (toOver b)
  pub inverts : {a : ℕ} → a < N → toOver (invₛ a) ≡ inv (toOver a)
