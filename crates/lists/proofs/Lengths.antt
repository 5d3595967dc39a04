-- Laws of `lengths_right`, one for each answer, and what it tells where it holds.
-- Assumes nothing.
use Prim.Native.Nat.{ℕ, ◌≤◌}
use mathlib.Core.Path.{◌≡◌}
use mathlib.Core.Bool.{true, false}
use borrow.Author.Tests.{eq-eqb, ne_eqb, eqb-true, leb-true}
use lib.Dec.{eqb, leb}
use Rattle.egg.proofs.Rooms.{and_first, and_second}
use Rattle.lists.specs.Lists.{lengths_right}

module _ (first second out : ℕ) where
  pub right_second : (first ≡ second → ⊥) → false ≡ lengths_right first second out
  unfolding lengths_right
  right_second h = simp (ne_eqb _ _ h)

  pub right_out : first ≡ second → (first ≡ out → ⊥) → false ≡ lengths_right first second out
  unfolding lengths_right
  right_out h k = simp (eq-eqb _ _ h, ne_eqb _ _ k)

  pub right_long : first ≡ second → first ≡ out → leb first 4096 ≡ lengths_right first second out
  unfolding lengths_right
  right_long h k = simp (eq-eqb _ _ h, eq-eqb _ _ k)

  pub right_lengths : lengths_right first second out ≡ true → (first ≡ second) × ((first ≡ out) × (first ≤ 4096))
  unfolding lengths_right
  right_lengths h =
      let rest = and_second (eqb first second) _ h in
      (eqb-true _ _ (and_first (eqb first second) _ h), (eqb-true _ _ (and_first (eqb first out) _ rest), leb-true _ _ (and_second (eqb first out) _ rest)))
