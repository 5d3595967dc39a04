-- The single calls at the places of a piece are those of the whole lists from its start on.
-- Assumes nothing.
use Prim.Native.Nat.{ℕ, ◌+◌, ◌<◌}
use mathlib.Core.Path.{◌≡◌}
use mathlib.Core.List.{List}
use borrow.Rule.Slice.PartMut.{mid_of}
use Rattle.egg.specs.declared.Factor.{Factor}
use Rattle.lists.proofs.Parts.{mid_at}
use Rattle.lists_factor.specs.Each.{compose_at, inverse_at}

module _ (t : List ℕ) (f : Factor) (at k : ℕ) (a : List ℕ) where
  pub compose_places : (b : List ℕ) (j : ℕ) → j < k → compose_at t f a b (at + j) ≡ compose_at t f (mid_of at k a) (mid_of at k b) j
  compose_places b j u = rw (mid_at 0 at k a j u, mid_at 0 at k b j u)

  pub inverse_places : (j : ℕ) → j < k → inverse_at t f a (at + j) ≡ inverse_at t f (mid_of at k a) j
  inverse_places j u = rw (mid_at 0 at k a j u)
