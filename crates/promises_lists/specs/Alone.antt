-- A factor's calls over lists beside those of the product of that factor alone. `factor` has no power: the public single power in one factor is
-- `group::powi` for the product that `group_handles::of` makes of it, so "the single call at that place" is that one for powers.
-- Assumes nothing.
use Rattle.std.specs.Prelude.{ℕ, ◌≡◌, List, [], ◌∷◌, get_or, ℤ, pos}
use Rattle.egg.specs.declared.Factor.{Factor}
use Rattle.group_handles.specs.declared.Group.{Group}
use Rattle.group_handles.specs.Handles.{group_of}
use Rattle.group.specs.Questions.{powi_answer}
use Rattle.lists_factor.specs.Each as factor
use Rattle.lists_group.specs.Each as product
use Rattle.promises_lists.specs.Walls.{element_at}

-- The product of one factor.
abbrev pub alone : Factor → Group
alone f = group_of (f ∷ [])

-- On every input, whatever the handle and the buffer are: what stands at a place of `powi_each` is the public single power there, and each of the three
-- calls answers as over the product of the factor alone and leaves the same output list.
pub record FactorAlone (t : List ℕ) (f : Factor) : Type 0 where
  pub powers_single : (a : List ℕ) (exponents : List ℤ) (place : ℕ)
      → factor.powi_at t f a exponents place ≡ powi_answer t (alone f) (element_at a place) (get_or exponents place (pos 0))
  pub composes_alike : (a b out : List ℕ) → factor.compose_each t f a b out ≡ product.compose_each t (alone f) a b out
  pub inverts_alike : (a out : List ℕ) → factor.inverse_each t f a out ≡ product.inverse_each t (alone f) a out
  pub powers_alike : (a : List ℕ) (exponents : List ℤ) (out : List ℕ) → factor.powi_each t f a exponents out ≡ product.powi_each t (alone f) a exponents out
