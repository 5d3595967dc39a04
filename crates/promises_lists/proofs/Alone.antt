-- A factor's calls over lists are those of the product of that factor alone, since each single call is.
-- Assumes nothing.
use Prim.Native.Nat.{ℕ}
use mathlib.Core.Path.{◌≡◌, refl, ap, fun_ext}
use mathlib.Core.List.{List}
use lib.ListN.{length, get_or}
use lib.IntN.{pos}
use Rattle.egg.specs.declared.Factor.{Factor}
use Rattle.egg.specs.Answers.{Reached}
use Rattle.group.proofs.OneFactor.{one_compose, one_inverse, one_powi}
use Rattle.lists.specs.Lists.{lengths_right, over_lists}
use Rattle.lists_factor.specs.Each as factor
use Rattle.lists_group.specs.Each as product
use Rattle.promises_lists.specs.Walls.{element_at}
use Rattle.promises_lists.specs.Alone.{alone, FactorAlone}

-- Single calls that answer alike at every place answer alike over lists.
by_places : {single single' : ℕ → Reached} (first second : ℕ) (out : List ℕ) → ((place : ℕ) → single place ≡ single' place)
    → over_lists (lengths_right first second (length out)) first single out ≡ over_lists (lengths_right first second (length out)) first single' out
by_places first second out same = ap (λ (s : ℕ → Reached). over_lists (lengths_right first second (length out)) first s out) (fun_ext same)

pub factor_alone : (t : List ℕ) (f : Factor) → FactorAlone t f
unfolding factor.compose_each factor.inverse_each factor.powi_each product.compose_each product.inverse_each product.powi_each
factor_alone t f = record {
  powers_single = λ a exponents i. one_powi t (alone f) f refl refl (element_at a i) (get_or exponents i (pos 0));
  composes_alike = λ a b out. by_places (length a) (length b) out (λ i. one_compose t (alone f) f refl refl (element_at a i) (element_at b i));
  inverts_alike = λ a out. by_places (length a) (length a) out (λ i. one_inverse t (alone f) f refl refl (element_at a i));
  powers_alike = λ a exponents out. by_places (length a) (length exponents) out (λ i. one_powi t (alone f) f refl refl (element_at a i) (get_or exponents i (pos 0)));
}
