-- What the calls over lists say of an accepted factor and of a product of accepted factors. Order 2: "Demand 2 is read place by place."
-- Assumes nothing.
use Rattle.std.specs.Prelude.{ℕ, ◌≤◌, ◌<◌, ◌≡◌, List, length, get_or, ℤ, pos}
use Rattle.std.specs.Prelude.{Err}
use Rattle.egg.specs.declared.Factor.{Factor}
use Rattle.egg.specs.declared.GroupElementId.{GroupElementId}
use Rattle.egg.specs.Answers.{numbered}
use Rattle.group_handles.specs.declared.Group.{Group}
use Rattle.lists.specs.declared.ListRefusal.TheVariants.{RefusedAt}
use Rattle.lists.specs.Lists.{Answered, answered}
use Rattle.lists_laws.specs.Outcomes.{Alike, Filled}
use Rattle.theory.specs.Group.{GroupOn, integer_power}
use Rattle.lists_factor.specs.Each as factor
use Rattle.lists_group.specs.Each as product

-- The first `many` numbers of a list are elements.
abbrev pub Below : (count many : ℕ) → List ℕ → Type 0
Below count many l = (place : ℕ) → place < many → get_or l place 0 < count

-- The element that stands at a place of a list.
abbrev pub element_at : List ℕ → ℕ → GroupElementId
element_at l place = record { 0 = get_or l place 0 }

-- A refusal at a place, with the output list as it was. `a` is the refusal's own place: of 14 the position of the argument, 0 for the first list and 1 for the
-- second.
abbrev pub stopped_at : (place number a : ℕ) (out : List ℕ) → Answered
stopped_at place number a out = answered (Err (RefusedAt (record { place = place; why = numbered number a 0 0 }))) out

-- Three calls over lists that are the calls of the group on 0..count-1 whose product is op and whose inverse is inv: where all numbers are elements, each
-- place of the new output is its product, inverse or power; else the first number that is no element is named and the output stays as it was.
pub record ListsOf (count : ℕ) (op : ℕ → ℕ → ℕ) (inv : ℕ → ℕ) (composed : List ℕ → List ℕ → List ℕ → Answered) (inverted : List ℕ → List ℕ → Answered)
    (powered : List ℕ → List ℤ → List ℕ → Answered) : Type 0 where
  pub group : GroupOn count op inv
  pub composes : (a b out : List ℕ) → Alike (length a) (length b) (length out) → Below count (length a) a → Below count (length a) b
      → Filled (composed a b out) (length a) (λ i. op (get_or a i 0) (get_or b i 0))
  pub inverts : (a out : List ℕ) → Alike (length a) (length a) (length out) → Below count (length a) a
      → Filled (inverted a out) (length a) (λ i. inv (get_or a i 0))
  pub powers : (a : List ℕ) (exponents : List ℤ) (out : List ℕ) → Alike (length a) (length exponents) (length out) → Below count (length a) a
      → Filled (powered a exponents out) (length a) (λ i. integer_power op inv (get_or a i 0) (get_or exponents i (pos 0)))
  pub composes_first : (a b out : List ℕ) → Alike (length a) (length b) (length out) → (place : ℕ) → place < length a → Below count place a → Below count place b
      → count ≤ get_or a place 0 → composed a b out ≡ stopped_at place 14 0 out
  pub composes_second : (a b out : List ℕ) → Alike (length a) (length b) (length out) → (place : ℕ) → place < length a → Below count place a → Below count place b
      → get_or a place 0 < count → count ≤ get_or b place 0 → composed a b out ≡ stopped_at place 14 1 out
  pub inverts_stops : (a out : List ℕ) → Alike (length a) (length a) (length out) → (place : ℕ) → place < length a → Below count place a
      → count ≤ get_or a place 0 → inverted a out ≡ stopped_at place 14 0 out
  pub powers_stops : (a : List ℕ) (exponents : List ℤ) (out : List ℕ) → Alike (length a) (length exponents) (length out) → (place : ℕ) → place < length a
      → Below count place a → count ≤ get_or a place 0 → powered a exponents out ≡ stopped_at place 14 0 out

abbrev pub FactorLists : List ℕ → Factor → (ℕ → ℕ → ℕ) → (ℕ → ℕ) → Type 0
FactorLists t f op inv = ListsOf f.elements op inv (factor.compose_each t f) (factor.inverse_each t f) (factor.powi_each t f)

abbrev pub ProductLists : List ℕ → Group → (count : ℕ) → (ℕ → ℕ → ℕ) → (ℕ → ℕ) → Type 0
ProductLists t g count op inv = ListsOf count op inv (product.compose_each t g) (product.inverse_each t g) (product.powi_each t g)
