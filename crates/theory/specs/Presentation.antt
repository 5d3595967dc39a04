-- Words under pair orders: the group given by involutions and the orders of their products in pairs (Coxeter and Moser).
use Rattle.std.specs.Prelude.{◌≡◌, List, [], ◌∷◌, ◌++◌, ℕ, zero, suc, ◌+◌, ◌<◌, get_or}
use Rattle.theory.specs.Words.{walk}

-- How many pairs there are of numbers below j: 0 + 1 + .. + (j-1). The orders come in a list with the "pairs in the order (0,1),(0,2),(1,2),(0,3)..",
-- so that these stand before the pairs (0,j), (1,j), .. .
abbrev pub pairs_below : ℕ → ℕ
pairs_below zero = 0
pairs_below (suc j) = pairs_below j + j

-- The place of the pair (i, j), for i < j, in that list.
abbrev pub pair_place : ℕ → ℕ → ℕ
pair_place i j = pairs_below j + i

-- The order of the pair (i, j), for i < j.
abbrev pub order_of : List ℕ → ℕ → ℕ → ℕ
order_of orders i j = get_or orders (pair_place i j) 0

-- i j i j .. , with i and j k times each: (i j)^k.
abbrev pub alternate : ℕ → ℕ → ℕ → List ℕ
alternate i j zero = []
alternate i j (suc k) = i ∷ j ∷ alternate i j k

-- The words that stand for the identity: each generator doubled, and each pair as often as its order says.
pub data Relator (n : ℕ) (m : ℕ → ℕ → ℕ) : List ℕ → Type 0 where
  double : {g : ℕ} → g < n → Relator n m (g ∷ g ∷ [])
  pair : {i j : ℕ} → i < j → j < n → Relator n m (alternate i j (m i j))

-- Equal under the relations: the smallest equivalence for which a relator may be put in, or struck out, at any place.
pub data Equiv (n : ℕ) (m : ℕ → ℕ → ℕ) : List ℕ → List ℕ → Type 0 where
  insert : (u : List ℕ) {r : List ℕ} (v : List ℕ) → Relator n m r → Equiv n m (u ++ v) (u ++ r ++ v)
  same : {u : List ℕ} → Equiv n m u u
  turn : {u v : List ℕ} → Equiv n m u v → Equiv n m v u
  join : {u v w : List ℕ} → Equiv n m u v → Equiv n m v w → Equiv n m u w

-- Every relator leads from each element back to it. "A relation fails" is refusal 13.
pub record Holds (n N : ℕ) (m step : ℕ → ℕ → ℕ) : Type 0 where
  pub holds : {e : ℕ} {r : List ℕ} → e < N → Relator n m r → walk step e r ≡ e

-- The same as it is tested: "For each element it tests each generator doubled, then each pair's 2m steps in list order."
pub record Tested (n N : ℕ) (m step : ℕ → ℕ → ℕ) : Type 0 where
  pub doubled : {e g : ℕ} → e < N → g < n → step (step e g) g ≡ e
  pub paired : {e i j : ℕ} → e < N → i < j → j < n → walk step e (alternate i j (m i j)) ≡ e

-- Nothing is invented: the word of e and the letter g is, under the relations, the word of the element to which g leads from e.
pub record Derived (n N : ℕ) (m step : ℕ → ℕ → ℕ) (word : ℕ → List ℕ) : Type 0 where
  pub derived : {e g : ℕ} → e < N → g < n → Equiv n m (word e ++ g ∷ []) (word (step e g))
