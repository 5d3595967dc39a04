-- What the rounds of powers over lists do, place by place. None of it is part of the answer.
use Rattle.std.specs.Prelude.{ℕ, ◌/◌, ◌%◌, ◌^◌, ◌≤◌, ◌<◌, ◌≡◌, List, length, get_or, ℤ, pos, eqb}
use Rattle.std.specs.Prelude.{Ok}
use Rattle.egg.specs.Table.{pick}
use Rattle.factor_questions.specs.Walks.{compose_in, inverse_in}
use Rattle.group_powers.specs.Powers.{by_halving, powers}

-- x is an element, and its power by e is that of b by k, which is not negative.
pub record Base (s : List ℕ) (n count x : ℕ) (e : ℤ) (b k : ℕ) : Type 0 where
  pub element : x < count
  pub same : powers 1073741824 (compose_in s n count) (inverse_in s n count) x e ≡ by_halving k (compose_in s n count) b k

-- So it is at the first m places.
pub record Bases (s : List ℕ) (n count : ℕ) (a : List ℕ) (exponents : List ℤ) (m : ℕ) (bs ks : List ℕ) : Type 0 where
  pub each : (i : ℕ) → i < m → Base s n count (get_or a i 0) (get_or exponents i (pos 0)) (get_or bs i 0) (get_or ks i 0)

-- None of the first m exponents is larger.
pub record Largest (ks : List ℕ) (m most : ℕ) : Type 0 where
  pub each : (i : ℕ) → i < m → get_or ks i 0 ≤ most

-- What a square is multiplied by: the base, where the exponent so far is odd, and else the identity.
abbrev pub factor_at : (bs ks : List ℕ) (j i : ℕ) → ℕ
factor_at bs ks j i = pick (eqb (get_or ks i 0 / 2 ^ j % 2) 0) 0 (get_or bs i 0)

-- What is kept of a round, of the squares and their products: the identity until the exponent's first bit, then the square, or its product where the bit is set.
abbrev pub kept_at : (ks : List ℕ) (j : ℕ) (squares products : List ℕ) (i : ℕ) → ℕ
kept_at ks j squares products i =
    pick (eqb (get_or ks i 0 / 2 ^ j) 0) 0 (pick (eqb (get_or ks i 0 / 2 ^ j % 2) 0) (get_or squares i 0) (get_or products i 0))

-- The list holds the powers by the exponents without their last j bits.
pub record Raised (s : List ℕ) (n count : ℕ) (bs ks : List ℕ) (j : ℕ) (xs : List ℕ) : Type 0 where
  pub each : (i : ℕ) → i < length ks → by_halving (get_or ks i 0 / 2 ^ j) (compose_in s n count) (get_or bs i 0) (get_or ks i 0 / 2 ^ j) ≡ Ok (record { 0 = get_or xs i 0 })
