-- What powers over lists of a factor's elements come to, on its stretch s with n generators and `count` elements. Nothing is said where they do not come to all
-- of it: then the places are asked one after another, as the single call answers them.
use Rattle.std.specs.Prelude.{ℕ, ◌<◌, ◌≡◌, List, length, get_or, ℤ, pos}
use Rattle.std.specs.Prelude.{Ok}
use Rattle.factor_questions.specs.Walks.{compose_in, inverse_in}
use Rattle.group_powers.specs.Powers.{powers}

-- x is an element, and z is its power by e.
pub record Power (s : List ℕ) (n count x : ℕ) (e : ℤ) (z : ℕ) : Type 0 where
  pub element : x < count
  pub power : powers 1073741824 (compose_in s n count) (inverse_in s n count) x e ≡ Ok (record { 0 = z })

-- So it is at every place of a and the exponents, with the results from the start of a list.
pub record Powered (s : List ℕ) (n count : ℕ) (a : List ℕ) (exponents : List ℤ) (results : List ℕ) : Type 0 where
  pub each : (i : ℕ) → i < length a → Power s n count (get_or a i 0) (get_or exponents i (pos 0)) (get_or results i 0)
