-- What the quick walks over lists of a factor's elements come to, on its stretch s with n generators and `count` elements. Nothing is said where they do not come
-- to all of it: then the places are asked one after another, as the single call answers them.
use Rattle.std.specs.Prelude.{ℕ, ◌<◌, ◌≡◌, List, length, get_or}
use Rattle.std.specs.Prelude.{Ok}
use Rattle.factor_questions.specs.Walks.{compose_in}

-- x and y are elements, and z is their product.
pub record Multiplied (s : List ℕ) (n count x y z : ℕ) : Type 0 where
  pub first : x < count
  pub second : y < count
  pub product : compose_in s n count x y ≡ Ok (record { 0 = z })

-- So it is at every place of a and b, with the results from the start of a list.
pub record Products (s : List ℕ) (n count : ℕ) (a b results : List ℕ) : Type 0 where
  pub each : (i : ℕ) → i < length a → Multiplied s n count (get_or a i 0) (get_or b i 0) (get_or results i 0)
