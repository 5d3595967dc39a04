-- The way to a product a·b by a walk back along one word, on a factor's stretch s with n generators and `count` elements: what has been decided before the first letter
-- is walked, so that walks to several products can be under way at the same time.
use Rattle.std.specs.Prelude.{ℕ, ◌≤◌, ◌<◌, ◌≡◌, Bool, true, false, List}
use Rattle.egg.specs.Answers.{Reached}
use Rattle.std.specs.Prelude.{Ok}
use Rattle.egg.specs.Answers.{on_reached}
use Rattle.factor_questions.specs.Walks.{back_along, inverse_in, compose_in}

-- What the walk's last element stands for: its inverse, where the walk was along the first's word, else itself.
unfoldable pub ending : (inverted : Bool) (s : List ℕ) (n count x : ℕ) → Reached
ending true s n count x = inverse_in s n count x
ending false s n count x = Ok (record { 0 = x })

-- Back along so many letters of one element's word from another, and the ending, is the product.
pub record Routed (s : List ℕ) (n count a b : ℕ) (inverted : Bool) (letters from word : ℕ) : Type 0 where
  pub starts : from < count
  pub along_element : word < count
  pub short : letters ≤ 4096
  pub product : on_reached (back_along letters s n count from word) (ending inverted s n count) ≡ compose_in s n count a b
