-- This file defines what it means that a generator's element has a word of one letter. Document 01: "`compose` walks the word of the second from the
-- first": for one letter that is one step. The definitions of the calls know no letters: a product found by one is proved to be the one that they
-- give.
use Rattle.std.specs.Prelude.{ℕ, ◌-◌, ◌%◌, ◌≤◌, ◌<◌, ◌≡◌, List, get_or}
use Rattle.egg.specs.Factor.{read_step}
use Rattle.factor_questions.specs.Walks.{compose_in}

-- h is 0, or it is one more than a letter for which the product of any element with b is the step by that letter.
pub record OneLetter (s : List ℕ) (n b h : ℕ) : Type 0 where
  pub small : h ≤ n
  pub leads : 0 < h → (count a : ℕ) → b < count → compose_in s n count a b ≡ read_step s n count a (h - 1)

-- The same for each element of the list `gens`, with its entry of the list `letters`.
pub record Letters (s : List ℕ) (n count : ℕ) (gens letters : List ℕ) : Type 0 where
  pub all : (g : ℕ) → OneLetter s n (get_or gens g 0 % count) (get_or letters g 0)
