-- A group of N elements, on any carrier, that is presented by pair orders.
use Rattle.std.specs.Prelude.{ℕ, ◌≤◌, ◌≡◌, List, length}
use Rattle.theory.specs.Words.{Word}
use Rattle.theory.specs.AnyGroup.{GroupOver, Numbers, word_product}
use Rattle.theory_coxeter.specs.Coxeter.{Presents}

-- Its elements can be numbered 0 .. N-1 in some way, the orders present it, and each element is what a word of at most so many letters multiplies to. Nothing is said
-- of how it was found, or in which order it is numbered.
pub record PresentedGroup (n N : ℕ) (m : ℕ → ℕ → ℕ) (longest : ℕ) : Type 1 where
  pub Carrier : Type 0
  pub group : GroupOver Carrier
  pub gen : ℕ → Carrier
  pub numbers : Numbers group N
  pub presents : Presents group gen n m
  pub word : Carrier → List ℕ
  pub over : (a : Carrier) → Word n (word a)
  pub spells : (a : Carrier) → word_product group gen (word a) ≡ a
  pub short : (a : Carrier) → length (word a) ≤ longest
