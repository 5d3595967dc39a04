-- The composition and the inverse that a table and its words describe, and the check that they are a group's.
use Rattle.std.specs.Prelude.{◌≡◌, List, ℕ, ◌<◌}
use Rattle.theory.specs.Table.{generator}
use Rattle.theory.specs.Words.{walk, retrace}

-- a·b: "`compose` walks the word of the second from the first".
abbrev pub compose : (ℕ → ℕ → ℕ) → (ℕ → List ℕ) → ℕ → ℕ → ℕ
compose step word a b = walk step a (word b)

-- "The inverse follows the reversed word through predecessors from the identity."
abbrev pub inverse : (ℕ → ℕ → ℕ) → (ℕ → List ℕ) → ℕ → ℕ
inverse back word a = retrace back 0 (word a)

-- s·x for a generator s: from the element of s along the word of x.
abbrev pub left : (ℕ → ℕ → ℕ) → (ℕ → List ℕ) → ℕ → ℕ → ℕ
left step word s x = walk step (generator step s) (word x)

-- The check by which 12 is decided, in n·n·N tests: multiplication on the left by a generator commutes with every step.
pub record Check (n N : ℕ) (step : ℕ → ℕ → ℕ) (word : ℕ → List ℕ) : Type 0 where
  pub commutes : {s g x : ℕ} → s < n → g < n → x < N → left step word s (step x g) ≡ step (left step word s x) g
