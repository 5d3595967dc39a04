-- This file defines first places. Document 01: "Places are the first in element order, then generator order".
use Rattle.std.specs.Prelude.{ℕ, ◌<◌}
use Rattle.theory.specs.Appearance.{Ahead}

-- i is the first number below k of which P holds.
pub record FirstOf (k : ℕ) (P : ℕ → Type 0) (i : ℕ) : Type 0 where
  pub inside : i < k
  pub here : P i
  pub before : {j : ℕ} → j < i → ¬ (P j)

-- P holds at row e and column g of a table of N rows and n columns, and at no place that is read before.
pub record FirstPlace (n N : ℕ) (P : ℕ → ℕ → Type 0) (e g : ℕ) : Type 0 where
  pub row : e < N
  pub column : g < n
  pub here : P e g
  pub before : {x h : ℕ} → x < N → h < n → Ahead x h e g → ¬ (P x h)
