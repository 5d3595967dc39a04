-- Tests, searches and sums over the numbers below a bound, written so that they compute.
use Rattle.std.specs.Prelude.{Bool, true, false, ◌&&◌, ℕ, zero, suc, ◌+◌}

-- p holds of each number below k.
abbrev pub all : ℕ → (ℕ → Bool) → Bool
all zero p = true
all (suc k) p = p k && all k p

-- The least number below k of which p holds, or k if there is none.
abbrev pub least : ℕ → (ℕ → Bool) → ℕ
least zero p = zero
least (suc k) p = elim (p zero) [ true ↦ zero | false ↦ suc (least k (λ i. p (suc i))) ]

-- f 0 + f 1 + .. + f (k-1).
abbrev pub sum : ℕ → (ℕ → ℕ) → ℕ
sum zero f = 0
sum (suc k) f = sum k f + f k

-- 1 for a test that passes, 0 for one that fails: so that `sum` counts.
abbrev pub one : Bool → ℕ
one true = 1
one false = 0
