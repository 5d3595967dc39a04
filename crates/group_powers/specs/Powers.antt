-- This file defines powers, by halving the exponent. Document 01: "Recursive power whose positive exponent halves at each call; negative exponents
-- hand on to the inverse's power, i32::MIN through 2^30."
use Rattle.std.specs.Prelude.{ℕ, zero, suc, ◌+◌, ◌/◌, ◌%◌, List, Bool, true, false, length, eqb, ℤ, pos, negsuc}
use Rattle.egg.specs.declared.Factor.{Factor}
use Rattle.egg.specs.declared.GroupElementId.{GroupElementId}
use Rattle.egg.specs.Answers.{Reached}
use Rattle.std.specs.Prelude.{Ok}
use Rattle.egg.specs.Factor.{stretch}
use Rattle.factor.specs.Questions.{admits}
use Rattle.egg.specs.Answers.{if_reach, on_reached}
use Rattle.factor_questions.specs.Walks.{compose_in, inverse_in}

-- x, and once more a where the last argument, the exponent's remainder by 2, is not 0.
abbrev pub odd_too : (ℕ → ℕ → Reached) → ℕ → ℕ → ℕ → Reached
odd_too op a x zero = Ok (record { 0 = x })
odd_too op a x (suc r) = op x a

-- The k-th power: the square of the power by k / 2, and once more a if k is odd. `fuel` bounds how often it halves; k times is enough.
unfoldable pub by_halving : ℕ → (ℕ → ℕ → Reached) → ℕ → ℕ → Reached
by_halving zero op a k = Ok (record { 0 = 0 })
by_halving (suc fuel) op a zero = Ok (record { 0 = 0 })
by_halving (suc fuel) op a (suc k) =
    on_reached (by_halving fuel op a (suc k / 2)) (λ x. on_reached (op x x) (λ y. odd_too op a y (suc k % 2)))

-- A power by the negative exponent -k, where i is the inverse. "`powi` as the source, i32::MIN included: it squares the 2^30 power of the inverse."
-- `half` is 2^30, and the test says that k is twice that.
abbrev pub negated : Bool → ℕ → (ℕ → ℕ → Reached) → ℕ → ℕ → Reached
negated true half op i k = on_reached (by_halving half op i half) (λ x. op x x)
negated false half op i k = by_halving k op i k

-- The power by any exponent; `op` composes and `inv` inverts.
unfoldable pub powers : ℕ → (ℕ → ℕ → Reached) → (ℕ → Reached) → ℕ → ℤ → Reached
powers half op inv a (pos k) = by_halving k op a k
powers half op inv a (negsuc k) = on_reached (inv a) (λ i. negated (eqb (suc k) (half + half)) half op i (suc k))

-- `powi` in one factor: the crate `factor` has no such call.
unfoldable pub powi_alone : List ℕ → Factor → GroupElementId → ℤ → Reached
powi_alone t f a i =
    if_reach (admits (length t) f a.0 0)
    (powers 1073741824 (compose_in (stretch t f) f.generators f.elements) (inverse_in (stretch t f) f.generators f.elements) a.0 i)
