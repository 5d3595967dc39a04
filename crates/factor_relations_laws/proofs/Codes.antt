-- The codes of the pairs: at the place of the pair (i, j) of the order list stands 8i + j. One test over the 28 pairs of 8 generators.
use Prim.Native.Nat.{ℕ, ◌+◌, ◌*◌, ◌/◌, ◌%◌, ◌<◌}
use mathlib.Core.Path.{◌≡◌}
use mathlib.Core.Bool.{Bool}
use native.Mathlib.Omega.{arith}
use lib.Dec.{T, eqb, eqb→eq}
use Rattle.egg.specs.Pairs.{pair_code, pair_count}
use Rattle.theory.specs.Bounded.{all}
use Rattle.theory.specs.Presentation.{pairs_below, pair_place}
use Rattle.theory.proofs.BoundedTests.{all_holds}
use Rattle.theory.proofs.Pairs.{pairs_length}

abbrev right : ℕ → ℕ → Bool
right j i = eqb (pair_code (pair_place i j)) (8 * i + j)

codes_right : T (all 8 (λ j. all j (right j)))
unfolding pair_code
codes_right = tt

pub code_is : {i j : ℕ} → i < j → j < 8 → pair_code (pair_place i j) ≡ 8 * i + j
code_is {i} {j} hi hj = eqb→eq _ _ ((all_holds j (right j)).0 ((all_holds 8 (λ j. all j (right j))).0 codes_right j hj) i hi)

pub code_first : {i j : ℕ} → i < j → j < 8 → pair_code (pair_place i j) / 8 ≡ i
code_first hi hj = omega (arith, code_is hi hj)

pub code_second : {i j : ℕ} → i < j → j < 8 → pair_code (pair_place i j) % 8 ≡ j
code_second hi hj = omega (arith, code_is hi hj)

pub pair_count_lem : (n : ℕ) → pair_count n ≡ pairs_below n
unfolding pair_count
pair_count_lem = pairs_length
