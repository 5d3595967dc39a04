-- Powers by halving are the powers.
use mathlib.Core.Path.{◌≡◌, refl, sym, ◌∙◌, ap}
use mathlib.Core.Bool.{Bool, true, false}
use Prim.Native.Nat.{ℕ, zero, suc, ◌+◌, ◌/◌, ◌%◌, ◌<◌, ◌≤◌}
use native.Mathlib.Nat.{le_refl}
use native.Mathlib.Omega.{arith}
use lib.Dec.{eqb}
use lib.IntN.{ℤ, pos, negsuc}
use borrow.Author.Tests.{eqb-true}
use Rattle.theory.specs.Group.{GroupOn, power, integer_power}
use Rattle.theory.proofs.GroupLaws.{power_add, power_even, power_odd}
use Rattle.theory_products.specs.Power.{square, odd_too_lem, halving, negative, powi}

module _ {N : ℕ} {op : ℕ → ℕ → ℕ} {inv : ℕ → ℕ} (G : GroupOn N op inv) where
  pub power_identity : (k : ℕ) → power op 0 k ≡ 0
  power_identity zero = refl
  power_identity (suc k) = ap (λ x. op x 0) (power_identity k) ∙ G.left_identity G.identity

  -- One turn.
  pub halving_turn : {a : ℕ} → a < N → (k r : ℕ) → k % 2 ≡ r → odd_too_lem op a (square op (power op a (k / 2))) r ≡ power op a k
  halving_turn ha k zero e = sym (power_even G ha k e)
  halving_turn ha k (suc zero) e = sym (power_odd G ha k e)
  halving_turn ha k (suc (suc r)) e = absurd (omega arith)

  pub halving_is : {a : ℕ} → a < N → (fuel k : ℕ) → k ≤ fuel → halving fuel op a k ≡ power op a k
  unfolding halving
  halving_is ha zero zero h = refl
  halving_is ha zero (suc k) h = absurd (omega arith)
  halving_is ha (suc fuel) zero h = refl
  halving_is ha (suc fuel) (suc k) h = rw (halving_is ha fuel (suc k / 2) (omega arith)) (halving_turn ha (suc k) (suc k % 2) refl)

  pub negative_is : (half : ℕ) {i : ℕ} → i < N → (k : ℕ) (t : Bool) → eqb k (half + half) ≡ t → negative t half op i k ≡ power op i k
  negative_is half {i} hi k true e =
      ap (square op) (halving_is hi half half (le_refl half)) ∙ sym (power_add G hi half half) ∙ ap (power op i) (sym (eqb-true k (half + half) e))
  negative_is half hi k false e = halving_is hi k k (le_refl k)

  -- So `powi` is the power by an integer, for any `half`.
  pub powi_is : (half : ℕ) {a : ℕ} → a < N → (z : ℤ) → powi half op inv a z ≡ integer_power op inv a z
  unfolding powi
  powi_is half ha (pos k) = halving_is ha k k (le_refl k)
  powi_is half ha (negsuc k) = negative_is half (G.inv_closed ha) (suc k) (eqb (suc k) (half + half)) refl
