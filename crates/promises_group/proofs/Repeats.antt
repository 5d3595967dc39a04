-- Powers and periods are the group's.
use Prim.Native.Nat.{ℕ, zero, suc, ◌+◌, ◌/◌, ◌%◌, ◌≤◌, ◌<◌}
use mathlib.Core.Path.{◌≡◌, refl, sym, ap, ◌∙◌}
use mathlib.Core.Logic.{◌⊎◌, inl, inr}
use mathlib.Core.Bool.{Bool, true, false}
use mathlib.Core.List.{List}
use native.Mathlib.Nat.{eq-or-lt_of_le}
use native.Mathlib.Omega.{arith}
use borrow.Author.Tests.{eq-eqb, ne_eqb}
use lib.Dec.{eqb}
use lib.IntN.{ℤ, pos, negsuc}
use Rattle.egg.specs.declared.Factor.{Factor}
use Rattle.egg.specs.Answers.{Reached}
use Rattle.std.specs.Prelude.{Ok}
use Rattle.theory.specs.Group.{GroupOn, power, integer_power, Period}
use Rattle.theory.proofs.GroupLaws.{power_closed}
use Rattle.theory.proofs.Periods.{period_exists}
use Rattle.factor_laws.specs.Accepted.{Accepted, reach}
use Rattle.factor_laws.proofs.Steps.{compose_in_lem}
use Rattle.factor_laws.proofs.Handles.{few_elements}
use Rattle.theory_products.specs.Product.{product}
use Rattle.theory_products.specs.Power.{odd_too_lem, halving, negative, powi}
use Rattle.theory_radix.specs.Divisors.{lcm}
use Rattle.theory_radix.proofs.RadixLaws.{low_small, high_small}
use Rattle.theory_products.proofs.ProductLaws.{product_group}
use Rattle.theory_products.proofs.PowerLaws.{powi_is}
use Rattle.theory_products.proofs.PeriodLaws.{pair_period}
use Rattle.group_powers.specs.Powers.{odd_too, by_halving, negated, powers}
use Rattle.group_periods.specs.Periods.{period_from, period_of, periods}
use Rattle.promises_group.specs.Products.{part, parts, AllAccepted, none, more}
use Rattle.promises_group.proofs.Parts.{part_worded, all_groups}

-- A composition that answers as a group composes.
pub record Composing (N : ℕ) (op : ℕ → ℕ → ℕ) (opr : ℕ → ℕ → Reached) : Type 0 where
  pub is : (a b : ℕ) → a < N → b < N → opr a b ≡ reach (op a b)

module _ {N : ℕ} {op : ℕ → ℕ → ℕ} {inv : ℕ → ℕ} (G : GroupOn N op inv) {opr : ℕ → ℕ → Reached} (C : Composing N op opr) where
  odd_small : {a x : ℕ} (r : ℕ) → a < N → x < N → odd_too_lem op a x r < N
  odd_small zero ha hx = hx
  odd_small (suc r) ha hx = G.op_closed hx ha

  odd_is : {a x : ℕ} (r : ℕ) → a < N → x < N → odd_too opr a x r ≡ reach (odd_too_lem op a x r)
  odd_is zero ha hx = refl
  odd_is (suc r) ha hx = C.is _ _ hx ha

  halves_small : {a : ℕ} (fuel k : ℕ) → a < N → halving fuel op a k < N
  unfolding halving
  halves_small zero k ha = G.identity
  halves_small (suc fuel) zero ha = G.identity
  halves_small (suc fuel) (suc k) ha =
      let h = halves_small fuel (suc k / 2) ha in
      odd_small (suc k % 2) ha (G.op_closed h h)

  halves_are : {a : ℕ} (fuel k : ℕ) → a < N → by_halving fuel opr a k ≡ reach (halving fuel op a k)
  unfolding by_halving halving
  halves_are zero k ha = refl
  halves_are (suc fuel) zero ha = refl
  halves_are {a} (suc fuel) (suc k) ha =
      let h = halves_small fuel (suc k / 2) ha in
      rw (halves_are fuel (suc k / 2) ha, C.is _ _ h h) (odd_is (suc k % 2) ha (G.op_closed h h))

  negated_are : (t : Bool) (half : ℕ) {i : ℕ} (k : ℕ) → i < N → negated t half opr i k ≡ reach (negative t half op i k)
  negated_are true half {i} k hi = let h = halves_small half half hi in rw (halves_are half half hi) (C.is _ _ h h)
  negated_are false half k hi = halves_are k k hi

  powers_powi : (half : ℕ) (invr : ℕ → Reached) {a : ℕ} → invr a ≡ reach (inv a) → a < N → (z : ℤ) → powers half opr invr a z ≡ reach (powi half op inv a z)
  unfolding powers powi
  powers_powi half invr q ha (pos k) = halves_are k k ha
  powers_powi half invr q ha (negsuc k) = rw q (negated_are (eqb (suc k) (half + half)) half (suc k) (G.inv_closed ha))

  pub powers_are : (half : ℕ) (invr : ℕ → Reached) {a : ℕ} → invr a ≡ reach (inv a) → a < N → (z : ℤ) → powers half opr invr a z ≡ reach (integer_power op inv a z)
  powers_are half invr q ha z = powers_powi half invr q ha z ∙ ap reach (powi_is G half ha z)

  -- The walk finds the first power that is the identity.
  walk_finds : {a k : ℕ} → a < N → Period op a k → (left j : ℕ) → 0 < j → j ≤ k → k < j + left → period_from left opr a (power op a j) j ≡ Ok k
  unfolding period_from
  walk_finds ha P zero j up h l = absurd (omega arith)
  walk_finds {a} {k} ha P (suc left) j up h l = by (walk_finds ha P left) (eq-or-lt_of_le h) where
    by : ((j : ℕ) → 0 < j → j ≤ k → k < j + left → period_from left opr a (power op a j) j ≡ Ok k) → (j ≡ k) ⊎ (j < k)
        → period_from (suc left) opr a (power op a j) j ≡ Ok k
    by i (inl e) =
        let z : power op a j ≡ 0 = ap (power op a) e ∙ P.returns in
        rw (eq-eqb (power op a j) 0 z) (ap Ok e)
    by i (inr m) =
        let n : power op a j ≡ 0 → ⊥ = λ z. let y = P.first up z in absurd (omega arith) in
        let s : j + 1 ≡ suc j = omega arith in
        rw (ne_eqb (power op a j) 0 n, C.is _ _ (power_closed G ha j) ha, s) (i (suc j) (omega arith) (omega arith) (omega arith))

  pub walk_is : {a k : ℕ} → a < N → Period op a k → k ≤ N → period_from N opr a a 1 ≡ Ok k
  walk_is {a} {k} ha P h =
      let one : power op a 1 ≡ a = G.left_identity ha in
      let p : 0 < k = P.positive in
      ap (λ (x : ℕ). period_from N opr a x 1) (sym one) ∙ walk_finds ha P N 1 (omega arith) (omega arith) (omega arith)

module _ (t : List ℕ) where
  factor_period : {h : Factor} → Accepted t h → (a : ℕ) → a < h.elements → (k : ℕ) × (period_of t h a ≡ Ok k) × Period (part t h).op a k
  factor_period {h} A a ha =
      let G = (part_worded t A).stepped.group.laws in
      let (k, l, P) = period_exists G ha in
      (k, walk_is G (record { is = λ a b ha hb. compose_in_lem A.sound A.ruled A.hops (few_elements A) ha hb }) ha P l, P)

  pub periods_are : {hs : List Factor} → AllAccepted t hs → (a : ℕ) → a < (product (parts t hs)).elements
      → (k : ℕ) × (periods t hs a ≡ Ok k) × Period (product (parts t hs)).op a k
  unfolding periods
  periods_are none a ha = (1, refl, record { positive = omega arith; returns = refl; first = λ p z. p })
  periods_are (more {h} {hs} A As) a ha =
      let N : ℕ = h.elements in
      let M : ℕ = (product (parts t hs)).elements in
      let (j, q, J) = factor_period A (a % N) (low_small N M a ha) in
      let (k, p, K) = periods_are As (a / N) (high_small N M a ha) in
      (lcm j k, rw (q, p), pair_period (part t h) (product (parts t hs)) (part_worded t A).stepped.group (product_group (all_groups t As)) ha J K)
