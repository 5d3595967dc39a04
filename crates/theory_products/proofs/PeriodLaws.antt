-- The period of an element of a product is the least common multiple of the periods of its digits.
use mathlib.Core.Path.{◌≡◌, refl, sym, ◌∙◌, ap}
use mathlib.Core.Logic.{⊎_elim}
use mathlib.Core.List.{List}
use Prim.Native.Nat.{ℕ, zero, suc, ◌+◌, ◌*◌, ◌/◌, ◌%◌, ◌<◌, ◌∣◌}
use native.Mathlib.Nat.{mod-lt, div-add-mod, mul-div_cancel', dvd_of_mod-eq-zero, eq-zero-or-pos, le_of_dvd, zero-mod, zero-div, mul-zero, div-one, div-div-eq-div-mul}
use native.Mathlib.Omega.{arith}
use lib.ListN.{length}
use Rattle.theory.specs.Group.{GroupOn, power, Period}
use Rattle.theory.proofs.GroupLaws.{power_closed, power_add, power_mul}
use Rattle.theory_radix.specs.Radix.{project}
use Rattle.theory_products.specs.Product.{Part, pair, product, digit_ranges, factor, Each, none, more, IsGroup}
use Rattle.theory_radix.specs.Divisors.{lcm, lcms}
use Rattle.theory_radix.proofs.RadixLaws.{low, high, low_small, high_small}
use Rattle.theory_products.proofs.ProductLaws.{product_group}
use Rattle.theory_products.proofs.Componentwise.{first_parted, power_parted}
use Rattle.theory_products.proofs.PowerLaws.{power_identity}
use Rattle.theory_radix.proofs.DivisorLaws.{lcm_left, lcm_right, lcm_least, lcm_positive}

-- The powers that are the identity are those by the multiples of the period.
module _ {N : ℕ} {op : ℕ → ℕ → ℕ} {inv : ℕ → ℕ} (G : GroupOn N op inv) {a k : ℕ} (ha : a < N) (P : Period op a k) where
  multiple : (q : ℕ) → power op a (k * q) ≡ 0
  multiple q = power_mul G ha k q ∙ ap (λ x. power op x q) P.returns ∙ power_identity G q

  pub period_returns : (j : ℕ) → k ∣ j → power op a j ≡ 0
  period_returns j d = ap (power op a) (sym (mul-div_cancel' k d)) ∙ multiple (j / k)

  pub period_divides : (j : ℕ) → power op a j ≡ 0 → k ∣ j
  period_divides j e =
      let r = j % k in
      let z : power op a r ≡ 0 =
      cc (power_add G ha (k * (j / k)) r, div-add-mod j k, multiple (j / k), G.left_identity (power_closed G ha r)) in
      ⊎_elim (λ zero. dvd_of_mod-eq-zero k zero) (λ pos. absurd (omega (arith, P.first pos z, mod-lt j P.positive))) (eq-zero-or-pos r)

module _ (p q : Part) (P : IsGroup p) (Q : IsGroup q) {e j k : ℕ} (he : e < p.elements * q.elements)
    (J : Period p.op (e % p.elements) j) (K : Period q.op (e / p.elements) k) where
  powers : (i : ℕ) → power (pair p q).op e i ≡ power p.op (e % p.elements) i + p.elements * power q.op (e / p.elements) i
  powers i = (power_parted first_parted i).at_pair P Q he he

  pub pair_period : Period (pair p q).op e (lcm j k)
  pair_period = record {
    positive = lcm_positive j k J.positive K.positive;
    returns =
        rw (powers (lcm j k), period_returns P.laws l J (lcm j k) (lcm_left j k), period_returns Q.laws h K (lcm j k) (lcm_right j k))
        (omega (arith, mul-zero p.elements));
    first = λ {j = i} pos z.
        let s : power p.op (e % p.elements) i + p.elements * power q.op (e / p.elements) i ≡ 0 = sym (powers i) ∙ z in
        let c = power_closed P.laws l i in
        let x : power p.op (e % p.elements) i ≡ 0 = sym (low c _) ∙ ap (λ y. y % p.elements) s ∙ zero-mod p.elements in
        let y : power q.op (e / p.elements) i ≡ 0 = sym (high c _) ∙ ap (λ y. y / p.elements) s ∙ zero-div p.elements in
        le_of_dvd pos (lcm_least j k J.positive i (period_divides P.laws l J i x) (period_divides Q.laws h K i y));
  } where
    l : e % p.elements < p.elements
    l = low_small p.elements q.elements e he

    h : e / p.elements < q.elements
    h = high_small p.elements q.elements e he

pub product_period : {ps : List Part} → Each IsGroup ps → (e : ℕ) (k : ℕ → ℕ) → e < (product ps).elements
    → ((f : ℕ) → f < length ps → Period (factor ps f).op (project (digit_ranges ps) f e) (k f)) → Period (product ps).op e (lcms (length ps) k)
product_period none e k he K = record { positive = omega arith; returns = refl; first = λ pos z. pos }
product_period (more {p} {ps} P Ps) e k he K =
    pair_period p (product ps) P (product_group Ps) he (simp div-one at (K zero (omega arith)))
    (product_period Ps (e / p.elements) (λ f. k (suc f)) (high_small p.elements (product ps).elements e he)
    (λ f h. simp (← div-div-eq-div-mul) at (K (suc f) (omega arith))))
