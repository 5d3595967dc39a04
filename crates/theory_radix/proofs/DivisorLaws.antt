-- What is used of the greatest common divisor and the least common multiple.
use mathlib.Core.Path.{◌≡◌, sym, ◌∙◌, ap}
use Prim.Native.Nat.{ℕ, zero, suc, ◌+◌, ◌*◌, ◌/◌, ◌%◌, ◌<◌, ◌≤◌, ◌∣◌}
use native.Mathlib.Nat.{le_refl, mod-lt, dvd_refl, dvd-zero, dvd-mod_iff, dvd-mul_left, dvd-mul_right, dvd-mul_right_of_dvd, dvd-add_iff_right}
use native.Mathlib.Nat.{dvd_of_mul-dvd-mul_left, mul-dvd-mul_left, mul-dvd-mul_right, mul-div_cancel', div-mul_cancel, pos_of_dvd_of_pos}
use native.Mathlib.Nat.{div-add-mod, mul-add, mul_assoc, mul_comm, mul-pos}
use native.Mathlib.Omega.{arith}
use Rattle.theory_radix.specs.Divisors.{euclid, gcd, lcm}

-- A remainder is less than what it is a remainder by.
left_over : (fuel a b : ℕ) → suc b ≤ suc fuel → a % suc b ≤ fuel
left_over fuel a b h = omega (arith, mod-lt a {m = suc b} (omega arith))

euclid_divides : (fuel a b : ℕ) → b ≤ fuel → (euclid fuel a b ∣ a) × (euclid fuel a b ∣ b)
euclid_divides zero a zero h = (dvd_refl a, dvd-zero a)
euclid_divides zero a (suc b) h = absurd (omega arith)
euclid_divides (suc fuel) a zero h = (dvd_refl a, dvd-zero a)
euclid_divides (suc fuel) a (suc b) h =
    let (x, y) = euclid_divides fuel (suc b) (a % suc b) (left_over fuel a b h) in
    ((dvd-mod_iff (euclid fuel (suc b) (a % suc b)) x).0 y, x)

-- What divides m·a and m·b divides m times the greatest common divisor.
euclid_greatest : (fuel a b c m : ℕ) → b ≤ fuel → c ∣ m * a → c ∣ m * b → c ∣ m * euclid fuel a b
euclid_greatest zero a b c m h x y = x
euclid_greatest (suc fuel) a zero c m h x y = x
euclid_greatest (suc fuel) a (suc b) c m h x y =
    let q = a / suc b in
    let r = a % suc b in
    let z : m * suc b * q + m * r ≡ m * a = rw (mul_assoc m (suc b) q, ← mul-add m (suc b * q) r, div-add-mod a (suc b)) in
    euclid_greatest fuel (suc b) r c m (left_over fuel a b h) y
    ((dvd-add_iff_right c {m = m * suc b * q} {n = m * r} (dvd-mul_right_of_dvd c y q)).1 (rw z x))

module _ (a b : ℕ) where
  pub gcd_left : gcd a b ∣ a
  gcd_left = (euclid_divides b a b (le_refl b)).0

  pub gcd_right : gcd a b ∣ b
  gcd_right = (euclid_divides b a b (le_refl b)).1

  pub gcd_greatest : (c m : ℕ) → c ∣ m * a → c ∣ m * b → c ∣ m * gcd a b
  gcd_greatest c m x y = euclid_greatest b a b c m (le_refl b) x y

  gcd_lcm : gcd a b * lcm a b ≡ a * b
  gcd_lcm = sym (mul_assoc (gcd a b) (a / gcd a b) b) ∙ ap (λ x. x * b) (mul-div_cancel' (gcd a b) gcd_left)

  pub lcm_right : b ∣ lcm a b
  lcm_right = dvd-mul_left b (a / gcd a b)

  pub lcm_left : a ∣ lcm a b
  lcm_left =
      let z : a * (b / gcd a b) ≡ lcm a b =
      ap (λ x. x * (b / gcd a b)) (sym (div-mul_cancel (gcd a b) gcd_left))
      ∙ mul_assoc (a / gcd a b) (gcd a b) (b / gcd a b) ∙ ap (λ x. a / gcd a b * x) (mul-div_cancel' (gcd a b) gcd_right) in
      rw z at (dvd-mul_right a (b / gcd a b))

  module _ (ha : 0 < a) where
    pub lcm_least : (m : ℕ) → a ∣ m → b ∣ m → lcm a b ∣ m
    lcm_least m x y =
        let g = gcd a b in
        let ma : a * b ∣ m * a = rw (mul_comm m a) (mul-dvd-mul_left b a y) in
        let mg : a * b ∣ m * g = gcd_greatest (a * b) m ma (mul-dvd-mul_right a x b) in
        dvd_of_mul-dvd-mul_left {k = g} (lcm a b) (pos_of_dvd_of_pos gcd_left ha) (rw (gcd_lcm, mul_comm g m) mg)

    pub lcm_positive : 0 < b → 0 < lcm a b
    lcm_positive hb = pos_of_dvd_of_pos (lcm_least (a * b) (dvd-mul_right a b) (dvd-mul_left b a)) (mul-pos ha hb)
