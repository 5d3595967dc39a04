-- Laws of the number of elements as far as 32 bits can tell.
use Prim.Native.Nat.{ℕ, zero, suc, ◌+◌, ◌*◌, ◌≤◌, ◌<◌}
use mathlib.Core.Path.{◌≡◌, refl, sym, ap, ◌∙◌}
use mathlib.Core.Bool.{Bool, true, false}
use mathlib.Core.List.{List, [], ◌∷◌}
use native.Mathlib.Nat.{mul_assoc, mul-le-mul, mul-zero, mul-one, one-mul}
use native.Mathlib.Omega.{arith}
use borrow.Author.Tests.{le-leb, lt-leb, leb-true, leb-false}
use lib.ListN.{drop}
use lib.Dec.{leb}
use Rattle.egg.specs.declared.Factor.{Factor}
use Rattle.group_handles.specs.Handles.{elements_of, capped}

pub cap_small : {n : ℕ} → n ≤ 4294967295 → capped n ≡ n
unfolding capped
cap_small h = simp (le-leb _ _ h)

pub cap_large : {n : ℕ} → 4294967295 < n → capped n ≡ 4294967296
unfolding capped
cap_large h = simp (lt-leb _ _ h)

-- A cap on the way makes no difference.
pub cap_times : (x y : ℕ) → capped (capped x * y) ≡ capped (x * y)
cap_times x y = by (leb x 4294967295) refl where
  more : 4294967295 < x → (z : ℕ) → y ≡ z → capped (4294967296 * y) ≡ capped (x * y)
  more h zero e = rw (e, mul-zero x, mul-zero 4294967296)
  more h (suc z) e =
      let p : 1 ≤ y = omega arith in
      let u : 4294967295 < 4294967296 * y = omega arith in
      let v : 4294967295 < x * y = omega (arith, mul-le-mul h p) in
      cap_large u ∙ sym (cap_large v)

  by : (b : Bool) → leb x 4294967295 ≡ b → capped (capped x * y) ≡ capped (x * y)
  by true e = rw (cap_small (leb-true x 4294967295 e))
  by false e = let h : 4294967295 < x = leb-false x 4294967295 e in rw (cap_large h) (more h y refl)

pub capped_bound : (n : ℕ) → capped n ≤ 4294967296
capped_bound n = by (leb n 4294967295) refl where
  by : (b : Bool) → leb n 4294967295 ≡ b → capped n ≤ 4294967296
  by true e = let h : n ≤ 4294967295 = leb-true n 4294967295 e in rw (cap_small h) (omega arith)
  by false e = let h : 4294967295 < n = leb-false n 4294967295 e in rw (cap_large h) (omega arith)

-- A number of 32 bits cannot tell the two apart.
pub cap_beyond : (n a : ℕ) → a < 4294967296 → leb (capped n) a ≡ leb n a
cap_beyond n a h = by (leb n 4294967295) refl where
  by : (b : Bool) → leb n 4294967295 ≡ b → leb (capped n) a ≡ leb n a
  by true e = rw (cap_small (leb-true n 4294967295 e))
  by false e =
      let k : 4294967295 < n = leb-false n 4294967295 e in
      let l : a < n = omega arith in
      rw (cap_large k) (simp (lt-leb _ _ h, lt-leb _ _ l))

pub cap_within : (n : ℕ) {r : ℕ} → r ≡ capped n → leb r 4294967295 ≡ leb n 4294967295
cap_within n {r} q = q_by (leb n 4294967295) refl where
  q_by : (b : Bool) → leb n 4294967295 ≡ b → leb r 4294967295 ≡ leb n 4294967295
  q_by true e = rw (q, cap_small (leb-true n 4294967295 e))
  q_by false e =
      let k : 4294967295 < n = leb-false n 4294967295 e in
      rw (q, cap_large k, e)

-- The loop.
pub record Capping (hs : List Factor) (f p : ℕ) : Type 0 where
  pub small : p ≤ 4294967296
  pub same : capped (p * elements_of (drop f hs)) ≡ capped (elements_of hs)

pub capping : (hs : List Factor) → Capping hs 0 1
capping hs =
    record { small = omega arith; same = ap capped (one-mul (elements_of hs)) }

pub caps_on : {hs : List Factor} {f p : ℕ} {h : Factor} {r : ℕ} → Capping hs f p → drop f hs ≡ h ∷ drop (f + 1) hs → r ≡ capped (p * h.elements)
    → Capping hs (f + 1) r
caps_on {hs} {f} {p} {h} {r} c d q = record {
  small = rw q (capped_bound (p * h.elements));
  same =
      let m : ℕ = elements_of (drop (f + 1) hs) in
      rw q (cap_times (p * h.elements) m ∙ ap capped (mul_assoc p h.elements m)
      ∙ ap (λ (l : List Factor). capped (p * elements_of l)) (sym d) ∙ c.same);
}

pub caps_end : {hs : List Factor} {f p : ℕ} → Capping hs f p → drop f hs ≡ [] → p ≡ capped (elements_of hs)
caps_end {hs} {f} {p} c d =
    let z : capped (p * 1) ≡ capped (elements_of hs) = ap (λ (l : List Factor). capped (p * elements_of l)) (sym d) ∙ c.same in
    let w : p * 1 ≡ p = mul-one p in
    by (leb p 4294967295) refl (ap capped (sym w) ∙ z)
  where
    by : (b : Bool) → leb p 4294967295 ≡ b → capped p ≡ capped (elements_of hs) → p ≡ capped (elements_of hs)
    by true e x = sym (cap_small (leb-true p 4294967295 e)) ∙ x
    by false e x =
        let k : 4294967295 < p = leb-false p 4294967295 e in
        let y : p ≡ 4294967296 = omega (arith, c.small) in
        y ∙ sym (cap_large k) ∙ x
