-- Laws of the egg layer's definitions, for this crate's proofs and for the layers above.
use Prim.Native.Nat.{ℕ, ◌+◌, ◌*◌, ◌-◌, ◌≤◌, ◌<◌}
use mathlib.Core.Path.{◌≡◌, refl, ap, ◌∙◌}
use mathlib.Core.Bool.{Bool, true, false}
use mathlib.Core.List.{List, ◌++◌, append-nil}
use native.Mathlib.Nat.{mul-le-mul, lt_of_le_of_lt, le_of_lt}
use native.Mathlib.Omega.{arith}
use lib.ListN.{length, drop, get_or, replicate}
use lib.Seq.{drop-length, set_out}
use lib.Dec.{ltb, lit<}
use Rattle.egg.specs.Table.{pick, put_at}

-- A list that was filled to its end.
pub cleared : (s s₀ : List ℕ) (i : ℕ) → i ≡ length s₀ → s ≡ replicate i 0 ++ drop i s₀ → s ≡ replicate (length s₀) 0
cleared s s₀ i e h = h ∙ rw (e, drop-length, append-nil)

pub cong1 : {x y : ℕ} → x ≡ y → x ≡ 0 → 0 ≡ y - 1
cong1 e z = omega arith

-- A product of a 32-bit number and a small one is a place.
pub product_small : (a b : ℕ) → a < 4294967296 → b < 524288 → a * b < 4503599627370496
product_small a b ha hb = lt_of_le_of_lt (mul-le-mul (le_of_lt ha) (le_of_lt hb)) (lit< tt)

-- The square in the width of the work, for a byte.
pub square : (n : ℕ) → n < 256 → 6 * n * n ≤ 390150
square n h = mul-le-mul {n₁ = 6 * n} {m₁ = n} {n₂ = 1530} {m₂ = 255} (omega arith) (omega arith)

-- n(n-1) is small, so that it can be halved in 32 bits.
pub pair_product : (n : ℕ) → n < 256 → n * (n - 1) < 4294967296
pair_product n h = let q : n ≤ 255 = omega arith in let p : n - 1 ≤ 255 = omega arith in omega (arith, mul-le-mul q p)

pub pick_same : {A : Type 0} {a b : A} (t : Bool) → a ≡ b → pick t a b ≡ b
pick_same true e = e
pick_same false e = refl

-- A store past the end changes nothing.
pub put_at_out : (l : List ℕ) (i v : ℕ) → length l ≤ i → put_at l i v ≡ l
unfolding put_at
put_at_out l i v h = pick_same (ltb v 4294967296) (set_out l i v h)

-- What was read at a place, by the place's other name.
pub got : (s : List ℕ) {x i j : ℕ} → x ≡ get_or s i 0 → i ≡ j → x ≡ get_or s j 0
got s p q = p ∙ ap (λ (i : ℕ). get_or s i 0) q

pub got_from : (s : List ℕ) (k : ℕ) {x i j : ℕ} → x ≡ get_or s (i + k) 0 → i ≡ j → x ≡ get_or s (j + k) 0
got_from s k p q = p ∙ ap (λ (i : ℕ). get_or s (i + k) 0) q
