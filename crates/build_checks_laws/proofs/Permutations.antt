-- A map of 0 .. N-1 into itself that takes no value twice takes every value; so what undoes it on one side undoes it on the other.
use Prim.Native.Nat.{ℕ, zero, suc, ◌-◌, ◌≤◌, ◌<◌}
use mathlib.Core.Path.{◌≡◌, sym, ap, ◌∙◌}
use native.Mathlib.Decide.{dec_lt, ℕ_discrete}
use native.Mathlib.Omega.{arith}
use borrow.Author.Tests.{lt-ltb, le-ltb}
use lib.Dec.{ltb}
use Rattle.egg.specs.Table.{pick}

-- The numbers other than v, with the gap closed.
abbrev squeeze : ℕ → ℕ → ℕ
squeeze v a = pick (ltb v a) (a - 1) a

data Squeezed (v a : ℕ) : Type 0 where
  above : v < a → suc (squeeze v a) ≡ a → Squeezed v a
  below : a < v → squeeze v a ≡ a → Squeezed v a

squeezed : (v a : ℕ) → (a ≡ v → ⊥) → Squeezed v a
squeezed v a d = go (dec_lt v a) where
  go : Dec (v < a) → Squeezed v a
  go (yes h) = above h (simp (lt-ltb _ _ h) (omega arith))
  go (no h) = below (omega arith) (simp (le-ltb v a (omega arith)))

squeeze_small : (v a m : ℕ) → (a ≡ v → ⊥) → v ≤ m → a ≤ m → squeeze v a < m
squeeze_small v a m d hv ha = go (squeezed v a d) where
  go : Squeezed v a → squeeze v a < m
  go (above h e) = omega arith
  go (below h e) = omega arith

squeeze_injective : (v a c : ℕ) → (a ≡ v → ⊥) → (c ≡ v → ⊥) → squeeze v a ≡ squeeze v c → a ≡ c
squeeze_injective v a c da dc q = go (squeezed v a da) (squeezed v c dc) where
  go : Squeezed v a → Squeezed v c → a ≡ c
  go (above h e) (above k f) = omega arith
  go (above h e) (below k f) = omega arith
  go (below h e) (above k f) = omega arith
  go (below h e) (below k f) = omega arith

pub onto : (N : ℕ) (b : ℕ → ℕ) → ((x : ℕ) → x < N → b x < N) → ((x y : ℕ) → x < N → y < N → b x ≡ b y → x ≡ y)
    → (y : ℕ) → y < N → (x : ℕ) × (x < N) × (b x ≡ y)
onto zero b closed once y hy = absurd (omega arith)
onto (suc m) b closed once y hy =
    let v = b m in
    let last : m < suc m = omega arith in
    let apart : (x : ℕ) → x < m → b x ≡ v → ⊥ = λ x h e. let q = once x m (omega arith) last e in omega arith in
    go (ℕ_discrete v y) (λ d.
    let r = onto m (λ x. squeeze v (b x))
    (λ x h. squeeze_small v (b x) m (apart x h) (omega (arith, closed m last)) (omega (arith, closed x (omega arith))))
    (λ x z h k e. once x z (omega arith) (omega arith) (squeeze_injective v (b x) (b z) (apart x h) (apart z k) e))
    (squeeze v y) (squeeze_small v y m (λ e. d (sym e)) (omega (arith, closed m last)) (omega arith)) in
    (r.0, omega (arith, r.1), squeeze_injective v (b r.0) y (apart r.0 r.1) (λ e. d (sym e)) r.2))
  where
    go : Dec (b m ≡ y) → ((b m ≡ y → ⊥) → (x : ℕ) × (x < suc m) × (b x ≡ y)) → (x : ℕ) × (x < suc m) × (b x ≡ y)
    go (yes e) other = (m, omega arith, e)
    go (no d) other = other d

-- What is undone on one side is undone on the other.
pub two_sided : (N : ℕ) (f b : ℕ → ℕ) → ((x : ℕ) → x < N → b x < N) → ((x : ℕ) → x < N → f (b x) ≡ x) → (y : ℕ) → y < N → b (f y) ≡ y
two_sided N f b closed undo y hy =
    let r = onto N b closed (λ x z hx hz e. sym (undo x hx) ∙ ap f e ∙ undo z hz) y hy in
    cc (r.2, undo r.0 r.1)
