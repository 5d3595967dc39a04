-- What is taken factor by factor: every term in the operation, the inverse and the identity.
use mathlib.Core.Path.{◌≡◌, sym}
use Prim.Native.Nat.{ℕ, zero, suc, ◌+◌, ◌*◌, ◌/◌, ◌%◌, ◌<◌}
use native.Mathlib.Nat.{mod-add-div, mul-zero}
use native.Mathlib.Omega.{arith}
use Rattle.theory.specs.Group.{conjugate, power}
use Rattle.theory_products.specs.Product.{Part, pair, IsGroup, Parted}
use Rattle.theory_radix.proofs.RadixLaws.{low, high, low_small}

-- The elements themselves, and the identity.
pub first_parted : Parted (λ p a b. a)
first_parted = record { closed = λ G a b. a; at_pair = λ {p} {q} {a} P Q ha hb. sym (mod-add-div a p.elements) }

pub second_parted : Parted (λ p a b. b)
second_parted = record { closed = λ G a b. b; at_pair = λ {p} {q} {a} {b} P Q ha hb. sym (mod-add-div b p.elements) }

pub identity_parted : Parted (λ p a b. 0)
identity_parted = record { closed = λ G a b. G.laws.identity; at_pair = λ {p} P Q ha hb. omega (arith, mul-zero p.elements) }

module _ {F G : Part → ℕ → ℕ → ℕ} (S : Parted F) (T : Parted G) where
  times_pair : {p q : Part} {a b : ℕ} → IsGroup p → IsGroup q → a < p.elements * q.elements → b < p.elements * q.elements
      → (pair p q).op (F (pair p q) a b) (G (pair p q) a b)
      ≡ p.op (F p (a % p.elements) (b % p.elements)) (G p (a % p.elements) (b % p.elements))
      + p.elements * q.op (F q (a / p.elements) (b / p.elements)) (G q (a / p.elements) (b / p.elements))
  times_pair {p} {q} {a} {b} P Q ha hb =
      let N = p.elements in
      let M = q.elements in
      let a₀ = low_small N M a ha in
      let b₀ = low_small N M b hb in
      let c = S.closed P a₀ b₀ in
      let d = T.closed P a₀ b₀ in
      rw (S.at_pair P Q ha hb, T.at_pair P Q ha hb, low c, high c, low d, high d)

  -- A product of two.
  pub times : Parted (λ p a b. p.op (F p a b) (G p a b))
  times = record { closed = λ P a b. P.laws.op_closed (S.closed P a b) (T.closed P a b); at_pair = λ P Q ha hb. times_pair P Q ha hb }

module _ {F : Part → ℕ → ℕ → ℕ} (S : Parted F) where
  inverse_pair : {p q : Part} {a b : ℕ} → IsGroup p → IsGroup q → a < p.elements * q.elements → b < p.elements * q.elements
      → (pair p q).inv (F (pair p q) a b)
      ≡ p.inv (F p (a % p.elements) (b % p.elements)) + p.elements * q.inv (F q (a / p.elements) (b / p.elements))
  inverse_pair {p} {q} {a} {b} P Q ha hb =
      let N = p.elements in
      let M = q.elements in
      let c = S.closed P (low_small N M a ha) (low_small N M b hb) in
      rw (S.at_pair P Q ha hb, low c, high c)

  pub inverse_of_lem : Parted (λ p a b. p.inv (F p a b))
  inverse_of_lem = record { closed = λ P a b. P.laws.inv_closed (S.closed P a b); at_pair = λ P Q ha hb. inverse_pair P Q ha hb }

-- So every term in the operation, the inverse and the identity is taken factor by factor: conjugates and powers too.
pub op_parted : Parted (λ p. p.op)
op_parted = times first_parted second_parted

pub inv_parted : Parted (λ p a b. p.inv a)
inv_parted = inverse_of_lem first_parted

pub conjugate_parted : Parted (λ p. conjugate p.op p.inv)
conjugate_parted = times (times first_parted second_parted) (inverse_of_lem first_parted)

pub power_parted : {F : Part → ℕ → ℕ → ℕ} → Parted F → (k : ℕ) → Parted (λ p a b. power p.op (F p a b) k)
power_parted S zero = identity_parted
power_parted S (suc k) = times (power_parted S k) S
