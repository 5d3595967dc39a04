-- What is used of groups on 0 .. N-1.
use mathlib.Core.Path.{◌≡◌, refl, sym, ◌∙◌, ap}
use Prim.Native.Nat.{ℕ, zero, suc, ◌+◌, ◌*◌, ◌/◌, ◌%◌, ◌<◌}
use native.Mathlib.Nat.{add-zero, add-suc, mul-zero, mul-suc}
use native.Mathlib.Omega.{arith}
use lib.IntN.{ℤ, pos, negsuc, suc_ℤ}
use Rattle.theory.specs.Group.{GroupOn, power, integer_power}

module _ {N : ℕ} {op : ℕ → ℕ → ℕ} {inv : ℕ → ℕ} (G : GroupOn N op inv) where
  pub cancel_left : {a b x : ℕ} → a < N → b < N → x < N → op x a ≡ op x b → a ≡ b
  cancel_left a b x e =
      let y = G.inv_closed x in
      cc (G.left_identity a, G.left_identity b, G.left_inverse x, G.assoc y x a, G.assoc y x b)

  pub cancel_right : {a b x : ℕ} → a < N → b < N → x < N → op a x ≡ op b x → a ≡ b
  cancel_right a b x e =
      let y = G.inv_closed x in
      cc (G.right_identity a, G.right_identity b, G.right_inverse x, G.assoc a x y, G.assoc b x y)

  pub inverse_unique : {a b : ℕ} → a < N → b < N → op b a ≡ 0 → b ≡ inv a
  inverse_unique a b e = cancel_right b (G.inv_closed a) a (cc (G.left_inverse a))

  pub inv_inv : {a : ℕ} → a < N → inv (inv a) ≡ a
  inv_inv a = cc (inverse_unique (G.inv_closed a) a (G.right_inverse a))

  pub power_closed : {a : ℕ} → a < N → (k : ℕ) → power op a k < N
  power_closed a zero = G.identity
  power_closed a (suc k) = G.op_closed (power_closed a k) a

  pub power_add : {a : ℕ} → a < N → (j k : ℕ) → power op a (j + k) ≡ op (power op a j) (power op a k)
  power_add a j zero = rw (add-zero j) (sym (G.right_identity (power_closed a j)))
  power_add a j (suc k) = rw (add-suc j k) (cc (power_add a j k, G.assoc (power_closed a j) (power_closed a k) a))

  -- Powers by halving.
  pub power_even : {a : ℕ} → a < N → (k : ℕ) → k % 2 ≡ 0 → power op a k ≡ op (power op a (k / 2)) (power op a (k / 2))
  power_even {a} ha k h = let q : k ≡ k / 2 + k / 2 = omega arith in ap (power op a) q ∙ power_add ha (k / 2) (k / 2)

  pub power_odd : {a : ℕ} → a < N → (k : ℕ) → k % 2 ≡ 1 → power op a k ≡ op (op (power op a (k / 2)) (power op a (k / 2))) a
  power_odd {a} ha k h = let q : k ≡ suc (k / 2 + k / 2) = omega arith in ap (power op a) q ∙ ap (λ x. op x a) (power_add ha (k / 2) (k / 2))

  pub power_mul : {a : ℕ} → a < N → (j k : ℕ) → power op a (j * k) ≡ power op (power op a j) k
  power_mul a j zero = rw (mul-zero j)
  power_mul a j (suc k) = rw (mul-suc j k) (cc (power_add a (j * k) j, power_mul a j k))

  -- One factor taken back.
  power_back : {a p : ℕ} → a < N → p < N → op (op p (inv a)) a ≡ p
  power_back a p = cc (G.assoc p (G.inv_closed a) a, G.left_inverse a, G.right_identity p)

  -- The integer power is the textbook's: a^0 is the identity by definition, and a^(z+1) is a^z·a for every integer z.
  pub integer_power_suc : {a : ℕ} → a < N → (z : ℤ) → integer_power op inv a (suc_ℤ z) ≡ op (integer_power op inv a z) a
  integer_power_suc a (pos k) = refl
  integer_power_suc a (negsuc zero) = sym (power_back a G.identity)
  integer_power_suc a (negsuc (suc k)) = sym (power_back a (power_closed (G.inv_closed a) (suc k)))
