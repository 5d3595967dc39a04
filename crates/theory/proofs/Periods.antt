-- Every element of a group on 0 .. N-1 has a period, which is at most N.
use mathlib.Core.Path.{◌≡◌}
use mathlib.Core.Bool.{Bool}
use Prim.Native.Nat.{ℕ, zero, suc, ◌+◌, ◌-◌, ◌<◌, ◌≤◌}
use native.Mathlib.Nat.{le_antisymm}
use native.Mathlib.Omega.{arith}
use lib.Dec.{eqb, eqb→eq}
use Rattle.theory.specs.Bounded.{least}
use Rattle.theory.specs.Group.{GroupOn, power, Period}
use Rattle.theory.proofs.BoundedTests.{eq→eqb, least_holds, least_at_most}
use Rattle.theory.proofs.GroupLaws.{cancel_left, power_closed, power_add}
use Rattle.theory.proofs.Pigeonhole.{Repeats, pigeonhole}

pub period_once : {op : ℕ → ℕ → ℕ} {a j k : ℕ} → Period op a j → Period op a k → j ≡ k
period_once P Q = le_antisymm (P.first Q.positive Q.returns) (Q.first P.positive P.returns)

-- The power by i + 1 is the identity.
abbrev home : (ℕ → ℕ → ℕ) → ℕ → ℕ → Bool
home op a i = eqb (power op a (suc i)) 0

no_sooner : (N : ℕ) (op : ℕ → ℕ → ℕ) (a j : ℕ) → 0 < j → power op a j ≡ 0 → suc (least N (home op a)) ≤ j
no_sooner N op a zero pos e = absurd (omega arith)
no_sooner N op a (suc j) pos e = omega (arith, least_at_most N (home op a) j (eq→eqb e))

module _ {N : ℕ} {op : ℕ → ℕ → ℕ} {inv : ℕ → ℕ} (G : GroupOn N op inv) {a : ℕ} (ha : a < N) where
  -- Of two powers that are equal, the difference is a power that is the identity.
  comes_home : Repeats (power op a) N → (k : ℕ) × (0 < k) × (k ≤ N) × (power op a k ≡ 0)
  comes_home r =
      let k = r.j - r.i in
      let q : r.i + k ≡ r.j = omega (arith, r.ordered) in
      let p = power_closed G ha r.i in
      let e : op (power op a r.i) (power op a k) ≡ op (power op a r.i) 0 = cc (power_add G ha r.i k, q, r.equal, G.right_identity p) in
      (k, omega (arith, r.ordered), omega (arith, r.inside), cancel_left G (power_closed G ha k) G.identity p e)

  pub period_exists : (k : ℕ) × (k ≤ N) × Period op a k
  period_exists =
      let (i, pos, l, e) = comes_home (pigeonhole N (power op a) (λ i _. power_closed G ha i)) in
      let h : suc (least N (home op a)) ≤ i = no_sooner N op a i pos e in (
        suc (least N (home op a)),
        omega arith,
        record {
          positive = omega arith;
          returns = eqb→eq (power op a (suc (least N (home op a)))) 0 (least_holds N (home op a) (omega arith));
          first = λ {j} pos e. no_sooner N op a j pos e;
        },
      )
