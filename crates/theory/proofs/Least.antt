-- Of finitely many values of a function one is the least.
use Prim.Native.Nat.{ℕ, zero, suc, ◌<◌, ◌≤◌}
use mathlib.Core.Path.{◌≡◌}
use mathlib.Core.Logic.{⊎_elim}
use native.Mathlib.Decide.{dec_lt}
use native.Mathlib.Omega.{arith}
use Rattle.theory.proofs.BoundedTests.{below_suc}

-- The place of the least of the first so many values.
pub record Least (f : ℕ → ℕ) (limit : ℕ) : Type 0 where
  pub place : ℕ
  pub inside : place < limit
  pub least : (i : ℕ) → i < limit → f place ≤ f i

pub least_of : (f : ℕ → ℕ) (limit : ℕ) → Least f (suc limit)
least_of f zero = record { place = 0; inside = omega arith; least = λ i h. let q : i ≡ 0 = omega arith in rw q (omega arith) }
least_of f (suc limit) = by (least_of f limit) where
  by : Least f (suc limit) → Least f (suc (suc limit))
  by l = go (dec_lt (f (suc limit)) (f l.place)) where
    go : Dec (f (suc limit) < f l.place) → Least f (suc (suc limit))
    go (yes d) = record {
      place = suc limit;
      inside = omega arith;
      least = λ i h. ⊎_elim (λ q. rw q (omega arith)) (λ b. omega (arith, l.least i b)) (below_suc h);
    }
    go (no d) = record {
      place = l.place;
      inside = omega (arith, l.inside);
      least = λ i h. ⊎_elim (λ q. rw q (omega arith)) (λ b. l.least i b) (below_suc h);
    }
