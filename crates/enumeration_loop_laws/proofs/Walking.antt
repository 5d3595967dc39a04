-- A walk in the table that goes all its way follows the loop, and all its steps are known.
use Prim.Native.Nat.{ℕ, zero, suc, ◌+◌, ◌-◌, ◌<◌}
use mathlib.Core.Path.{◌≡◌, refl}
use mathlib.Core.Bool.{Bool, true, false}
use mathlib.Core.List.{List}
use native.Mathlib.Omega.{arith}
use borrow.Author.Tests.{eqb-false}
use lib.ListN.{get_or}
use lib.Dec.{eqb}
use Rattle.egg.specs.Table.{pick, start_of}
use Rattle.enumeration_fill.specs.Walk.{walk_of, walk_from}
use Rattle.enumeration_run_laws.specs.Invariant.{StepKnown}
use Rattle.enumeration_loop_laws.proofs.Turns.{turn_other}
use Rattle.enumeration_loop_laws.specs.Rings.{turn, ring}

-- After the first letter the letters come in turn from the second, and so do the elements.
turn_suc : (a b j : ℕ) → turn a b (suc j) ≡ turn b a j
turn_suc a b j = turn_other a b (suc j) j refl

pub ring_suc : (step : ℕ → ℕ → ℕ) (a b u j : ℕ) → ring step a b u (suc j) ≡ ring step b a (step u a) j
ring_suc step a b u zero = refl
ring_suc step a b u (suc j) = rw (← ring_suc step a b u j, ← turn_suc a b j)

-- Along a loop whose steps the table has rightly where it knows them.
module _ {n : ℕ} (t : List ℕ) {step : ℕ → ℕ → ℕ} (right : (e g : ℕ) → g < n → StepKnown n t e g → get_or t (start_of n e + g) 0 ≡ suc (step e g)) where
  pub walk_ring : (j x a b : ℕ) → a < n → b < n → (walk_from j t n x a b).left ≡ 0
      → ((walk_from j t n x a b).element.0 ≡ ring step a b x j) × ((i : ℕ) → i < j → StepKnown n t (ring step a b x i) (turn a b i))
  unfolding walk_from
  walk_ring zero x a b ha hb z = (refl, λ i h. absurd (omega arith))
  walk_ring (suc j) x a b ha hb z = by (eqb (get_or t (start_of n x + a) 0) 0) refl (walk_ring j (step x a) b a hb ha) z where
    by : (s : Bool) → eqb (get_or t (start_of n x + a) 0) 0 ≡ s
        → ((walk_from j t n (step x a) b a).left ≡ 0
        → ((walk_from j t n (step x a) b a).element.0 ≡ ring step b a (step x a) j) × ((i : ℕ) → i < j → StepKnown n t (ring step b a (step x a) i) (turn b a i)))
        → (pick s (walk_of x (suc j)) (walk_from j t n (get_or t (start_of n x + a) 0 - 1) b a)).left ≡ 0
        → ((pick s (walk_of x (suc j)) (walk_from j t n (get_or t (start_of n x + a) 0 - 1) b a)).element.0 ≡ ring step a b x (suc j))
        × ((i : ℕ) → i < suc j → StepKnown n t (ring step a b x i) (turn a b i))
    by true q ih e = absurd (omega arith)
    by false q ih e =
        let k : StepKnown n t x a = eqb-false _ _ q in
        let c : get_or t (start_of n x + a) 0 - 1 ≡ step x a = omega (arith, right x a ha k) in
        let r = ih (rw c at e) in
        (rw (c, ring_suc step a b x j) r.0, known k r.1) where
          known : StepKnown n t x a → ((i : ℕ) → i < j → StepKnown n t (ring step b a (step x a) i) (turn b a i)) → (i : ℕ) → i < suc j → StepKnown n t (ring step a b x i) (turn a b i)
          known k rest zero h = k
          known k rest (suc i) h = rw (ring_suc step a b x i, turn_suc a b i) (rest i (omega arith))
