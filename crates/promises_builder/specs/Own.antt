-- This file defines what a builder's rows say, in the words of a reading of composed numbers.
use Rattle.egg.specs.Refusals.{refusal_paper}
use Rattle.std.specs.Prelude.{ℕ, suc, ◌*◌, ◌-◌, ◌≤◌, ◌<◌, List, map, ltb, replicate}
use Rattle.egg.specs.declared.Refusal.{Refusal}
use Rattle.egg.specs.declared.Factor.{Factor}
use Rattle.egg.specs.Table.{pick}
use Rattle.egg.specs.Factor.{stretch}
use Rattle.egg.specs.Answers.{numbered}
use Rattle.builder_rereading.specs.Own.{stored_at, copied}

-- What stands for the step from e by g of a builder: one more than its number, or 0 where it is missing.
abbrev pub own_at : List ℕ → Factor → ℕ → ℕ → ℕ
own_at t f = stored_at (stretch t f) f.generators

-- The number that is read: a missing step is passed over, as one to the identity would be, which is known from the start; what is no element's number lies
-- beyond every count.
abbrev pub own_number : ℕ → (ℕ → ℕ → ℕ) → ℕ → ℕ → ℕ
own_number N own e g = pick (ltb N (own e g)) (suc N) (own e g - 1)

-- Where such a reading skips ahead to a number that is no element's, the builder's own is refused by 17; else both are refused alike.
abbrev pub own_refusal : ℕ → Refusal → Refusal
own_refusal N r = pick (ltb N (refusal_paper r).c) (numbered 17 0 0 0) r

-- The builder's rows as a list of composed numbers: "A composed list needs Rn entries."
unfoldable pub own_rows : List ℕ → Factor → List ℕ
own_rows t f = map (λ x. x - 1) (copied f.elements (stretch t f) f.generators 0 (replicate (f.room * f.generators) 0))

-- Every step of the builder is there and leads to one of its elements.
pub record Filled (t : List ℕ) (f : Factor) : Type 0 where
  pub there : {e g : ℕ} → e < f.elements → g < f.generators → 0 < own_at t f e g
  pub inside : {e g : ℕ} → e < f.elements → g < f.generators → own_at t f e g ≤ f.elements
