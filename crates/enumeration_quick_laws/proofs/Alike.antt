-- A word that is written into two tables leaves alike what was alike; a step that is set leaves the words, and makes no other step known.
use Prim.Native.Nat.{ℕ, ◌+◌, ◌*◌, ◌<◌, ◌≤◌}
use mathlib.Core.Path.{◌≡◌}
use mathlib.Core.Logic.{◌⊎◌, inl, inr}
use mathlib.Core.List.{List}
use native.Mathlib.Decide.{ℕ_discrete}
use native.Mathlib.Omega.{arith}
use lib.ListN.{get_or, length}
use Rattle.egg.specs.declared.GroupElementId.{GroupElementId}
use Rattle.egg.specs.declared.GeneratorId.{GeneratorId}
use Rattle.egg.specs.Table.{start_of}
use Rattle.build_reading.specs.Build.{set_step, set_word}
use Rattle.build_checks_laws.proofs.AnyWork.{AlikeAt, put_alike}
use Rattle.enumeration_run_laws.specs.Invariant.{StepKnown}
use Rattle.enumeration_run_laws.proofs.Since.{set_other}

-- A word that is written into two tables of a length that agree in a cell leaves them so.
pub word_alike : (t q : List ℕ) (n : ℕ) (x e : GroupElementId) (g : GeneratorId) (len j : ℕ) → length t ≡ length q → get_or t j 0 ≡ get_or q j 0
    → get_or (set_word t n x e g len) j 0 ≡ get_or (set_word q n x e g len) j 0
unfolding set_word
word_alike t q n x e g len j long same =
    let alike : AlikeAt j t q = record { there = λ h. omega arith; back = λ h. omega arith; here = same } in
    (put_alike (put_alike (put_alike alike _ e.0) _ g.0) _ len).here

module _ (n : ℕ) (t : List ℕ) (e : GroupElementId) (g : GeneratorId) (r : GroupElementId) (hg : g.0 < n) where
  -- A step leaves the words.
  pub set_rest : (x k : ℕ) → 2 * n ≤ k → k < 2 * n + 4 → get_or (set_step t n e g r) (start_of n x + k) 0 ≡ get_or t (start_of n x + k) 0
  set_rest x k low high = set_other n t e g r hg x k high (λ a b. omega arith) (λ a b. omega arith)

  -- The step that is set is known, and no other that was not known.
  pub set_splits : (x h : ℕ) → h < n → StepKnown n (set_step t n e g r) x h → ((x ≡ e.0) × (h ≡ g.0)) ⊎ StepKnown n t x h
  set_splits x h hh k = by (ℕ_discrete x e.0) (ℕ_discrete h g.0) where
    other : (x ≡ e.0 → h ≡ g.0 → ⊥) → StepKnown n t x h
    other d = let same = set_other n t e g r hg x h (omega arith) d (λ a b. omega arith) in rw same at k

    by : Dec (x ≡ e.0) → Dec (h ≡ g.0) → ((x ≡ e.0) × (h ≡ g.0)) ⊎ StepKnown n t x h
    by (yes a) (yes b) = inl (a, b)
    by (yes a) (no d) = inr (other (λ _ b. d b))
    by (no d) b = inr (other (λ a _. d a))
