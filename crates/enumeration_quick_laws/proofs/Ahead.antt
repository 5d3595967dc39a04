-- What holds of every place that has been visited, and of the place that is visited now, holds of all places before the next.
use Prim.Native.Nat.{ℕ, suc, ◌+◌, ◌<◌}
use mathlib.Core.Path.{◌≡◌, refl}
use mathlib.Core.Logic.{⊎_elim}
use mathlib.Core.Bool.{Bool, true, false}
use native.Mathlib.Omega.{arith}
use borrow.Author.Tests.{ltb-false}
use lib.Dec.{ltb}
use Rattle.theory.specs.Appearance.{Ahead}
use Rattle.theory.proofs.Places.{ahead_column, ahead_row}
use Rattle.egg.specs.Table.{pick}
use Rattle.enumeration_run.specs.declared.inner.Run.{Run}
use Rattle.enumeration_run.specs.Run.{advanced}

-- P holds of the places before row x and column g.
pub record AllBefore (n : ℕ) (P : ℕ → ℕ → Type 0) (x g : ℕ) : Type 0 where
  pub all : (y h : ℕ) → h < n → Ahead y h x g → P y h

module _ {n : ℕ} (P : ℕ → ℕ → Type 0) where
  before_here : {x g : ℕ} → AllBefore n P x g → P x g → AllBefore n P x (g + 1)
  before_here {x} {g} B p = record {
    all = λ y h hh a.
        let i : g + 1 ≡ suc g = omega arith in
        let b : Ahead y h x (suc g) = rw i at a in
        ⊎_elim (λ q. rw (q.0, q.1) p) (λ b. B.all y h hh b) (ahead_column b);
  }

  before_row : {x : ℕ} → AllBefore n P x n → AllBefore n P (x + 1) 0
  before_row {x} B = record {
    all = λ y h hh a.
        let i : x + 1 ≡ suc x = omega arith in
        let b : Ahead y h (suc x) 0 = rw i at a in
        B.all y h hh (ahead_row hh b);
  }

  -- The places before the next one, too.
  pub before_next : (at : Run) (c : ℕ) → at.generator < n → AllBefore n P at.element at.generator → P at.element at.generator
      → let a = advanced n at c in AllBefore n P a.element a.generator
  unfolding advanced
  before_next at c hg B p = by (ltb (at.generator + 1) n) refl where
    by : (b : Bool) → ltb (at.generator + 1) n ≡ b
        → let a = pick {A = Run} b (record { element = at.element; generator = at.generator + 1; count = c }) (record { element = at.element + 1; generator = 0; count = c }) in
        AllBefore n P a.element a.generator
    by true q = before_here B p
    by false q =
        let i : at.generator + 1 ≡ n = omega (arith, ltb-false (at.generator + 1) n q) in
        before_row (rw i at (before_here B p))
