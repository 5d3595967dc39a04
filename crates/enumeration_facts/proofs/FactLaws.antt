-- Laws of the facts and the rows that they wake: one for each way that a branch or a turn of a loop goes, over plain values, so that a proof only hands over what its calls ensure.
use Prim.Native.Nat.{ℕ, zero, suc, ◌+◌, ◌-◌}
use mathlib.Core.Path.{◌≡◌, refl}
use mathlib.Core.List.{List}
use borrow.Author.Tests.{eq-eqb, ne_eqb}
use native.Mathlib.Omega.{arith}
use lib.ListN.{get_or}
use Rattle.egg.specs.Table.{put_at}
use Rattle.enumeration_rows.specs.declared.inner.SideOfGap.TheVariants.{Left, Right}
use Rattle.enumeration_wake.specs.Waking.{State, state, below_at, wakes_all}
use Rattle.enumeration_facts.specs.Facts.{emptied, updated, settle_from}

pub emptied_by : (w : List ℕ) (place : ℕ) {w₁ w₂ w₃ w₄ w₅ w₆ w₇ : List ℕ} → w₁ ≡ put_at w place 0 → w₂ ≡ put_at w₁ (place + 1) 0
    → w₃ ≡ put_at w₂ (place + 2) 0 → w₄ ≡ put_at w₃ (place + 3) 0 → w₅ ≡ put_at w₄ (place + 4) 0
    → w₆ ≡ put_at w₅ (place + 5) 0 → w₇ ≡ put_at w₆ (place + 6) 0 → w₇ ≡ emptied w place
unfolding emptied
emptied_by w place a b c d e f g = cc

module _ (n : ℕ) (t w : List ℕ) (top : ℕ) where
  pub updated_by : {w₁ : List ℕ} {lefts lcount rights rcount : ℕ} {s₁ s₂ : State} (place : ℕ) → lefts ≡ get_or w place 0
      → lcount ≡ get_or w (place + 2) 0 → rights ≡ get_or w (place + 3) 0 → rcount ≡ get_or w (place + 5) 0 → w₁ ≡ emptied w place
      → s₁ ≡ wakes_all lcount n lefts Left (state t w₁ top) → s₂ ≡ wakes_all rcount n rights Right s₁
      → s₂ ≡ updated n place (state t w top)
  unfolding updated
  updated_by place a b c d e f g = cc

-- The loop over facts: at most `k` are left.
module _ (n : ℕ) (s : State) where
  pub settle_step : (k : ℕ) → (s.top ≡ 0 → ⊥) → (k ≡ 0 → ⊥)
      → settle_from k n s
      ≡ settle_from (k - 1) n (updated n (s.top - 1) (state s.table s.work (get_or s.work (below_at (s.top - 1)) 0)))
  unfolding settle_from
  settle_step zero h p = absurd (p refl)
  settle_step (suc k) h p = let q : suc k - 1 ≡ k = omega arith in rw q (simp (ne_eqb _ _ h))

  pub settle_end : (k : ℕ) → s.top ≡ 0 → settle_from k n s ≡ s
  unfolding settle_from
  settle_end zero h = refl
  settle_end (suc k) h = simp (eq-eqb _ _ h)

  pub settle_spent : (k : ℕ) → k ≡ 0 → settle_from k n s ≡ s
  unfolding settle_from
  settle_spent k h = rw h

module _ (n : ℕ) (t w : List ℕ) (top : ℕ) where
  pub settle_turn : {s₁ : State} {below : ℕ} (k : ℕ) → (top ≡ 0 → ⊥) → (k ≡ 0 → ⊥) → below ≡ get_or w (below_at (top - 1)) 0
      → s₁ ≡ updated n (top - 1) (state t w below) → settle_from (k - 1) n s₁ ≡ settle_from k n (state t w top)
  settle_turn k h p a b = cc (settle_step n (state t w top) k h p)
