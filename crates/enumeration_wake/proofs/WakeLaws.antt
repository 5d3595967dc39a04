-- Laws of a new step and the rows that it wakes: one for each way that a branch or a turn of a loop goes, over plain values, so that a proof only hands over what its calls ensure.
use Rattle.std.proofs.Common.{◌≡◌, ℕ, zero, suc, ◌+◌, ◌-◌, ◌≤◌, true, false, List, get_or, refl, ap, ◌∙◌, suc-le-suc, zero-le, arith, eq-eqb, ne_eqb}
use Rattle.egg.specs.declared.GroupElementId.{GroupElementId}
use Rattle.egg.specs.declared.GeneratorId.{GeneratorId}
use Rattle.egg.specs.Table.{put_at}
use Rattle.build_reading.specs.Build.{is_new, set_step}
use Rattle.enumeration_rows.specs.declared.inner.RelationTableRow.{RelationTableRow}
use Rattle.enumeration_rows.specs.declared.inner.SideOfGap.{SideOfGap}
use Rattle.enumeration_rows.specs.Rows.{place_at, gen_of, stored_row, waits}
use Rattle.enumeration_fill.specs.Fill.{filled}
use Rattle.enumeration_wake.specs.Waking.{State, state, link, below_at, learns, gives, woken, wakes, wakes_all}

-- A number that is not 0 is at least 1.
pub pos : (x : ℕ) → (x ≡ 0 → ⊥) → 1 ≤ x
pos zero h = absurd (h refl)
pos (suc x) h = suc-le-suc zero-le

module _ (n : ℕ) (e : GroupElementId) (g : GeneratorId) (r : GroupElementId) (t w : List ℕ) (top : ℕ) where
  pub learns_new : is_new t n e g ≡ true
      → learns n e g r (state t w top) ≡ state (set_step t n e g r) (put_at w (below_at (place_at n e g)) top) (link n e g)
  unfolding learns
  learns_new h = rw h

  pub learns_old : is_new t n e g ≡ false → learns n e g r (state t w top) ≡ state (set_step t n e g r) w top
  unfolding learns
  learns_old h = rw h

module _ (n at : ℕ) (side : SideOfGap) (s : State) where
  module _ (r : RelationTableRow) where
    pub woken_met : r.left ≡ r.right → woken n at side r s ≡ gives n r s
    unfolding woken
    woken_met h = simp (eq-eqb _ _ h)

    pub woken_waits : (r.left ≡ r.right → ⊥) → woken n at side r s ≡ state s.table (waits s.work n at r side) s.top
    unfolding woken
    woken_waits h = simp (ne_eqb _ _ h)

    pub woken_table : {s₁ : State} → (r.left ≡ r.right → ⊥) → s₁ ≡ woken n at side r s → s₁.table ≡ s.table
    woken_table h q = ap (λ (x : State). x.table) (q ∙ woken_waits h)

    pub wake_met : {g : GeneratorId} {s₁ s₂ : State} → r.left ≡ r.right → g ≡ gen_of r.pair r.left → s₁ ≡ learns n r.from g r.to s
        → s₂ ≡ learns n r.to g r.from s₁ → s₂ ≡ woken n at side r s
    wake_met h c d e = cc (woken_met h)

    pub wake_waits : {w₁ : List ℕ} → (r.left ≡ r.right → ⊥) → w₁ ≡ waits s.work n at r side → state s.table w₁ s.top ≡ woken n at side r s
    wake_waits h c = cc (woken_waits h)

    pub wakes_by : {row : RelationTableRow} {s₁ : State} → row ≡ stored_row s.work at → r ≡ filled s.table n row → s₁ ≡ woken n at side r s
        → s₁ ≡ wakes n at side s
    unfolding wakes
    wakes_by a b c = cc

  -- The loop over a list: `k` copies are left, from the link `at` on.
  pub wake_step : (k : ℕ) → (k ≡ 0 → ⊥) → (at ≡ 0 → ⊥)
      → wakes_all k n at side s ≡ wakes_all (k - 1) n (get_or s.work (at - 1 + 5) 0) side (wakes n (at - 1) side s)
  unfolding wakes_all
  wake_step zero p h = absurd (p refl)
  wake_step (suc k) p h = let q : suc k - 1 ≡ k = omega arith in rw q (simp (ne_eqb _ _ h))

  pub wake_turn : {s₁ : State} {next : ℕ} (k : ℕ) → (k ≡ 0 → ⊥) → (at ≡ 0 → ⊥) → next ≡ get_or s.work (at - 1 + 5) 0
      → s₁ ≡ wakes n (at - 1) side s → wakes_all (k - 1) n next side s₁ ≡ wakes_all k n at side s
  wake_turn k p h a b = cc (wake_step k p h)

  pub wake_end : (k : ℕ) → at ≡ 0 → wakes_all k n at side s ≡ s
  unfolding wakes_all
  wake_end zero h = refl
  wake_end (suc k) h = simp (eq-eqb _ _ h)

  pub wake_spent : (k : ℕ) → k ≡ 0 → wakes_all k n at side s ≡ s
  unfolding wakes_all
  wake_spent k h = rw h
