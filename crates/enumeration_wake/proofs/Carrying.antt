-- How copies that stand alike are moved on together.
use Rattle.std.proofs.Common.{◌≡◌, ℕ, ◌+◌, ◌-◌, List, get_or, ◌∙◌, arith}
use Rattle.enumeration_rows.specs.declared.inner.RelationTableRow.{RelationTableRow}
use Rattle.enumeration_rows.specs.declared.inner.SideOfGap.{SideOfGap}
use Rattle.enumeration_rows.specs.Rows.{stored_row, write_row, list_at, appended, waits}
use Rattle.enumeration_fill.specs.Alike.{Moves, Alike, forth, backward, moved_alike}
use Rattle.enumeration_fill.proofs.Alike.{moves_alike, moved_list}
use Rattle.enumeration_wake.specs.Waking.{state, wakes, wakes_all}
use Rattle.enumeration_wake.proofs.WakeLaws.{woken_waits, wake_turn}

module _ (t w : List ℕ) (n top : ℕ) (side : SideOfGap) (b a : RelationTableRow) (M : Moves t n b a) where
  -- The ends of a copy that stands alike are still apart.
  apart : (r : RelationTableRow) → Alike r b (forth b a + backward b a) → (moved_alike r b a).left ≡ (moved_alike r b a).right → ⊥
  apart r A h = omega (arith, A.wide)

  -- One copy moved on.
  carried : (at : ℕ) {r : RelationTableRow} → r ≡ stored_row w at → Alike r b (forth b a + backward b a)
      → wakes n at side (state t w top) ≡ state t (appended (write_row w at (moved_alike r b a)) (list_at n a side) at) top
  unfolding wakes waits
  carried at {r} q A =
      rw (← q, moves_alike t n M A)
      (woken_waits n at side (state t w top) (moved_alike r b a) (apart r A) ∙ rw (moved_list t n side M A))

  pub carry_turn : (at k : ℕ) {r : RelationTableRow} {next list : ℕ} {w₁ w₂ : List ℕ} → list ≡ list_at n a side → (k ≡ 0 → ⊥) → (at ≡ 0 → ⊥) → r ≡ stored_row w (at - 1)
      → Alike r b (forth b a + backward b a) → next ≡ get_or w (at - 1 + 5) 0 → w₁ ≡ write_row w (at - 1) (moved_alike r b a)
      → w₂ ≡ appended w₁ list (at - 1) → wakes_all (k - 1) n next side (state t w₂ top) ≡ wakes_all k n at side (state t w top)
  carry_turn at k {r} {next} {list} {w₁} {w₂} l p h q A d e f =
      wake_turn n at side (state t w top) k p h d (cc (l, e, f, carried (at - 1) q A))
