-- One letter of a word undone.
use Prim.Native.Nat.{ℕ, zero, suc, ◌-◌, ◌<◌}
use mathlib.Core.Path.{◌≡◌}
use mathlib.Core.List.{List}
use native.Mathlib.Omega.{arith}
use Rattle.egg.specs.Table.{parent_of, last_of, back_of}
use Rattle.build_checks_inverses.specs.Inverses.{invert_from}

module _ (t : List ℕ) (n at x : ℕ) {y p : ℕ} where
  pub undo_letter : (k : ℕ) → 0 < k → y ≡ back_of t n x (last_of t n at) → p ≡ parent_of t n at → invert_from (k - 1) t n p y ≡ invert_from k t n at x
  unfolding invert_from
  undo_letter zero h b c = absurd (omega arith)
  undo_letter (suc k) h b c = let m : suc k - 1 ≡ k = omega arith in rw (m, c, b)
