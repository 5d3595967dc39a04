-- Laws of the rows' definitions, for this crate's proofs and for the layers above.
use Prim.Native.Nat.{ℕ, suc, ◌+◌, ◌*◌, ◌-◌, ◌%◌, ◌≤◌, ◌<◌}
use mathlib.Core.Path.{◌≡◌}
use mathlib.Core.List.{List}
use native.Mathlib.Nat.{add-mod_right, mod-add-mod}
use native.Mathlib.Omega.{arith}
use borrow.Author.Tests.{lt-ltb}
use lib.ListN.{get_or, length, set}
use Rattle.egg.specs.declared.GroupElementId.{GroupElementId}
use Rattle.egg.specs.Pairs.{pair_code}
use Rattle.egg.specs.Table.{put_at}
use Rattle.enumeration_rows.specs.declared.inner.RelationTableRow.{RelationTableRow}
use Rattle.enumeration_rows.specs.Rows.{write_row, gen_of, add_rows_from, added_row, rows_at}

-- The generators take turns: two columns on, it is the same one again.
pub gen_again : (pair a b : ℕ) → a ≡ b + 2 → gen_of pair a ≡ gen_of pair b
gen_again pair a b e = rw (e, add-mod_right)

pub gen_beside : (pair index : ℕ) → gen_of pair (index % 2 + 1) ≡ gen_of pair (index + 1)
gen_beside pair index = rw mod-add-mod

-- The loop over the pairs: one more row, or none left.
module _ (w o : List ℕ) (n : ℕ) (e : GroupElementId) (k : ℕ) where
  pub rows_step : k < length o
      → add_rows_from (length o - k) w o n e k
      ≡ add_rows_from (length o - (k + 1)) (added_row w n e (rows_at n e + 12 * k) (pair_code k) (get_or o k 0)) o n e (k + 1)
  unfolding add_rows_from
  rows_step h = let q : length o - k ≡ suc (length o - (k + 1)) = omega arith in rw q

  pub rows_end : length o ≤ k → add_rows_from (length o - k) w o n e k ≡ w
  unfolding add_rows_from
  rows_end h = let q : length o - k ≡ 0 = omega arith in rw q

-- Five stores of numbers of 32 bits write a row.
pub stored_row_lem : (w : List ℕ) (at : ℕ) (r : RelationTableRow) → r.pair < 4294967296 → r.left < 4294967296 → r.right < 4294967296
    → r.from.0 < 4294967296 → r.to.0 < 4294967296
    → set (set (set (set (set w at r.pair) (at + 1) r.left) (at + 2) r.right) (at + 3) r.from.0) (at + 4) r.to.0 ≡ write_row w at r
unfolding write_row put_at
stored_row_lem w at r a b c d e = simp (lt-ltb _ _ a, lt-ltb _ _ b, lt-ltb _ _ c, lt-ltb _ _ d, lt-ltb _ _ e)
