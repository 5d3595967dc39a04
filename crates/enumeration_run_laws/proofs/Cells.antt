-- What holds of every cell after a store, without a word about its range: a store that does not happen leaves a cell of which it held already.
use Prim.Native.Nat.{ℕ, ◌<◌, ◌≤◌}
use mathlib.Core.Path.{◌≡◌}
use mathlib.Core.Bool.{Bool, true, false}
use mathlib.Core.List.{List}
use native.Mathlib.Decide.{ℕ_discrete, dec_lt}
use native.Mathlib.Omega.{arith}
use lib.ListN.{length, get_or, set}
use lib.Seq.{get_or-set_same, set_out}
use lib.Dec.{ltb}
use Rattle.egg.specs.Table.{pick, put_at}
use Rattle.egg.proofs.Cells.{put_other}

module _ (l : List ℕ) (i v : ℕ) where
  -- At the cell itself the store has its number, or the cell keeps what it had.
  pub put_here : (P : ℕ → Type 0) → P v → P (get_or l i 0) → P (get_or (put_at l i v) i 0)
  unfolding put_at
  put_here P new old = by (ltb v 4294967296) where
    within : Dec (i < length l) → P (get_or (set l i v) i 0)
    within (yes h) = rw (get_or-set_same l i v 0 h) new
    within (no h) = let z : length l ≤ i = omega arith in rw (set_out l i v z) old

    by : (b : Bool) → P (get_or (pick b (set l i v) l) i 0)
    by true = within (dec_lt i (length l))
    by false = old

  -- What holds of every cell holds after a store of a number of which it holds there.
  pub put_keeps : (P : ℕ → ℕ → Type 0) → P i v → ((j : ℕ) → P j (get_or l j 0)) → (j : ℕ) → P j (get_or (put_at l i v) j 0)
  put_keeps P new old j = by (ℕ_discrete j i) where
    by : Dec (j ≡ i) → P j (get_or (put_at l i v) j 0)
    by (yes q) = rw q (put_here (P i) new (old i))
    by (no d) = rw (put_other l i v d) (old j)
