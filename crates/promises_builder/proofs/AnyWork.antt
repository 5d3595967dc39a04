-- What stands in the work at first decides nothing about a build from the builder's own rows.
use Prim.Native.Nat.{ℕ}
use mathlib.Core.Path.{◌≡◌, sym, ◌∙◌}
use mathlib.Core.List.{List}
use lib.ListN.{length, length-replicate}
use Rattle.build_reading.specs.Reading.{Placed, placed}
use Rattle.build_lending.specs.Finish.{zeroed, finished_placed}
use Rattle.builder_rereading.specs.Own.{stored_at, copied, own_all, reaches_all, own_in}
use Rattle.builder_rereading.proofs.Copying.{copied_length}
use Rattle.build_laws.proofs.AnyWork.{any_work}

placed_any_work : (p : Placed) (n : ℕ) (w w' : List ℕ) → length w ≡ length w' → finished_placed p n w ≡ finished_placed p n w'
placed_any_work (placed c t) n w w' long = any_work c n t w w' long

-- So the copy of the rows in the work decides nothing: `build` comes to what it would in a work of zeros.
pub own_in_zeros : (s w : List ℕ) (n room N : ℕ)
    → own_in s w n room N ≡ finished_placed (reaches_all n N (own_all (stored_at s n) n room N (zeroed s))) n (zeroed w)
unfolding own_in
own_in_zeros s w n room N =
    placed_any_work (reaches_all n N (own_all (stored_at s n) n room N (zeroed s))) n (copied N s n 0 w) (zeroed w)
    (copied_length s n N 0 w ∙ sym (length-replicate (length w) 0))
