-- Reads are the same in a longer list, and so are stores: inside the list, and stores of 0 anywhere.
use Prim.Native.Nat.{ℕ, zero, suc, ◌+◌, ◌<◌}
use mathlib.Core.Path.{◌≡◌, refl, ap, ◌∙◌}
use mathlib.Core.Bool.{Bool, true, false}
use mathlib.Core.List.{List, [], ◌∷◌, ◌++◌}
use lib.ListN.{get_or, length, set, replicate, length-append, length-replicate, replicate-append-replicate}
use lib.Seq.{set-append_left, set-get_or}
use lib.Dec.{ltb}
use Rattle.egg.specs.Table.{pick, put_at}
use Rattle.egg.proofs.Cells.{put_length}
use Rattle.enumeration_run_laws.proofs.Running.{zeros}
use Rattle.enumeration_run_laws.specs.Longer.{longer, Long}

pub longer_get : (k : ℕ) (l : List ℕ) (i : ℕ) → get_or (longer k l) i 0 ≡ get_or l i 0
unfolding longer
longer_get k [] i = zeros k i
longer_get k (x ∷ l) zero = refl
longer_get k (x ∷ l) (suc i) = longer_get k l i

set_zero : (k : ℕ) (l : List ℕ) (i : ℕ) → set (l ++ replicate k 0) i 0 ≡ set l i 0 ++ replicate k 0
set_zero k [] i = rw (zeros k i) at (set-get_or {A = ℕ} (replicate k 0) i 0)
set_zero k (x ∷ l) zero = refl
set_zero k (x ∷ l) (suc i) = ap (λ (y : List ℕ). x ∷ y) (set_zero k l i)

pub longer_put : (k : ℕ) (l : List ℕ) (i v : ℕ) → i < length l → put_at (longer k l) i v ≡ longer k (put_at l i v)
unfolding longer put_at
longer_put k l i v h = by (ltb v 4294967296) where
  by : (b : Bool) → pick b (set (l ++ replicate k 0) i v) (l ++ replicate k 0) ≡ pick b (set l i v) l ++ replicate k 0
  by true = set-append_left l (replicate k 0) i v h
  by false = refl

pub longer_zero : (k : ℕ) (l : List ℕ) (i : ℕ) → put_at (longer k l) i 0 ≡ longer k (put_at l i 0)
unfolding longer put_at
longer_zero k l i = set_zero k l i

pub longer_length : (k : ℕ) (l : List ℕ) → length (longer k l) ≡ length l + k
unfolding longer
longer_length k l = length-append l (replicate k 0) ∙ ap (λ (x : ℕ). length l + x) (length-replicate k 0)

pub longer_zeros : (k j : ℕ) → longer k (replicate j 0) ≡ replicate (j + k) 0
unfolding longer
longer_zeros k j = replicate-append-replicate j k 0

-- Stores one after the other.
module _ {k len : ℕ} {l l' : List ℕ} (L : Long k len l l') where
  pub long_get : (i : ℕ) → get_or l' i 0 ≡ get_or l i 0
  long_get i = rw L.same (longer_get k l i)

  pub long_put : (i v : ℕ) → i < len → Long k len (put_at l i v) (put_at l' i v)
  long_put i v h = record {
    same = rw L.same (longer_put k l i v (rw L.wide h));
    wide = put_length l i v ∙ L.wide;
  }

  pub long_zero : (i : ℕ) → Long k len (put_at l i 0) (put_at l' i 0)
  long_zero i = record { same = rw L.same (longer_zero k l i); wide = put_length l i 0 ∙ L.wide }
