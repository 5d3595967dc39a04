-- Laws of a pass that stores a number at each place, from the first on.
-- Assumes nothing.
use Prim.Native.Nat.{ℕ, ◌+◌, ◌≤◌, ◌<◌}
use mathlib.Core.Path.{◌≡◌, refl, sym, ap, ◌∙◌}
use mathlib.Core.List.{List}
use native.Mathlib.Omega.{arith}
use borrow.Author.Count.{below_more}
use lib.ListN.{length, get_or, take, set, length-set, replicate, get_or-replicate}
use lib.Seq.{get_or-set_same, get_or-set_other, get_or-take, length-take-le, ext_get_or}
use Rattle.lists.specs.Passes.{Written}

-- The invariant of a loop that stores a number at each place and has come to i: the places before it have theirs, those after it are as they were.
pub record Writing (value : ℕ → ℕ) (before : List ℕ) (i : ℕ) (out : List ℕ) : Type 0 where
  pub done : (j : ℕ) → j < i → get_or out j 0 ≡ value j
  pub left : (j : ℕ) → i ≤ j → get_or out j 0 ≡ get_or before j 0
  pub as_long : length out ≡ length before

pub writing : {value : ℕ → ℕ} {out : List ℕ} → Writing value out 0 out
writing = record { done = λ j h. absurd (omega arith); left = λ j h. refl; as_long = refl }

module _ {value : ℕ → ℕ} {before : List ℕ} {i : ℕ} {out : List ℕ} (w : Writing value before i out) where
  pub writes : {x : ℕ} → i < length out → x ≡ value i → Writing value before (i + 1) (set out i x)
  writes {x} h q = record {
    done = below_more (λ (j : ℕ). get_or (set out i x) j 0 ≡ value j) i
        (λ j u. get_or-set_other out i j x 0 (λ e. omega arith) ∙ w.done j u)
        (get_or-set_same out i x 0 h ∙ q);
    left = λ j u. get_or-set_other out i j x 0 (λ e. omega arith) ∙ w.left j (omega arith);
    as_long = length-set out i x ∙ w.as_long;
  }

  pub written : {k : ℕ} → k ≤ i → Written k value out
  written h = record { each = λ j u. w.done j (omega arith) }

-- Zeros.
pub cleared : {k : ℕ} {out : List ℕ} (n : ℕ) → out ≡ replicate n 0 → k ≤ n → Written k (λ i. 0) out
cleared {k} {out} n q h = record { each = λ j u. ap (λ (l : List ℕ). get_or l j 0) q ∙ get_or-replicate n j 0 0 (omega arith) }

-- A list that is copied, as far as there is room.
pub copied : (from : List ℕ) {before : List ℕ} {i : ℕ} {out : List ℕ} → Writing (λ j. get_or from j 0) before i out → length before ≤ length from → length out ≤ i
    → out ≡ take (length before) from
copied from {before} {i} {out} w short h =
    ext_get_or 0 out (take (length before) from) (w.as_long ∙ sym (length-take-le (length before) from short))
    (λ j u. w.done j (omega arith) ∙ sym (get_or-take (length before) from j 0 (omega (arith, w.as_long))))
