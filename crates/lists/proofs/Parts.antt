-- Laws of parts of lists: a chunk of places that is lent, and put back.
-- Assumes nothing.
use Prim.Native.Nat.{ℕ, ◌+◌, ◌-◌, ◌≤◌, ◌<◌}
use mathlib.Core.Path.{◌≡◌, sym, ap, ◌∙◌, subst}
use mathlib.Core.List.{List, ◌++◌}
use native.Mathlib.Decide.{dec_lt}
use native.Mathlib.Omega.{arith}
use borrow.Rule.Slice.PartMut.{mid_of, post_of, put_mid, mid_len}
use lib.ListN.{length, get_or, take, drop, get_or-append}
use lib.Seq.{get_or-take, get_or-drop, get_or-append-add, length-take-le}
use Rattle.lists.specs.Passes.{ChunkEnd}

-- The parts that are lent are of one length.
pub parts_alike : {A B : Type 0} (l : List A) (m : List B) (a e : ℕ) → e ≤ length l → e ≤ length m → length (mid_of a (e - a) l) ≡ length (mid_of a (e - a) m)
parts_alike l m a e g h = mid_len a e l g ∙ sym (mid_len a e m h)

pub part_short : {A : Type 0} (l : List A) {most i end : ℕ} → ChunkEnd most i (length l) end → length (mid_of i (end - i) l) ≤ most
part_short l {most} {i} {end} c = omega (arith, mid_len i end l c.within, c.short)

-- The part at its own place j, in the whole.
pub mid_at : {A : Type 0} (d : A) (at k : ℕ) (l : List A) (j : ℕ) → j < k → get_or (mid_of at k l) j d ≡ get_or l (at + j) d
mid_at d at k l j u = get_or-take k (drop at l) j d u ∙ get_or-drop at l j d

module _ (at k : ℕ) (l part : List ℕ) (inside : at ≤ length l) where
  pub put_before : (i : ℕ) → i < at → get_or (put_mid at k l part) i 0 ≡ get_or l i 0
  put_before i u =
      let there : i < length (take at l) = rw (length-take-le at l inside) u in
      get_or-append (take at l) (part ++ post_of at k l) 0 i there ∙ get_or-take at l i 0 u

  pub put_in : (j : ℕ) → j < length part → get_or (put_mid at k l part) (at + j) 0 ≡ get_or part j 0
  put_in j u =
      ap (λ (n : ℕ). get_or (put_mid at k l part) (n + j) 0) (sym (length-take-le at l inside))
      ∙ get_or-append-add (take at l) (part ++ post_of at k l) j 0 ∙ get_or-append part (post_of at k l) 0 j u

  -- What is so at each place before the part and at each of its own is so at all places up to its end.
  pub put_back : (P : ℕ → ℕ → Type 0) {e : ℕ} → k ≡ e - at → length part ≡ k → ((i : ℕ) → i < at → P i (get_or l i 0))
      → ((j : ℕ) → j < k → P (at + j) (get_or part j 0)) → (i : ℕ) → i < e → P i (get_or (put_mid at k l part) i 0)
  put_back P {e} q long first later i u = by (dec_lt i at) where
    by : Dec (i < at) → P i (get_or (put_mid at k l part) i 0)
    by (yes v) = subst (P i) (sym (put_before i v)) (first i v)
    by (no v) =
        let there : at + (i - at) ≡ i = omega arith in
        let own : i - at < k = omega (arith, q) in
        subst (λ (n : ℕ). P n (get_or (put_mid at k l part) n 0)) there (subst (P (at + (i - at))) (sym (put_in (i - at) (omega (arith, long, own)))) (later (i - at) own))
