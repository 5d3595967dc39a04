-- Laws of what a pair relation says of a step: its order, and one for each answer, over plain values.
use Prim.Native.Nat.{ℕ, ◌+◌, ◌*◌, ◌-◌, ◌≤◌, ◌<◌}
use mathlib.Core.Path.{◌≡◌, refl}
use mathlib.Core.Bool.{Bool, true, false}
use mathlib.Core.List.{List}
use native.Mathlib.Decide.{dec_lt}
use native.Mathlib.Omega.{arith}
use borrow.Author.Tests.{eq-eqb, ne_eqb, lt-ltb, le-ltb}
use lib.Dec.{ltb}
use lib.ListN.{get_or, length, get_or-eq_default}
use Rattle.egg.specs.Pairs.{pair_count}
use Rattle.egg.specs.Table.{start_of, length_of}
use Rattle.egg.proofs.Scans.{left_suc}
use Rattle.enumeration_rows.specs.Rows.{Orders}
use Rattle.enumeration_fill.specs.declared.inner.Walked.{Walked}
use Rattle.enumeration_fill.specs.Walk.{walk_from}
use Rattle.enumeration_quick_loops.specs.Loops.{order_for, loop_by, loop_from}

module _ (o : List ℕ) (g h : ℕ) where
  pub order_low : {x p : ℕ} → g < h → x ≡ get_or o (p + g) 0 → p ≡ pair_count h → x ≡ order_for o g h
  unfolding order_for
  order_low l q e = rw (q, e, lt-ltb _ _ l)

  pub order_high : {x p : ℕ} → h ≤ g → x ≡ get_or o (p + h) 0 → p ≡ pair_count g → x ≡ order_for o g h
  unfolding order_for
  order_high l q e = rw (q, e, le-ltb _ _ l)

-- Past the list an order counts as 0.
order_at_lem : (o : List ℕ) → Orders o → (k : ℕ) → get_or o k 0 < 32768
order_at_lem o O k = by (dec_lt k (length o)) where
  by : Dec (k < length o) → get_or o k 0 < 32768
  by (yes l) = (O.1 k l).1
  by (no d) = rw (get_or-eq_default o 0 {n = k} (omega arith)) (omega arith)

pub order_small : (o : List ℕ) → Orders o → (g h : ℕ) {x : ℕ} → x ≡ order_for o g h → x < 32768
unfolding order_for
order_small o O g h q = rw q (by (ltb g h) refl) where
  by : (b : Bool) → ltb g h ≡ b → order_for o g h < 32768
  by true e = rw e (order_at_lem o O _)
  by false e = rw e (order_at_lem o O _)

-- What the relation of g and h says.
module _ (t o : List ℕ) (n e g h : ℕ) where
  pub loop_same : h ≡ g → 0 ≡ loop_by t o n e g h
  unfolding loop_by
  loop_same z = simp (eq-eqb _ _ z)

  module _ (d : h ≡ g → ⊥) {x len : ℕ} (q : x ≡ order_for o g h) (l : len ≡ length_of t n e) where
    pub loop_short : len + 1 < x → 0 ≡ loop_by t o n e g h
    unfolding loop_by
    loop_short s = rw (← q, ← l) (simp (ne_eqb _ _ d, lt-ltb _ _ s))

    module _ (s : x ≤ len + 1) {k : ℕ} {end : Walked} (m : k ≡ 2 * x - 1) (w : end ≡ walk_from k t n e h g) where
      pub loop_open : (end.left ≡ 0 → ⊥) → 0 ≡ loop_by t o n e g h
      unfolding loop_by
      loop_open z = rw (← q, ← l, ← m, ← w) (simp (ne_eqb _ _ d, le-ltb _ _ s, ne_eqb _ _ z))

      module _ (z : end.left ≡ 0) {y : ℕ} (c : y ≡ get_or t (start_of n end.element.0 + g) 0) where
        pub loop_other : (y ≡ 0 → ⊥) → 0 ≡ loop_by t o n e g h
        unfolding loop_by
        loop_other p = rw (← q, ← l, ← m, ← w, ← c) (simp (ne_eqb _ _ d, le-ltb _ _ s, eq-eqb _ _ z, ne_eqb _ _ p))

        pub loop_found : y ≡ 0 → end.element.0 + 1 ≡ loop_by t o n e g h
        unfolding loop_by
        loop_found p = rw (← q, ← l, ← m, ← w, ← c) (simp (ne_eqb _ _ d, le-ltb _ _ s, eq-eqb _ _ z, eq-eqb _ _ p))

-- The loop over the other letter: c - h are left at h.
module _ (t o : List ℕ) (n e g c h : ℕ) {x : ℕ} (q : x ≡ loop_by t o n e g h) where
  pub from_next : h < c → x ≡ 0 → loop_from (c - (h + 1)) t o n e g (h + 1) ≡ loop_from (c - h) t o n e g h
  unfolding loop_from
  from_next l z = rw (left_suc l, ← q) (simp (eq-eqb _ _ z))

  pub from_here : h < c → (x ≡ 0 → ⊥) → x ≡ loop_from (c - h) t o n e g h
  unfolding loop_from
  from_here l z = rw (left_suc l, ← q) (simp (ne_eqb _ _ z))

pub from_end : (t o : List ℕ) (n e g c h : ℕ) → c ≤ h → 0 ≡ loop_from (c - h) t o n e g h
unfolding loop_from
from_end t o n e g c h l = let q : c - h ≡ 0 = omega arith in rw q
