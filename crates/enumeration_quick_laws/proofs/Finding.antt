-- What the quick run has found when a loop says where a step leads: a walk round all of the loop but that step.
use Prim.Native.Nat.{ℕ, zero, suc, ◌+◌, ◌*◌, ◌-◌, ◌<◌, ◌≤◌}
use mathlib.Core.Path.{◌≡◌, refl}
use mathlib.Core.Bool.{Bool, true, false}
use mathlib.Core.List.{List}
use native.Mathlib.Omega.{arith}
use borrow.Author.Tests.{eqb-true, eqb-false}
use lib.ListN.{get_or}
use lib.Dec.{eqb, ltb}
use Rattle.egg.specs.Table.{pick, start_of, length_of}
use Rattle.enumeration_fill.specs.declared.inner.Walked.{Walked}
use Rattle.enumeration_fill.specs.Walk.{walk_from}
use Rattle.enumeration_quick_loops.specs.Loops.{order_for, end_by, loop_by, loop_from}

module _ (t o : List ℕ) (n x g : ℕ) where
  -- The walk h g h .. from x, by all letters of the relation but one, comes to r.
  pub record Found (r : ℕ) : Type 0 where
    pub letter : ℕ
    pub below : letter < n
    pub other : letter ≡ g → ⊥
    pub whole : (walk_from (2 * order_for o g letter - 1) t n x letter g).left ≡ 0
    pub ends : (walk_from (2 * order_for o g letter - 1) t n x letter g).element.0 ≡ r

  ended : (v : Walked) (r : ℕ) → end_by t n g v ≡ suc r → (v.left ≡ 0) × (v.element.0 ≡ r)
  ended v r q = by (eqb v.left 0) refl (eqb (get_or t (start_of n v.element.0 + g) 0) 0) q where
    by : (b : Bool) → eqb v.left 0 ≡ b → (b' : Bool) → pick b (pick b' (v.element.0 + 1) 0) 0 ≡ suc r → (v.left ≡ 0) × (v.element.0 ≡ r)
    by true p true q = (eqb-true _ _ p, omega arith)
    by true p false q = absurd (omega arith)
    by false p b' q = absurd (omega arith)

  loop_found : (h r : ℕ) → h < n → loop_by t o n x g h ≡ suc r → Found r
  unfolding loop_by
  loop_found h r hh q = by (eqb h g) refl (ltb (length_of t n x + 1) (order_for o g h)) q where
    walked : Walked
    walked = walk_from (2 * order_for o g h - 1) t n x h g

    by : (b : Bool) → eqb h g ≡ b → (b' : Bool) → pick b 0 (pick b' 0 (end_by t n g walked)) ≡ suc r → Found r
    by true p b' q = absurd (omega arith)
    by false p true q = absurd (omega arith)
    by false p false q =
        let f = ended walked r q in
        record { letter = h; below = hh; other = eqb-false _ _ p; whole = f.0; ends = f.1 }

  pub found : (f h r : ℕ) → h + f ≤ n → loop_from f t o n x g h ≡ suc r → Found r
  unfolding loop_from
  found zero h r hf q = absurd (omega arith)
  found (suc f) h r hf q = by (eqb (loop_by t o n x g h) 0) q (λ q. found f (h + 1) r (omega arith) q) where
    by : (b : Bool) → pick b (loop_from f t o n x g (h + 1)) (loop_by t o n x g h) ≡ suc r → (loop_from f t o n x g (h + 1) ≡ suc r → Found r) → Found r
    by true q ih = ih q
    by false q ih = loop_found h r (omega arith) q
