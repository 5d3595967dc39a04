-- What the loops say of a step in a table whose steps go both ways: nothing, or an element below the count whose own step by that letter is not known.
use Prim.Native.Nat.{ℕ, zero, suc, ◌+◌, ◌*◌, ◌-◌, ◌<◌, ◌≤◌}
use mathlib.Core.Path.{◌≡◌, refl}
use mathlib.Core.Bool.{Bool, true, false}
use mathlib.Core.List.{List}
use native.Mathlib.Omega.{arith}
use borrow.Author.Tests.{eqb-true, eqb-false}
use lib.ListN.{get_or}
use lib.Dec.{eqb, ltb}
use Rattle.egg.specs.Table.{pick, start_of, length_of}
use Rattle.enumeration_fill.specs.declared.inner.Walked.{Walked}
use Rattle.enumeration_fill.specs.Walk.{walk_of, walk_from}
use Rattle.enumeration_quick_loops.specs.Loops.{order_for, end_by, loop_by, loop_from}
use Rattle.enumeration_quick_laws.specs.Sweeping.{TwoWay}

-- The answer v of `loop_from`: 0, or the number + 1 of such an element.
pub data LoopAnswer (n count g : ℕ) (t : List ℕ) (v : ℕ) : Type 0 where
  nothing : v ≡ 0 → LoopAnswer n count g t v
  leads : (r : ℕ) → v ≡ suc r → r < count → get_or t (start_of n r + g) 0 ≡ 0 → LoopAnswer n count g t v

module _ {n count lt : ℕ} {t : List ℕ} (F : TwoWay n count lt t) where
  walk_below : (k e a b : ℕ) → a < n → b < n → e < count → (walk_from k t n e a b).element.0 < count
  unfolding walk_from
  walk_below zero e a b ha hb he = he
  walk_below (suc k) e a b ha hb he =
      let v = get_or t (start_of n e + a) 0 in
      by (eqb v 0) refl (λ z. walk_below k (v - 1) b a hb ha (F.turned e a (v - 1) ha (omega arith)).0) where
        by : (c : Bool) → eqb (get_or t (start_of n e + a) 0) 0 ≡ c
            → ((get_or t (start_of n e + a) 0 ≡ 0 → ⊥) → (walk_from k t n (get_or t (start_of n e + a) 0 - 1) b a).element.0 < count)
            → (pick {A = Walked} c (walk_of e (suc k)) (walk_from k t n (get_or t (start_of n e + a) 0 - 1) b a)).element.0 < count
        by true q rest = he
        by false q rest = rest (eqb-false _ _ q)

  end_said : (g : ℕ) (x : Walked) → x.element.0 < count → LoopAnswer n count g t (end_by t n g x)
  end_said g x h = by (eqb x.left 0) (eqb (get_or t (start_of n x.element.0 + g) 0) 0) refl where
    by : (b c : Bool) → eqb (get_or t (start_of n x.element.0 + g) 0) 0 ≡ c → LoopAnswer n count g t (pick b (pick c (x.element.0 + 1) 0) 0)
    by false c q = nothing refl
    by true false q = nothing refl
    by true true q = leads x.element.0 (omega arith) h (eqb-true _ _ q)

  module _ (o : List ℕ) (e g : ℕ) (he : e < count) (hg : g < n) where
    loop_said : (h : ℕ) → h < n → LoopAnswer n count g t (loop_by t o n e g h)
    unfolding loop_by
    loop_said h hh = by (eqb h g) (ltb (length_of t n e + 1) (order_for o g h)) where
      walk : Walked
      walk = walk_from (2 * order_for o g h - 1) t n e h g

      by : (b c : Bool) → LoopAnswer n count g t (pick b 0 (pick c 0 (end_by t n g walk)))
      by true c = nothing refl
      by false true = nothing refl
      by false false = end_said g walk (walk_below (2 * order_for o g h - 1) e h g hh hg he)

    pub loops_said : (f h : ℕ) → h + f ≤ n → LoopAnswer n count g t (loop_from f t o n e g h)
    unfolding loop_from
    loops_said zero h b = nothing refl
    loops_said (suc f) h b = by (eqb (loop_by t o n e g h) 0) (loops_said f (h + 1) (omega arith)) where
      by : (c : Bool) → LoopAnswer n count g t (loop_from f t o n e g (h + 1)) → LoopAnswer n count g t (pick c (loop_from f t o n e g (h + 1)) (loop_by t o n e g h))
      by true rest = rest
      by false rest = loop_said h (omega arith)
