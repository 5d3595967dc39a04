-- The two loops of `fill` are walks, and how a walk goes on, stops and ends.
use Rattle.std.proofs.Common.{◌≡◌, ℕ, zero, suc, ◌+◌, ◌-◌, ◌≤◌, Bool, true, false, eqb, List, get_or, sym, refl, ap, ◌∙◌, zero-le, le_refl, arith, eq-eqb, ne_eqb}
use Rattle.egg.specs.declared.GroupElementId.{GroupElementId}
use Rattle.egg.specs.declared.GeneratorId.{GeneratorId}
use Rattle.egg.specs.Table.{pick, start_of}
use Rattle.enumeration_rows.specs.declared.inner.RelationTableRow.{RelationTableRow}
use Rattle.enumeration_fill.specs.declared.inner.Walked.{Walked}
use Rattle.enumeration_rows.specs.Rows.{gen_of, row_of}
use Rattle.enumeration_fill.specs.Fill.{back_from, forward_from}
use Rattle.enumeration_fill.specs.Walk.{walk_of, walk_from}
use Rattle.enumeration_rows.proofs.Laws.{gen_again}

module _ (t : List ℕ) (n e a b : ℕ) {x : ℕ} where
  pub walk_step : (k : ℕ) → (k ≡ 0 → ⊥) → x ≡ get_or t (start_of n e + a) 0 → (x ≡ 0 → ⊥)
      → walk_from k t n e a b ≡ walk_from (k - 1) t n (x - 1) b a
  unfolding walk_from
  walk_step zero p q z = absurd (p refl)
  walk_step (suc k) p q z = let m : suc k - 1 ≡ k = omega arith in rw (m, ← q) (simp (ne_eqb _ _ z))

  pub walk_stuck : (k : ℕ) → x ≡ get_or t (start_of n e + a) 0 → x ≡ 0 → walk_from k t n e a b ≡ walk_of e k
  unfolding walk_from
  walk_stuck zero q z = refl
  walk_stuck (suc k) q z = rw (← q) (simp (eq-eqb _ _ z))

module _ (t : List ℕ) (n : ℕ) where
  pub walk_end : (e a b k : ℕ) → k ≡ 0 → walk_from k t n e a b ≡ walk_of e k
  unfolding walk_from
  walk_end e a b k z = rw z

  pub walk_left : (k e a b : ℕ) → (walk_from k t n e a b).left ≤ k
  unfolding walk_from
  walk_left zero e a b = zero-le
  walk_left (suc k) e a b = by_test (eqb (get_or t (start_of n e + a) 0) 0) refl (walk_left k (get_or t (start_of n e + a) 0 - 1) b a)
    where
      by_test : (s : Bool) → eqb (get_or t (start_of n e + a) 0) 0 ≡ s → (walk_from k t n (get_or t (start_of n e + a) 0 - 1) b a).left ≤ k
          → (walk_from (suc k) t n e a b).left ≤ suc k
      by_test true q h = rw q (le_refl _)
      by_test false q h = rw q (omega arith)

  -- A walk that a missing step ends, ends there however many steps it might still take.
  pub walk_any : (s m k e a b j i : ℕ) {z : ℕ} → m ≡ s + suc j → k ≡ s + suc i → walk_from m t n e a b ≡ walk_of z (suc j)
      → walk_from k t n e a b ≡ walk_of z (suc i)
  unfolding walk_from
  walk_any s zero k e a b j i p q h = absurd (omega arith)
  walk_any s (suc m) zero e a b j i p q h = absurd (omega arith)
  walk_any zero (suc m) (suc k) e a b j i {z} p q h = by_test (eqb (get_or t (start_of n e + a) 0) 0) refl
    where
      by_test : (y : Bool) → eqb (get_or t (start_of n e + a) 0) 0 ≡ y → walk_from (suc k) t n e a b ≡ walk_of z (suc i)
      by_test true r =
          let x : e ≡ z = ap (λ (v : Walked). v.element.0) (rw r at h) in
          let l : suc k ≡ suc i = omega arith in
          rw (r, x, l)
      by_test false r =
          let l : (walk_from m t n (get_or t (start_of n e + a) 0 - 1) b a).left ≡ suc j = ap (λ (v : Walked). v.left) (rw r at h) in
          absurd (omega (arith, l, walk_left m (get_or t (start_of n e + a) 0 - 1) b a))
  walk_any (suc s) (suc m) (suc k) e a b j i {z} p q h = by_test (eqb (get_or t (start_of n e + a) 0) 0) refl
      (walk_any s m k (get_or t (start_of n e + a) 0 - 1) b a j i (omega arith) (omega arith))
    where
      by_test : (y : Bool) → eqb (get_or t (start_of n e + a) 0) 0 ≡ y
          → (walk_from m t n (get_or t (start_of n e + a) 0 - 1) b a ≡ walk_of z (suc j) → walk_from k t n (get_or t (start_of n e + a) 0 - 1) b a ≡ walk_of z (suc i))
          → walk_from (suc k) t n e a b ≡ walk_of z (suc i)
      by_test true r ih =
          let l : suc m ≡ suc j = ap (λ (v : Walked). v.left) (rw r at h) in
          absurd (omega arith)
      by_test false r ih = rw r (ih (rw r at h))

  -- Ends that have met stay.
  pub back_met : (k : ℕ) (r : RelationTableRow) → k ≡ 0 → r ≡ back_from k t n r
  unfolding back_from
  back_met k r z = rw z

  pub forward_met : (k : ℕ) (r : RelationTableRow) → k ≡ 0 → r ≡ forward_from k t n r
  unfolding forward_from
  forward_met k r z = rw z

  -- The right end walks back by the predecessors of the generator that is due, and of the other.
  pub back_walk : (k pair left right a b : ℕ) (from to : GroupElementId) → right ≡ left + k → a ≡ n + (gen_of pair right).0
      → b ≡ n + (gen_of pair (right + 1)).0
      → row_of pair left (left + (walk_from k t n to.0 a b).left) from (record { 0 = (walk_from k t n to.0 a b).element.0 })
      ≡ back_from k t n (row_of pair left right from to)
  unfolding walk_from back_from
  back_walk zero pair left right a b from to h ha hb = let q : left + 0 ≡ right = omega arith in rw q
  back_walk (suc k) pair left right a b from to h ha hb =
      let i : right ≡ right - 1 + 1 = omega arith in
      let j : start_of n to.0 + n + (gen_of pair right).0 ≡ start_of n to.0 + a = omega arith in
      rw j
      (by_test (eqb (get_or t (start_of n to.0 + a) 0) 0) refl
      (back_walk k pair left (right - 1) b a from (record { 0 = get_or t (start_of n to.0 + a) 0 - 1 }) (omega arith)
      (hb ∙ ap (λ (g : GeneratorId). n + g.0) (gen_again pair (right + 1) (right - 1) (omega arith)))
      (ha ∙ ap (λ (x : ℕ). n + (gen_of pair x).0) i)))
    where
      by_test : (s : Bool) → eqb (get_or t (start_of n to.0 + a) 0) 0 ≡ s
          → row_of pair left (left + (walk_from k t n (get_or t (start_of n to.0 + a) 0 - 1) b a).left) from
          (record { 0 = (walk_from k t n (get_or t (start_of n to.0 + a) 0 - 1) b a).element.0 })
          ≡ back_from k t n (row_of pair left (right - 1) from (record { 0 = get_or t (start_of n to.0 + a) 0 - 1 }))
          → row_of pair left (left + (walk_from (suc k) t n to.0 a b).left) from (record { 0 = (walk_from (suc k) t n to.0 a b).element.0 })
          ≡ pick (eqb (get_or t (start_of n to.0 + a) 0) 0) (row_of pair left right from to)
          (back_from k t n (row_of pair left (right - 1) from (record { 0 = get_or t (start_of n to.0 + a) 0 - 1 })))
      by_test true q ih = rw (q, h)
      by_test false q ih = rw q ih

  -- The left end walks forward by their successors.
  pub forward_walk : (k pair left right a b : ℕ) (from to : GroupElementId) → right ≡ left + k → a ≡ (gen_of pair left).0
      → b ≡ (gen_of pair (left + 1)).0
      → row_of pair (right - (walk_from k t n from.0 a b).left) right (record { 0 = (walk_from k t n from.0 a b).element.0 }) to
      ≡ forward_from k t n (row_of pair left right from to)
  unfolding walk_from forward_from
  forward_walk zero pair left right a b from to h ha hb = let q : right - 0 ≡ left = omega arith in rw q
  forward_walk (suc k) pair left right a b from to h ha hb =
      rw (← ha)
      (by_test (eqb (get_or t (start_of n from.0 + a) 0) 0) refl
      (forward_walk k pair (left + 1) right b a (record { 0 = get_or t (start_of n from.0 + a) 0 - 1 }) to (omega arith) hb
      (ha ∙ ap (λ (g : GeneratorId). g.0) (sym (gen_again pair (left + 1 + 1) left (omega arith))))))
    where
      by_test : (s : Bool) → eqb (get_or t (start_of n from.0 + a) 0) 0 ≡ s
          → row_of pair (right - (walk_from k t n (get_or t (start_of n from.0 + a) 0 - 1) b a).left) right
          (record { 0 = (walk_from k t n (get_or t (start_of n from.0 + a) 0 - 1) b a).element.0 }) to
          ≡ forward_from k t n (row_of pair (left + 1) right (record { 0 = get_or t (start_of n from.0 + a) 0 - 1 }) to)
          → row_of pair (right - (walk_from (suc k) t n from.0 a b).left) right (record { 0 = (walk_from (suc k) t n from.0 a b).element.0 }) to
          ≡ pick (eqb (get_or t (start_of n from.0 + a) 0) 0) (row_of pair left right from to)
          (forward_from k t n (row_of pair (left + 1) right (record { 0 = get_or t (start_of n from.0 + a) 0 - 1 }) to))
      by_test true q ih = let r : right - suc k ≡ left = omega arith in rw (q, r)
      by_test false q ih = rw q ih
