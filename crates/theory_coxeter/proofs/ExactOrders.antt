-- The orders are exact in every group of pair orders. Beside the rows of the generators one more adds up what the moves by i meet; from a single bit in the row of i,
-- i j i j .. with k pairs makes its first bit odd while 2k is at most the order, and for larger k the rest of the round does. What a word equal to the empty one does
-- is nothing, so none of these is.
use mathlib.Core.Path.{◌≡◌, refl, sym, ap, ap₂, ◌∙◌}
use mathlib.Core.Bool.{Bool, true, false, true≢false}
use mathlib.Core.List.{List, [], ◌∷◌, ◌++◌}
use Prim.Native.Nat.{ℕ, zero, suc, ◌+◌, ◌*◌, ◌-◌, ◌<◌, ◌≤◌}
use native.Mathlib.Nat.{lt_trans, suc-add}
use native.Mathlib.Decide.{ℕ_discrete, dec_lt, dec_le}
use native.Mathlib.Omega.{arith}
use Rattle.theory.specs.Presentation.{alternate, Relator, double, pair, Equiv, insert, same, turn, join}
use Rattle.theory.proofs.Relations.{append_right}
use Rattle.theory.proofs.Deduction.{strike}
use Rattle.theory_coxeter.specs.Coxeter.{turns}
use Rattle.theory_coxeter.specs.Tables.{ExactWords}
use Rattle.theory_coxeter.proofs.Algebra.{alternate_turns}
use Rattle.theory_coxeter.proofs.Flipping.{mark, mark_yes, mark_no, toggle}
use Rattle.theory_coxeter.proofs.Vectors.{Bits, plus, nothing, plus_nothing, Additive, window}
use Rattle.theory_coxeter.proofs.Paths.{path, path_additive, path_none, made_left}
use Rattle.theory_coxeter.proofs.Action.{met, gathered, acts, acts_append, act_twice, acts_turns, acts_round, met_alone}

-- The operator of k and l. To the row that adds up goes all of the row of i and nothing of the others; between two generators it is that of paths.
abbrev kind : {P Q R S : Type 0} → Dec P → Dec Q → Dec R → Dec S → ℕ → ℕ → Bits → Bits
kind (yes p) (yes q) r s a b v = v
kind (yes p) (no q) r s a b v = nothing
kind (no p) q (yes r) s a b v = nothing
kind (no p) q (no r) (yes s) a b v = path (a - 1) v
kind (no p) q (no r) (no s) a b v = path (b - 1) v

kind_additive : {P Q R S : Type 0} (p : Dec P) (q : Dec Q) (r : Dec R) (s : Dec S) (a b : ℕ) → Additive (kind p q r s a b)
kind_additive (yes p) (yes q) r s a b = record { add = λ u v. refl }
kind_additive (yes p) (no q) r s a b = record { add = λ u v. refl }
kind_additive (no p) q (yes r) s a b = record { add = λ u v. refl }
kind_additive (no p) q (no r) (yes s) a b = path_additive (a - 1)
kind_additive (no p) q (no r) (no s) a b = path_additive (b - 1)

module _ (n : ℕ) (m : ℕ → ℕ → ℕ) (two : (i j : ℕ) → i < j → j < n → 2 ≤ m i j) (i : ℕ) (hi : i < n) where
  B : ℕ → ℕ → Bits → Bits
  B k l = kind (ℕ_discrete l n) (ℕ_discrete k i) (ℕ_discrete k l) (dec_lt k l) (m k l) (m l k)

  additive : (k l : ℕ) → Additive (B k l)
  unfolding B
  additive k l = kind_additive (ℕ_discrete l n) (ℕ_discrete k i) (ℕ_discrete k l) (dec_lt k l) (m k l) (m l k)

  own : (k : ℕ) → k < n → (v : Bits) → B k k v ≡ nothing
  unfolding B
  own k hk v = by (ℕ_discrete k n) (ℕ_discrete k i) (ℕ_discrete k k) (dec_lt k k) where
    by : (p : Dec (k ≡ n)) (q : Dec (k ≡ i)) (r : Dec (k ≡ k)) (s : Dec (k < k)) → kind p q r s (m k k) (m k k) v ≡ nothing
    by (yes p) q r s = absurd (omega arith)
    by (no p) q (yes r) s = refl
    by (no p) q (no r) s = absurd (r refl)

  up : (k l : ℕ) → k < l → l < n → B k l ≡ path (m k l - 1)
  unfolding B
  up k l h hl = by (ℕ_discrete l n) (ℕ_discrete k i) (ℕ_discrete k l) (dec_lt k l) where
    by : (p : Dec (l ≡ n)) (q : Dec (k ≡ i)) (r : Dec (k ≡ l)) (s : Dec (k < l)) → kind p q r s (m k l) (m l k) ≡ path (m k l - 1)
    by (yes p) q r s = absurd (omega arith)
    by (no p) q (yes r) s = absurd (omega arith)
    by (no p) q (no r) (yes s) = refl
    by (no p) q (no r) (no s) = absurd (s h)

  down : (k l : ℕ) → k < l → l < n → B l k ≡ path (m k l - 1)
  unfolding B
  down k l h hl = by (ℕ_discrete k n) (ℕ_discrete l i) (ℕ_discrete l k) (dec_lt l k) where
    by : (p : Dec (k ≡ n)) (q : Dec (l ≡ i)) (r : Dec (l ≡ k)) (s : Dec (l < k)) → kind p q r s (m l k) (m k l) ≡ path (m k l - 1)
    by (yes p) q r s = absurd (omega arith)
    by (no p) q (yes r) s = absurd (omega arith)
    by (no p) q (no r) (yes s) = absurd (omega arith)
    by (no p) q (no r) (no s) = refl

  sees : (v : Bits) → B i n v ≡ v
  unfolding B
  sees v = by (ℕ_discrete n n) (ℕ_discrete i i) where
    by : (p : Dec (n ≡ n)) (q : Dec (i ≡ i)) → kind p q (ℕ_discrete i n) (dec_lt i n) (m i n) (m n i) v ≡ v
    by (yes p) (yes q) = refl
    by (yes p) (no q) = absurd (q refl)
    by (no p) q = absurd (p refl)

  blind : (k : ℕ) → ¬ (k ≡ i) → (v : Bits) → B k n v ≡ nothing
  unfolding B
  blind k d v = by (ℕ_discrete n n) (ℕ_discrete k i) where
    by : (p : Dec (n ≡ n)) (q : Dec (k ≡ i)) → kind p q (ℕ_discrete k n) (dec_lt k n) (m k n) (m n k) v ≡ nothing
    by (yes p) (yes q) = absurd (d q)
    by (yes p) (no q) = refl
    by (no p) q = absurd (p refl)

  -- Every relator acts back to where it began.
  relator_acts : {r : List ℕ} (f : ℕ → Bits) → Relator n m r → acts B r f ≡ f
  relator_acts f (double {g} h) = act_twice B g f (own g h)
  relator_acts f (pair {i = k} {j = l} h hl) =
      let q = m k l - 1 in
      let s : m k l ≡ suc q = omega (arith, two k l h hl) in
      ap (λ (w : List ℕ). acts B w f) (alternate_turns k l (m k l) ∙ ap (λ (x : ℕ). turns k l (x + x)) s)
      ∙ acts_round B (path q) (path_additive q) q (path_none q (omega (arith, two k l h hl))) k l (own k (lt_trans h hl)) (own l hl) (up k l h hl) (down k l h hl)
      (additive k) (additive l) f

  equiv_acts : {u v : List ℕ} (f : ℕ → Bits) → Equiv n m u v → acts B u f ≡ acts B v f
  equiv_acts f (insert u {r} v h) =
      acts_append B u v f ∙ ap (acts B v) (sym (relator_acts (acts B u f) h) ∙ sym (acts_append B u r f)) ∙ sym (acts_append B (u ++ r) v f)
  equiv_acts f same = refl
  equiv_acts f (turn h) = sym (equiv_acts f h)
  equiv_acts f (join h k) = equiv_acts f h ∙ equiv_acts f k

  -- A single bit, in the row of i.
  abbrev bit : Bits
  bit a = mark (ℕ_discrete a 0)

  abbrev begin : ℕ → Bits
  begin l a = elim (ℕ_discrete l i) [ yes e ↦ bit a | no d ↦ false ]

  begin_here : begin i ≡ bit
  begin_here = by (ℕ_discrete i i) where
    by : (d : Dec (i ≡ i)) → (λ (a : ℕ). elim d as (λ x. Bool) [ yes e ↦ bit a | no d ↦ false ]) ≡ bit
    by (yes e) = refl
    by (no d) = absurd (d refl)

  begin_other : (l : ℕ) → ¬ (l ≡ i) → begin l ≡ nothing
  begin_other l h = by (ℕ_discrete l i) where
    by : (d : Dec (l ≡ i)) → (λ (a : ℕ). elim d as (λ x. Bool) [ yes e ↦ bit a | no d ↦ false ]) ≡ nothing
    by (yes e) = absurd (h e)
    by (no d) = refl

  module _ (j : ℕ) (h : i < j) (hj : j < n) where
    abbrev q : ℕ
    q = m i j - 1

    -- What the moves by i meet has its first bit set only at first.
    later : (t : ℕ) → t < q → met (path q) bit nothing t 0 ≡ bit t
    later t l =
        let a = made_left q 0 t bit l in
        let z : 0 * q ≡ 0 = omega arith in
        let y : 0 * q + t ≡ t = omega arith in
        ap (λ (u : Bits). u 0) (met_alone (path q) (path_additive q) t bit) ∙ (rw (y, z) at a)

    odd : (c : ℕ) → c + c < q → window (met (path q) bit nothing) 0 c 0 ≡ true
    odd zero l = mark_yes (ℕ_discrete 0 0) refl
    odd (suc c) l =
        let z : 0 + (suc c + suc c) ≡ suc c + suc c = omega arith in
        ap₂ toggle (odd c (omega arith)) (ap (λ (x : ℕ). met (path q) bit nothing x 0) z ∙ later (suc c + suc c) l ∙ mark_no (ℕ_discrete (suc c + suc c) 0) (omega arith))

    observed : (c : ℕ) → c + c < q → acts B (turns i j (suc c + suc c)) begin n 0 ≡ true
    observed c l =
        ap (λ (u : Bits). u 0) (
        acts_turns B (path q) i j (suc c + suc c) (own i hi) (own j hj) (up i j h hj) (down i j h hj) begin n
        ∙ gathered (additive i n) (additive j n) c (begin n) (met (path q) (begin i) (begin j))
        ∙ ap₂ plus (ap₂ plus (begin_other n (omega arith)) (sees (window (met (path q) (begin i) (begin j)) 0 c))) (blind j (omega arith) (window (met (path q) (begin i) (begin j)) 1 c))
        ∙ plus_nothing (window (met (path q) (begin i) (begin j)) 0 c)
        ∙ ap₂ (λ (x y : Bits). window (met (path q) x y) 0 c) begin_here (begin_other j (omega arith)))
        ∙ odd c l

    small : (k : ℕ) → 0 < k → k + k ≤ m i j → ¬ (Equiv n m (alternate i j k) [])
    small zero pos l e = omega arith
    small (suc c) pos l e =
        true≢false (sym (observed c (omega (arith, two i j h hj)))
        ∙ ap (λ (w : List ℕ). acts B w begin n 0) (sym (alternate_turns i j (suc c)))
        ∙ ap (λ (f : ℕ → Bits). f n 0) (equiv_acts begin e) ∙ ap (λ (u : Bits). u 0) (begin_other n (omega arith)))

alternate_append : (i j a b : ℕ) → alternate i j (a + b) ≡ alternate i j a ++ alternate i j b
alternate_append i j zero b = let z : 0 + b ≡ b = omega arith in rw z
alternate_append i j (suc a) b = rw (suc-add a b) (ap (λ (w : List ℕ). i ∷ j ∷ w) (alternate_append i j a b))

-- In every group of pair orders that are at least 2, the product of two generators has the order that is given.
pub exact_words : (n : ℕ) (m : ℕ → ℕ → ℕ) → ((i j : ℕ) → i < j → j < n → 2 ≤ m i j) → ExactWords n m
exact_words n m two = record {
  positive = λ {i} {j} hi hj. omega (arith, two i j hi hj);
  exact = λ {i} {j} {k} hi hj pos l e. by i j k hi hj pos l e (dec_le (k + k) (m i j));
} where
  rest : (i j k : ℕ) → i < j → j < n → k ≤ m i j → Equiv n m (alternate i j k) [] → Equiv n m (alternate i j (m i j - k)) []
  rest i j k hi hj l e =
      let s : m i j ≡ k + (m i j - k) = omega arith in
      let w : alternate i j (m i j) ≡ alternate i j k ++ alternate i j (m i j - k) = ap (alternate i j) s ∙ alternate_append i j k (m i j - k) in
      let round : Equiv n m [] (alternate i j (m i j)) = turn (strike [] (pair hi hj)) in
      join (turn (append_right e (alternate i j (m i j - k)))) (turn (rw w at round))

  by : (i j k : ℕ) → i < j → j < n → 0 < k → k < m i j → Equiv n m (alternate i j k) [] → Dec (k + k ≤ m i j) → ⊥
  by i j k hi hj pos l e (yes d) = small n m two i (lt_trans hi hj) j hi hj k pos d e
  by i j k hi hj pos l e (no d) = small n m two i (lt_trans hi hj) j hi hj (m i j - k) (omega arith) (omega arith) (rest i j k hi hj (omega arith) e)
