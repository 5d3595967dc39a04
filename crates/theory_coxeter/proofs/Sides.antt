-- Tits' argument: each element t keeps a bit, which a walk turns over whenever it goes from some p to t·p. No relator changes the bit in the end: a double goes
-- there and back, and a pair's relation meets each of its reflections twice. So the bit after a walk depends only on where the walk ends.
use mathlib.Core.Path.{◌≡◌, refl, sym, ap, ◌∙◌}
use mathlib.Core.Bool.{Bool}
use mathlib.Core.List.{List, [], ◌∷◌, ◌++◌}
use Prim.Native.Nat.{ℕ, zero, suc, ◌+◌}
use native.Mathlib.Nat.{lt_trans}
use Rattle.theory.specs.AnyGroup.{GroupOver, word_product}
use Rattle.theory.specs.Presentation.{Relator, double, pair, Equiv, insert, same, turn, join}
use Rattle.theory.proofs.Universal.{product_append}
use Rattle.theory_coxeter.specs.Coxeter.{turns, times, Presents}
use Rattle.theory_coxeter.proofs.Algebra.{undo, across, across_back, times_add, times_back, slide, alternate_turns, involution, round}
use Rattle.theory_coxeter.proofs.Flipping.{mark, mark_same, toggle, toggle_twice, flips, flips_agree, flips_round}

module _ {A : Type 0} (G : GroupOver A) (gen : ℕ → A) where
  -- The reflections that a walk i j i j .. from the identity meets: i, iji, ijiji, ..
  abbrev pub mirror : ℕ → ℕ → ℕ → A
  mirror i j zero = gen i
  mirror i j (suc l) = G.op (gen i) (G.op (mirror j i l) (gen i))

  pub mirror_times : (i j l : ℕ) → mirror i j l ≡ G.op (times G (G.op (gen i) (gen j)) l) (gen i)
  mirror_times i j zero = sym (G.left_unit (gen i))
  mirror_times i j (suc l) =
      let a = gen i in
      let b = gen j in
      let x = times G (G.op b a) l in
      let y = times G (G.op a b) l in
      cc (mirror_times j i l, G.assoc a (G.op x b) a, G.assoc a x b, slide G a b l, G.assoc y a b, times_back G (G.op a b) l)

  mirror_again : (i j k l : ℕ) → times G (G.op (gen i) (gen j)) k ≡ G.unit → mirror i j (k + l) ≡ mirror i j l
  mirror_again i j k l e =
      let r = G.op (gen i) (gen j) in
      cc (mirror_times i j (k + l), mirror_times i j l, times_add G r k l, G.left_unit (times G r l))

  module _ (alike : (a b : A) → Dec (a ≡ b)) (t : A) where
    -- Whether the step from p by x is the one to t·p.
    abbrev pub crosses : A → A → Bool
    crosses p x = mark (alike (G.op t p) (G.op p x))

    -- The bit after the word, from p on.
    abbrev pub side : A → List ℕ → Bool → Bool
    side p [] b = b
    side p (g ∷ w) b = side (G.op p (gen g)) w (toggle (crosses p (gen g)) b)

    pub side_append : (p : A) (u v : List ℕ) (b : Bool) → side p (u ++ v) b ≡ side (G.op p (word_product G gen u)) v (side p u b)
    side_append p [] v b = ap (λ x. side x v b) (sym (G.right_unit p))
    side_append p (g ∷ u) v b =
        side_append (G.op p (gen g)) u v (toggle (crosses p (gen g)) b)
        ∙ ap (λ x. side x v (side p (g ∷ u) b)) (G.assoc p (gen g) (word_product G gen u))

    pub side_turns : (p : A) (i j k : ℕ) (b : Bool) → G.op (gen i) (gen i) ≡ G.unit → G.op (gen j) (gen j) ≡ G.unit
        → side p (turns i j k) b ≡ flips k (λ l. crosses p (mirror i j l)) b
    side_turns p i j zero b hi hj = refl
    side_turns p i j (suc k) b hi hj =
        side_turns (G.op p (gen i)) j i k (toggle (crosses p (gen i)) b) hj hi
        ∙ flips_agree k (λ l. crosses (G.op p (gen i)) (mirror j i l)) (λ l. crosses p (mirror i j (suc l))) (toggle (crosses p (gen i)) b) (λ l h. further l) where
          further : (l : ℕ) → crosses (G.op p (gen i)) (mirror j i l) ≡ crosses p (mirror i j (suc l))
          further l =
              let a = gen i in
              let x = mirror j i l in
              mark_same (alike (G.op t (G.op p a)) (G.op (G.op p a) x)) (alike (G.op t p) (G.op p (G.op a (G.op x a))))
              (across G t p a x hi)
              (across_back G t p a x hi)

    module _ {n : ℕ} {m : ℕ → ℕ → ℕ} (P : Presents G gen n m) where
      -- The bit is as before after a relator.
      relator_side : (p : A) {r : List ℕ} (b : Bool) → Relator n m r → side p r b ≡ b
      relator_side p b (double {g} h) =
          ap (λ x. toggle x (toggle (crosses p (gen g)) b)) (mark_same
          (alike (G.op t (G.op p (gen g))) (G.op (G.op p (gen g)) (gen g))) (alike (G.op t p) (G.op p (gen g)))
          (λ e. cc (undo G (G.op t p) (gen g) (involution G gen P h), G.assoc t p (gen g), undo G (G.op p (gen g)) (gen g) (involution G gen P h)))
          (λ e. cc (G.assoc t p (gen g)))) ∙ toggle_twice (crosses p (gen g)) b
      relator_side p b (pair {i} {j} hi hj) = rw (alternate_turns i j (m i j)) (
          side_turns p i j (m i j + m i j) b (involution G gen P (lt_trans hi hj)) (involution G gen P hj)
          ∙ flips_round (m i j) (λ l. crosses p (mirror i j l)) b (λ l. ap (crosses p) (mirror_again i j (m i j) l (round G gen P hi hj))))

      pub equiv_side : (p : A) {u v : List ℕ} (b : Bool) → Equiv n m u v → side p u b ≡ side p v b
      equiv_side p b (insert u {r} v h) =
          let a = word_product G gen u in
          let q : word_product G gen (u ++ r) ≡ a = cc (product_append G gen u r, P.holds h, G.right_unit a) in
          let s : side p (u ++ r) b ≡ side p u b = side_append p u r b ∙ relator_side (G.op p a) (side p u b) h in
          side_append p u v b ∙ sym (side_append p (u ++ r) v b ∙ ap (λ x. side (G.op p x) v (side p (u ++ r) b)) q ∙ ap (side (G.op p a) v) s)
      equiv_side p b same = refl
      equiv_side p b (turn h) = sym (equiv_side p b h)
      equiv_side p b (join h k) = equiv_side p b h ∙ equiv_side p b k
