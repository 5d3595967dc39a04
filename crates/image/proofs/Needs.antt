-- Laws of what the head tells of the check: one for each answer.
use Prim.Native.Nat.{ℕ, ◌*◌, ◌+◌, ◌≤◌}
use mathlib.Core.Path.{◌≡◌, sym, ◌∙◌}
use mathlib.Core.Bool.{true, false, ◌&&◌}
use mathlib.Core.List.{List}
use native.Mathlib.Nat.{mul-le-mul}
use native.Mathlib.Omega.{arith}
use borrow.Author.Tests.{eq-eqb, ne_eqb}
use lib.Dec.{ltb, eqb}
use Rattle.egg.specs.Answers.{Counted}
use Rattle.std.specs.Prelude.{Ok, Err}
use Rattle.egg.specs.Answers.{numbered}
use Rattle.image.specs.Image.{head_generators, head_elements, head_number, head_place, bytes_need}
use Rattle.image.specs.Checked.{image_need}
use Rattle.image.proofs.Heads.{right_head}

module _ (l : List ℕ) {h : ℕ} (qh : h ≡ head_number l) where
  pub need_bad : (h ≡ 0 → ⊥) → {k : ℕ} → k ≡ head_place l → Err (numbered h k 0 0) ≡ image_need l
  unfolding image_need
  need_bad d qk = let e : head_number l ≡ 0 → ⊥ = λ z. d (qh ∙ z) in simp (ne_eqb _ _ e) (rw (qk, qh))

  module _ (z : h ≡ 0) {n count : ℕ} (qn : n ≡ head_generators l) (qc : count ≡ head_elements l) where
    right : head_number l ≡ 0
    right = sym qh ∙ z

    pub need_out_of_reach : {x : Counted} → (eqb n 0 && ltb 1 count) ≡ true → x ≡ Err (numbered 16 0 0 0) → x ≡ image_need l
    unfolding image_need
    need_out_of_reach a q = let b : (eqb (head_generators l) 0 && ltb 1 (head_elements l)) ≡ true = rw (qn, qc) at a in simp (eq-eqb _ _ right) (rw b q)

    pub need_count : (eqb n 0 && ltb 1 count) ≡ false → {k : ℕ} → k ≡ bytes_need n count → Ok k ≡ image_need l
    unfolding image_need
    need_count a q =
        let b : (eqb (head_generators l) 0 && ltb 1 (head_elements l)) ≡ false = rw (qn, qc) at a in
        simp (eq-eqb _ _ right) (rw (b, q, qn, qc))

    -- It fits 32 bits: at most 8 generators and 65,535 elements.
    pub need_fits : count ≤ 65535 → bytes_need n count ≤ 140769180
    need_fits small =
        let few : n ≤ 8 = rw qn (right_head l right).few in
        let square : 32 * n * n + 100 ≤ 2148 = omega (arith, mul-le-mul few few) in
        omega (arith, mul-le-mul small square)
