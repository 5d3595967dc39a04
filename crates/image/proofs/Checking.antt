-- Laws of the check of an image: one for each answer.
use Prim.Native.Nat.{ℕ, zero, suc, ◌+◌, ◌*◌, ◌-◌, ◌/◌, ◌≤◌, ◌<◌}
use mathlib.Core.Path.{◌≡◌, refl, sym, ap, ◌∙◌}
use mathlib.Core.Bool.{Bool, true, false}
use mathlib.Core.List.{List, ◌++◌}
use native.Mathlib.Nat.{mul-le-mul, le_refl}
use native.Mathlib.Omega.{arith}
use borrow.Author.Tests.{eq-eqb, ne_eqb, lt-ltb, le-ltb}
use borrow.Rule.Slice.PartMut.{mid_of}
use lib.Dec.{ltb, eqb}
use lib.ListN.{length, take, drop, replicate, length-drop, length-replicate}
use lib.Seq.{length-take-le}
use Rattle.egg.specs.Answers.{Verdict, fine}
use Rattle.egg.specs.Scan.{refused_of}
use Rattle.egg.specs.Table.{pick}
use Rattle.build_lending.specs.Lending.{table_need, work_need}
use Rattle.image_cells.specs.Cells.{cells, halves}
use Rattle.image_cells.proofs.Laws.{cells_length}
use Rattle.image_check.specs.Short.{SomeWork, verdict_number, judged}
use Rattle.image_check.proofs.Parts.{rest_lent, front_drop, front_count}
use Rattle.image_check_laws.proofs.Short.{judged_is_ruled, pick_number, ruled_number}
use Rattle.image.specs.Image.{head_generators, head_elements, head_number, head_place, bytes_need, image_number, image_work}
use Rattle.image.specs.Checked.{image_verdict}
use Rattle.image.proofs.Heads.{HeadRight, right_head, answer_number}

-- A number is at most its square; so the bytes are enough for the table and a cell for each element.
self_square : (n : ℕ) → n ≤ n * n
self_square zero = omega arith
self_square (suc n) = let p : 1 ≤ suc n = omega arith in omega (arith, mul-le-mul p (le_refl (suc n)))

room_left : (n count : ℕ) → 4 * count + 4 * (count * (2 * n + 4)) ≤ count * (32 * n * n + 100)
room_left n count =
    let p : 4 + 4 * (2 * n + 4) ≤ 32 * n * n + 100 = omega (arith, self_square n) in
    omega (arith, mul-le-mul (le_refl count) p)

-- A work of zeros, as long as is needed, has a number for each element.
pub zeros_long : (n count : ℕ) → 0 < n → count ≤ length (replicate {A = ℕ} (work_need n count) 0)
zeros_long n count pos =
    let p : 1 ≤ 6 * n * n + 4 * n = omega arith in
    rw (length-replicate {A = ℕ} (work_need n count) 0) (omega (arith, mul-le-mul (le_refl count) p))

module _ (l w : List ℕ) {h : ℕ} (qh : h ≡ head_number l) where
  pub bad_head : (h ≡ 0 → ⊥) → {k : ℕ} {v : Verdict} → k ≡ head_place l → v ≡ refused_of h k 0 0 → (v ≡ image_verdict l (length w)) × (w ≡ image_work l w)
  unfolding image_verdict image_work
  bad_head d qk q =
      let e : head_number l ≡ 0 → ⊥ = λ z. d (qh ∙ z) in
      (simp (ne_eqb _ _ e) (q ∙ rw (qk, qh)), simp (ne_eqb _ _ e))

  module _ (z : h ≡ 0) {n count need : ℕ} (qn : n ≡ head_generators l) (qc : count ≡ head_elements l) (qd : need ≡ bytes_need n count) where
    abbrev right : HeadRight l
    right = right_head l (sym qh ∙ z)

    same_need : need ≡ bytes_need (head_generators l) (head_elements l)
    same_need = qd ∙ rw (qn, qc)

    pub short_work : length w < need → {v : Verdict} → v ≡ refused_of 4 0 0 0 → (v ≡ image_verdict l (length w)) × (w ≡ image_work l w)
    unfolding image_verdict image_work
    short_work d q =
        let e : head_number l ≡ 0 = sym qh ∙ z in
        let f : length w < bytes_need (head_generators l) (head_elements l) = rw same_need at d in
        (simp (eq-eqb _ _ e, lt-ltb _ _ f) q, simp (eq-eqb _ _ e, lt-ltb _ _ f))

    pub image_whole : 8 ≤ length l
    image_whole = right.whole

    -- The table and then a cell for each element are within the work.
    module _ {at : ℕ} (qa : at ≡ 4 * table_need n count) (lent : need ≤ length w) where
      pub table_lent : at ≤ length (take need w)
      table_lent = rw (length-take-le need w lent) (omega (arith, room_left n count, qa, qd))

      cells_left : count ≤ length (cells (drop at (take need w)))
      cells_left =
          let k : length (drop at (take need w)) ≡ need - at = length-drop at (take need w) ∙ rw (length-take-le need w lent) in
          rw (cells_length (drop at (take need w)), k) (omega (arith, room_left n count, qa, qd))

      table_cells : at / 4 ≡ table_need n count
      table_cells = omega (arith, qa)

      rows_are : mid_of 8 (length l - 8) l ≡ drop 8 l
      rows_are = rest_lent l 8 image_whole

      pub whole_verdict : {v : Verdict} → count < 65536
          → SomeWork (length (cells (drop at (take need w)))) (λ z. v ≡ judged (at / 4) z (halves (mid_of 8 (length l - 8) l)) n count) → v ≡ image_verdict l (length w)
      unfolding image_verdict
      whole_verdict small j =
          let e : head_number l ≡ 0 = sym qh ∙ z in
          let f : bytes_need (head_generators l) (head_elements l) ≤ length w = rw same_need at lent in
          let few : n ≤ 8 = rw qn right.few in
          let some : 1 ≤ count = rw qc right.some in
          let b = judged_is_ruled (halves (mid_of 8 (length l - 8) l)) n count (at / 4) j.work (replicate (work_need n count) 0)
          few some (omega arith) (rw table_cells (le_refl (table_need n count))) (λ _. rw j.as_long cells_left) (λ pos. zeros_long n count pos) in
          simp (eq-eqb _ _ e, le-ltb _ _ f) (j.holds ∙ b ∙ rw (table_cells, rows_are, qn, qc))

      pub whole_work : (p q : List ℕ) → length p ≡ length (take need w) → q ≡ replicate (length (take need (p ++ drop need w))) 0
          → q ++ drop need (p ++ drop need w) ≡ image_work l w
      unfolding image_work
      whole_work p q k c =
          let e : head_number l ≡ 0 = sym qh ∙ z in
          let f : bytes_need (head_generators l) (head_elements l) ≤ length w = rw same_need at lent in
          let d : q ≡ replicate need 0 = c ∙ ap (λ (i : ℕ). replicate i 0) (sym (front_count w need lent p k)) in
          simp (eq-eqb _ _ e, le-ltb _ _ f) (rw (front_drop w need lent p k, d, same_need))

-- The number of the verdict is the check's number.
told_by : (b : Bool) (v w : Verdict) (k : ℕ) → verdict_number (pick b fine v) ≡ k → verdict_number (pick b w v) ≡ pick b (verdict_number w) k
told_by true v w k e = refl
told_by false v w k e = e

pub verdict_number_lem : (l : List ℕ) (size : ℕ) → verdict_number (image_verdict l size) ≡ image_number l size
unfolding image_verdict image_number
verdict_number_lem l size =
    told_by (eqb (head_number l) 0) (refused_of (head_number l) (head_place l) 0 0) _ (head_number l) (answer_number l)
    ∙ ap (λ (x : ℕ). pick (eqb (head_number l) 0) x (head_number l))
    (pick_number (ltb size (bytes_need (head_generators l) (head_elements l))) _ _
    ∙ ap (λ (x : ℕ). pick (ltb size (bytes_need (head_generators l) (head_elements l))) 4 x) (ruled_number _ _ _ _ _))
