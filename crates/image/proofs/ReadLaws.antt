-- Laws of reading an image back: one for each answer.
use Prim.Native.Nat.{ℕ, ◌-◌, ◌≤◌}
use mathlib.Core.Path.{◌≡◌, sym, ◌∙◌}
use mathlib.Core.Bool.{true, false}
use mathlib.Core.List.{List, ◌++◌}
use borrow.Author.Tests.{eq-eqb, ne_eqb}
use borrow.Rule.Slice.PartMut.{mid_of, put_mid}
use lib.ListN.{length, take, drop}
use Rattle.egg.specs.Answers.{Counted, Made}
use Rattle.build_lending.specs.Finish.{built}
use Rattle.build_lending.specs.Lending.{table_need, work_need, lent_right, StretchEnd, refused_made, made_of, making}
use Rattle.build_lending.proofs.Lending.{part_length, build_back}
use Rattle.image_cells.specs.Cells.{halves}
use Rattle.image_check.proofs.Parts.{rest_lent}
use Rattle.image.specs.Image.{head_generators, head_elements, head_number, head_place}
use Rattle.image_reading.specs.Read.{image_in}
use Rattle.image.specs.Read.{read_image}
use Rattle.image.proofs.Heads.{right_head}

pub whole_image : (l : List ℕ) {h : ℕ} → h ≡ head_number l → h ≡ 0 → 8 ≤ length l
whole_image l qh z = (right_head l (sym qh ∙ z)).whole

module _ (l table : List ℕ) (start : ℕ) (work : List ℕ) {h : ℕ} (qh : h ≡ head_number l) {m : Made} where
  pub read_bad : (h ≡ 0 → ⊥) → {k : ℕ} → k ≡ head_place l → m ≡ refused_made h k → making m table work ≡ read_image l table start work
  unfolding read_image
  read_bad d qk e = let f : head_number l ≡ 0 → ⊥ = λ z. d (qh ∙ z) in simp (ne_eqb _ _ f) (rw (e, qk, qh))

  module _ (z : h ≡ 0) {n count : ℕ} (qn : n ≡ head_generators l) (qc : count ≡ head_elements l) where
    pub read_short : lent_right (length table) start (length work) count n ≡ false → m ≡ refused_made 4 0
        → making m table work ≡ read_image l table start work
    unfolding read_image
    read_short d e =
        let f : head_number l ≡ 0 = sym qh ∙ z in
        let d' : lent_right (length table) start (length work) (head_elements l) (head_generators l) ≡ false = rw (qc, qn) at d in
        simp (eq-eqb _ _ f) (rw (d', e))

    pub read_built : lent_right (length table) start (length work) count n ≡ true
        → {e d : ℕ} {c : Counted} {t w : List ℕ} → StretchEnd e start (table_need n count) (length table) → d ≡ work_need n count → m ≡ made_of start count n c
        → built c t w ≡ image_in (length (mid_of start (e - start) table)) (take d work) (halves (mid_of 8 (length l - 8) l)) n count
        → making m (put_mid start (e - start) table t) (w ++ drop d work) ≡ read_image l table start work
    unfolding read_image
    read_built lent {e} {d} {c} {t} {w} q need made b =
        let f : head_number l ≡ 0 = sym qh ∙ z in
        let k : lent_right (length table) start (length work) (head_elements l) (head_generators l) ≡ true = rw (qc, qn) at lent in
        let b' : built c t w ≡ image_in (table_need n count) (take (work_need n count) work) (halves (drop 8 l)) n count
        = b ∙ rw (part_length table start (table_need n count) q, need, rest_lent l 8 (whole_image l qh z)) in
        build_back table start work n count q need made b' ∙ simp (eq-eqb _ _ f) (rw (k, qn, qc))
