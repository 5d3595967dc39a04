-- Laws of a word walked on an image: one for each way in which a turn ends, and one for each answer.
use Prim.Native.Nat.{ℕ, ◌+◌, ◌-◌, ◌≤◌, ◌<◌}
use mathlib.Core.Path.{◌≡◌, sym, ◌∙◌}
use mathlib.Core.Bool.{true, false}
use mathlib.Core.List.{List}
use borrow.Author.Tests.{eq-eqb, ne_eqb, lt-leb, le-leb}
use borrow.Rule.Slice.PartMut.{mid_of}
use lib.ListN.{length}
use Rattle.image_cells.specs.Cells.{halves}
use Rattle.image_check.proofs.Parts.{rest_lent}
use Rattle.image.specs.Image.{head_generators, head_elements, head_number}
use Rattle.image_walk.specs.Walked.{letters_below, follow_rows}
use Rattle.image.specs.Walked.{walk_number}
use Rattle.image.proofs.ReadLaws.{whole_image}

module _ (l : List ℕ) (start : ℕ) (word : List ℕ) {h : ℕ} (qh : h ≡ head_number l) where
  pub walk_head : (h ≡ 0 → ⊥) → 65536 + h ≡ walk_number l start word
  unfolding walk_number
  walk_head d = let f : head_number l ≡ 0 → ⊥ = λ z. d (qh ∙ z) in simp (ne_eqb _ _ f) (rw qh)

  module _ (z : h ≡ 0) {n count : ℕ} (qn : n ≡ head_generators l) (qc : count ≡ head_elements l) where
    pub walk_start : count ≤ start → 65550 ≡ walk_number l start word
    unfolding walk_number
    walk_start k =
        let f : head_number l ≡ 0 = sym qh ∙ z in
        let k' : head_elements l ≤ start = rw qc at k in
        simp (eq-eqb _ _ f, le-leb _ _ k')

    module _ (k : start < count) where
      pub walk_letter : letters_below n word ≡ false → 65550 ≡ walk_number l start word
      unfolding walk_number
      walk_letter e =
          let f : head_number l ≡ 0 = sym qh ∙ z in
          let k' : start < head_elements l = rw qc at k in
          let e' : letters_below (head_generators l) word ≡ false = rw qn at e in
          simp (eq-eqb _ _ f, lt-leb _ _ k') (rw e')

      pub walk_follows : {r : ℕ} → letters_below n word ≡ true → r ≡ follow_rows (halves (mid_of 8 (length l - 8) l)) n count start word
          → r ≡ walk_number l start word
      unfolding walk_number
      walk_follows e q =
          let f : head_number l ≡ 0 = sym qh ∙ z in
          let k' : start < head_elements l = rw qc at k in
          let e' : letters_below (head_generators l) word ≡ true = rw qn at e in
          simp (eq-eqb _ _ f, lt-leb _ _ k') (rw e' (q ∙ rw (rest_lent l 8 (whole_image l qh z), qn, qc)))
