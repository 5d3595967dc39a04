-- What the buffers hold after the check and after a refused writing. (After a refused reading: Zeros.)
use Prim.Native.Nat.{ℕ, ◌≤◌, ◌<◌}
use mathlib.Core.Path.{◌≡◌}
use mathlib.Core.List.{List, ◌++◌}
use borrow.Author.Tests.{eq-eqb, ne_eqb, lt-ltb, le-ltb}
use lib.ListN.{length, drop, replicate}
use Rattle.egg.specs.declared.Factor.{Factor}
use Rattle.egg.specs.declared.Refusal.{Refusal}
use Rattle.std.specs.Prelude.{Err}
use Rattle.image.specs.Image.{head_generators, head_elements, head_number, bytes_need, image_number, image_work}
use Rattle.image.specs.Written.{write_count, written_image}
use Rattle.promises_image.specs.Images.{WellFormed}
use Rattle.promises_image.proofs.Heads.{formed_head}

-- "A refused question writes nothing."
pub write_refused : (t : List ℕ) (f : Factor) (out : List ℕ) {r : Refusal} → write_count t f (length out) ≡ Err r → written_image t f out ≡ out
unfolding written_image
write_refused t f out e = rw e

-- The check's work: "untouched after a bad head or 4, else that many bytes are zero afterwards"; whatever is lent beyond them is untouched.
module _ (l w : List ℕ) where
  pub check_bad_head : (head_number l ≡ 0 → ⊥) → (image_number l (length w) ≡ head_number l) × (image_work l w ≡ w)
  unfolding image_number image_work
  check_bad_head d = (simp (ne_eqb _ _ d), simp (ne_eqb _ _ d))

  module _ (F : WellFormed l) where
    pub check_short : length w < bytes_need (head_generators l) (head_elements l) → (image_number l (length w) ≡ 4) × (image_work l w ≡ w)
    unfolding image_number image_work
    check_short h = let z = formed_head l F in (simp (eq-eqb _ _ z, lt-ltb _ _ h), simp (eq-eqb _ _ z, lt-ltb _ _ h))

    pub check_started : bytes_need (head_generators l) (head_elements l) ≤ length w
        → image_work l w ≡ replicate (bytes_need (head_generators l) (head_elements l)) 0 ++ drop (bytes_need (head_generators l) (head_elements l)) w
    unfolding image_work
    check_started h = let z = formed_head l F in simp (eq-eqb _ _ z, le-ltb _ _ h)
