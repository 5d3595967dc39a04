-- "Version byte 1": an image of any other version is 16 in each call. And an image tells its factor: two factors with one image have the same steps.
use Prim.Native.Nat.{ℕ, ◌+◌, ◌≤◌, ◌<◌}
use mathlib.Core.Path.{◌≡◌, sym, ap, ◌∙◌}
use mathlib.Core.List.{List}
use native.Mathlib.Omega.{arith}
use lib.ListN.{length, get_or}
use Rattle.egg.specs.declared.Factor.{Factor}
use Rattle.build_lending.specs.Lending.{refused_made, making}
use Rattle.factor_laws.specs.Accepted.{Accepted, factor_step}
use Rattle.image.specs.Image.{head_length, head_generators, head_elements, head_number, image_number}
use Rattle.image_writing.specs.Written.{image_of}
use Rattle.image.specs.Read.{read_image}
use Rattle.image.specs.Walked.{walk_number}
use Rattle.promises_image.specs.Images.{Bytes, image_step}
use Rattle.promises_image.proofs.Heads.{other_version}
use Rattle.promises_image.proofs.Back.{bad_read, bad_number}
use Rattle.promises_image.proofs.Rounds.{image_steps, image_elements, image_generators}
use Rattle.promises_image.proofs.Walks.{walk_head}

module _ (l : List ℕ) (sized : 8 ≤ length l) (said : head_length l + 4 ≡ length l) (other : get_or l 4 0 ≡ 1 → ⊥) where
  sixteen : head_number l ≡ 16
  sixteen = other_version l sized said other

  bad : head_number l ≡ 0 → ⊥
  bad z = omega (arith, sixteen)

  pub version_checked : (B : Bytes l) (size : ℕ) → image_number l size ≡ 16
  version_checked B size = bad_number l B size bad ∙ sixteen

  pub version_read : (table : List ℕ) (start : ℕ) (work : List ℕ) → read_image l table start work ≡ making (refused_made 16 0) table work
  version_read table start work = bad_read l table start work bad ∙ rw sixteen

  pub version_walked : (start : ℕ) (word : List ℕ) → walk_number l start word ≡ 65536 + 16
  version_walked start word = walk_head l start word bad ∙ rw sixteen

-- Two accepted factors with the same image.
module _ {t t' : List ℕ} {f f' : Factor} (A : Accepted t f) (A' : Accepted t' f')
    (same : image_of (factor_step t f) f.generators f.elements ≡ image_of (factor_step t' f') f'.generators f'.elements) where
  pub image_one_elements : f.elements ≡ f'.elements
  image_one_elements = sym (image_elements A) ∙ ap head_elements same ∙ image_elements A'

  pub image_one_generators : f.generators ≡ f'.generators
  image_one_generators = sym (image_generators A) ∙ ap head_generators same ∙ image_generators A'

  pub image_one_table : {e g : ℕ} → e < f.elements → g < f.generators → factor_step t f e g ≡ factor_step t' f' e g
  image_one_table {e} {g} he hg =
      sym (image_steps A he hg) ∙ ap (λ (l : List ℕ). image_step l e g) same
      ∙ image_steps A' (rw (← image_one_elements) he) (rw (← image_one_generators) hg)
