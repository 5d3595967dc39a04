-- What the check leaves that tells its places.
use Prim.Native.Nat.{ℕ}
use mathlib.Core.Path.{◌≡◌, ◌∙◌}
use mathlib.Core.List.{List, [], ◌∷◌}
use lib.ListN.{length}
use Rattle.egg.specs.Answers.{Verdict}
use Rattle.egg.specs.Factor.{verdict_paper}
use Rattle.image.specs.Image.{image_work}
use Rattle.image.specs.Checked.{image_verdict}
use Rattle.capi_values.specs.Bridge.{paper_into, telling}
use Rattle.capi_values.proofs.Laws.{told}
use Rattle.capi_image.specs.Verdict.{checked_into}

pub checked_told : (image work out : List ℕ) {v : Verdict} {w : List ℕ} {r : ℕ} {l : List ℕ} → (v ≡ image_verdict image (length work)) × (w ≡ image_work image work)
    → (r ≡ (verdict_paper v).number) × (l ≡ paper_into v out) → telling r l (w ∷ []) ≡ checked_into image work out
unfolding checked_into
checked_told image work out (p, q) s = told s ∙ rw (p, q)
