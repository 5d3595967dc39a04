-- This file defines when `build` starts, what it is for it to refuse by a number with its places, and what two builders have in common.
use Rattle.std.specs.Prelude.{ℕ, ◌≤◌, ◌<◌, ◌≡◌, true, List, length}
use Rattle.egg.specs.declared.Refusal.{Refusal}
use Rattle.egg.specs.declared.Factor.{Factor}
use Rattle.std.specs.Prelude.{Err}
use Rattle.egg.specs.Factor.{fits_in}
use Rattle.builder.specs.declared.Builder.{Builder}
use Rattle.build_lending.specs.Lending.{work_need, making}
use Rattle.builder.specs.Calls.{builds}
use Rattle.promises_builder.specs.Own.{own_at}

-- The arguments of `build` are right, so that it starts: the handle fits, and the work is long enough.
pub record BuildRight (t : List ℕ) (b : Builder) (w : List ℕ) : Type 0 where
  pub fits : fits_in (length t) b.0 ≡ true
  pub enough : work_need b.0.generators b.0.room ≤ length w

-- `build` refuses the builder b by r, whatever it leaves.
abbrev pub RefusedBy : List ℕ → Builder → List ℕ → Refusal → Type 0
RefusedBy t b w r = (t' : List ℕ) × (w' : List ℕ) × (builds t b w ≡ making (Err r) t' w')

-- The other builder, with the marked table and handle, has stored the same steps of the same elements. Document 01:
-- "More room never changes an accepted table."
abbrev pub SameSteps : List ℕ → Factor → List ℕ → Factor → Type 0
SameSteps t f t' f' = (e g : ℕ) → e < f.elements → g < f.generators → own_at t' f' e g ≡ own_at t f e g
