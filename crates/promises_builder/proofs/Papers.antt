-- Acceptance on paper, with no premise: the number is 0 exactly when the arguments are right and the builder is one that is accepted.
use Prim.Native.Nat.{ℕ}
use mathlib.Core.Path.{◌≡◌, refl, ap}
use mathlib.Core.Logic.{◌↔◌}
use mathlib.Core.List.{List, ◌∷◌}
use Rattle.builder.specs.declared.Builder.{Builder}
use Rattle.builder.specs.Calls.{builds}
use Rattle.build_reading.specs.Reading.{composed_at}
use Rattle.build_checks_laws.specs.Numbers.{late_numbers}
use Rattle.factor_laws.specs.Papers.{value_paper}
use Rattle.build_laws.specs.Taken.{Taken}
use Rattle.promises.specs.Papers.{made_paper}
use Rattle.promises.proofs.Never.{leaves_number}
use Rattle.promises.proofs.Papers.{made_fine}
use Rattle.promises_builder.specs.Own.{own_rows, Filled}
use Rattle.promises_builder.specs.Builds.{BuildRight}
use Rattle.promises_builder.proofs.Builds.{begun, build_exactly}
use Rattle.promises_builder.proofs.Leaves.{builds_leaves}

module _ (t : List ℕ) (b : Builder) (w : List ℕ) where
  pub build_paper : made_paper (builds t b w) ≡ value_paper 0
      ↔ (BuildRight t b w × Filled t b.0 × Taken (composed_at (own_rows t b.0) b.0.generators) b.0.generators b.0.room b.0.elements)
  build_paper = (
    λ q.
        let a = made_fine (4 ∷ 6 ∷ 7 ∷ 8 ∷ 17 ∷ late_numbers) refl (builds t b w) (λ r t' w' h. leaves_number (4 ∷ 6 ∷ 7 ∷ 8 ∷ 17 ∷ late_numbers) refl refl (builds_leaves t b w r t' w' h)) q in
        let R = begun t b w a.0 a.1 a.2 a.3 in
        let p = (build_exactly t b w R.fits R.enough).0 a in
        (R, p.0, p.1),
    λ p. let a = (build_exactly t b w p.0.fits p.0.enough).1 (p.1, p.2) in ap made_paper a.3,
  )
