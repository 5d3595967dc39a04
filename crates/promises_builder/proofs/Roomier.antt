-- "More room never changes an accepted table", of `build`: a builder that has the same steps in at least that room is accepted with the same numbers. Both are
-- calls on composed rows, of the same list.
use Prim.Native.Nat.{ℕ, ◌*◌, ◌-◌, ◌≤◌, ◌<◌}
use mathlib.Core.Path.{◌≡◌, sym, ap, ◌∙◌, subst}
use mathlib.Core.List.{List}
use native.Mathlib.Nat.{le_refl, mul-le-mul}
use native.Mathlib.Omega.{arith}
use lib.ListN.{length}
use Rattle.egg.specs.declared.Factor.{Factor}
use Rattle.std.specs.Prelude.{Ok}
use Rattle.builder.specs.declared.Builder.{Builder}
use Rattle.build_lending.specs.Lending.{Making, making}
use Rattle.builder.specs.Calls.{builder_of, builds}
use Rattle.build_reading.specs.Reading.{composed_at}
use Rattle.theory.specs.Numbering.{Numbered}
use Rattle.theory.proofs.Reading.{numbered_once}
use Rattle.theory.proofs.RuleLaws.{numbered_agree}
use Rattle.promises.specs.Roomier.{Roomier}
use Rattle.promises.proofs.Roomier.{composed_roomier}
use Rattle.promises_builder.specs.Own.{own_at, own_rows, Filled}
use Rattle.promises_builder.specs.Builds.{BuildRight, SameSteps}
use Rattle.promises_builder.proofs.Composed.{lent, listed_long, own_rows_at, build_composed, build_own_rows}
use Rattle.promises_builder.proofs.Ways.{accepted_composed}
use Rattle.promises_builder.proofs.Builds.{begun}

module _ (t : List ℕ) (b : Builder) (w : List ℕ) (x : Factor) (t₁ w₁ t' : List ℕ) (start' room' : ℕ) (w' : List ℕ) where
  -- Nothing is asked but that the first call is accepted, and that the second builder is right, with as many generators and elements and the same steps.
  pub build_roomier : builds t b w ≡ making (Ok x) t₁ w₁ → b.0.room ≤ room'
      → BuildRight t' (builder_of start' room' b.0.generators b.0.elements) w'
      → SameSteps t b.0 t' (builder_of start' room' b.0.generators b.0.elements).0
      → Roomier b.0.generators b.0.start b.0.room x t₁ start' room' (builds t' (builder_of start' room' b.0.generators b.0.elements) w')
  build_roomier h more R' same =
      let f : Factor = b.0 in
      let n : ℕ = b.0.generators in
      let N : ℕ = b.0.elements in
      let room : ℕ = b.0.room in
      let b' : Builder = builder_of start' room' b.0.generators b.0.elements in
      let rows : List ℕ = own_rows t' b'.0 in
      let R = begun t b w x t₁ w₁ h in
      let p = accepted_composed t b w R.fits R.enough h in
      let F' : Filled t' b'.0 = record {
        there = λ {e} {g} he hg. subst (λ (k : ℕ). 0 < k) (sym (same e g he hg)) (p.0.there he hg);
        inside = λ {e} {g} he hg. subst (λ (k : ℕ). k ≤ N) (sym (same e g he hg)) (p.0.inside he hg);
      } in
      let at : (e g : ℕ) → e < N → g < n → composed_at rows n e g ≡ own_at t f e g - 1 =
      λ e g he hg. own_rows_at t' b' w' R'.fits R'.enough e g he hg ∙ ap (λ (k : ℕ). k - 1) (same e g he hg) in
      let numbered : Numbered n N (composed_at rows n) =
      numbered_agree p.1 (λ e g he hg. at e g he hg ∙ sym (own_rows_at t b w R.fits R.enough e g he hg)) in
      let once : (c : ℕ) → Numbered n c (composed_at rows n) → c ≡ N = λ c q. numbered_once q numbered in
      let long' : room' * n ≤ length rows = listed_long t' b' w' R'.fits R'.enough in
      let long : room * n ≤ length rows = omega (arith, long', mul-le-mul more (le_refl n)) in
      let first = build_composed t b w R.fits R.enough rows p.0 long at once in
      let second = build_own_rows t' b' w' R'.fits R'.enough F' once in
      subst (λ (m : Making). Roomier n f.start room x t₁ start' room' m) (sym second)
      (composed_roomier t f.start w rows n room x t₁ w₁ t' start' w' room' (sym first ∙ h) more (lent t' b' w' R'.fits R'.enough) long')
