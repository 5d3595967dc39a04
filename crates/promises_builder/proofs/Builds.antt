-- What `build` accepts, and what an accepted build gives.
use Prim.Native.Nat.{ℕ, suc, ◌≤◌, ◌<◌}
use mathlib.Core.Path.{◌≡◌, refl, sym, ap, ◌∙◌, subst}
use mathlib.Core.Logic.{◌↔◌}
use mathlib.Core.Bool.{Bool, true, false}
use mathlib.Core.List.{List}
use native.Mathlib.Omega.{arith}
use borrow.Author.Tests.{leb-true}
use lib.Dec.{leb}
use lib.ListN.{length}
use Rattle.egg.specs.declared.Factor.{Factor}
use Rattle.std.specs.Prelude.{Ok}
use Rattle.egg.specs.Table.{pick}
use Rattle.egg.specs.Factor.{fits_in}
use Rattle.builder.specs.declared.Builder.{Builder}
use Rattle.build_lending.specs.Lending.{work_need, refused_made, Making, making}
use Rattle.builder.specs.Calls.{builds}
use Rattle.build_reading.specs.Reading.{composed_at}
use Rattle.theory.proofs.Reading.{numbered_once}
use Rattle.factor_laws.specs.Accepted.{factor_step}
use Rattle.promises.specs.Composed.{Given}
use Rattle.build_laws.specs.Taken.{Taken}
use Rattle.build_laws.proofs.Lent.{refused_making_lem}
use Rattle.promises.proofs.Composed.{composed_exactly, composed_given}
use Rattle.promises_builder.specs.Own.{own_at, own_rows, Filled}
use Rattle.promises_builder.proofs.Composed.{least, lent, listed_long, own_rows_at, build_own_rows}
use Rattle.promises_builder.specs.Builds.{BuildRight}
use Rattle.promises_builder.proofs.Ways.{accepted_composed}

-- A handle that fits, and a work that is long enough.
module _ (t : List ℕ) (b : Builder) (w : List ℕ) (fits : fits_in (length t) b.0 ≡ true) (enough : work_need b.0.generators b.0.room ≤ length w) where
  abbrev f : Factor
  f = b.0

  abbrev n : ℕ
  n = b.0.generators

  abbrev N : ℕ
  N = b.0.elements

  abbrev room : ℕ
  room = b.0.room

  -- Accepted exactly when every step is there and leads to one of the elements, all of them are reached, and the rows are some group's under the numbering
  -- rule, with words within 4,096.
  pub build_exactly : ((x : Factor) × (t' : List ℕ) × (w' : List ℕ) × (builds t b w ≡ making (Ok x) t' w'))
      ↔ (Filled t b.0 × Taken (composed_at (own_rows t b.0) b.0.generators) b.0.generators b.0.room b.0.elements)
  build_exactly = (
    λ a.
        let p = accepted_composed t b w fits enough a.3 in
        let G = composed_given t f.start w (own_rows t f) n room a.0 a.1 a.2 (sym p.2 ∙ a.3) in
        (p.0, subst (λ (k : ℕ). Taken (composed_at (own_rows t f) n) n room k) (numbered_once G.taken.readable.by_rule p.1) G.taken),
    λ p.
        let e = build_own_rows t b w fits enough p.0 (λ c q. numbered_once q p.1.readable.by_rule) in
        let a = (composed_exactly t f.start w (own_rows t f) n room (least t b w fits enough) (lent t b w fits enough) (listed_long t b w fits enough)).1 (N, p.1) in
        (a.0, a.1, a.2, e ∙ a.3),
  )

-- What an accepted build gives, whatever the arguments: it has passed 17 in the handle and 4.
module _ (t : List ℕ) (b : Builder) (w : List ℕ) (x : Factor) (t' w' : List ℕ) where
  pub begun : builds t b w ≡ making (Ok x) t' w' → BuildRight t b w
  unfolding builds
  begun h = by (fits_in (length t) b.0) refl (leb (work_need b.0.generators b.0.room) (length w)) refl _ h where
    by : (c : Bool) → fits_in (length t) b.0 ≡ c → (d : Bool) → leb (work_need b.0.generators b.0.room) (length w) ≡ d → (m : Making)
        → pick c (pick d m (making (refused_made 4 0) t w)) (making (refused_made 17 0) t w) ≡ making (Ok x) t' w' → BuildRight t b w
    by true p true q m e = record { fits = p; enough = leb-true _ _ q }
    by true p false q m e = absurd (refused_making_lem e)
    by false p d q m e = absurd (refused_making_lem e)

  -- The handle of the builder's stretch with its elements; an accepted factor, whose steps are the builder's; zeros in its rows beyond the last element and in
  -- the needed work; and everything else in both buffers as it was.
  pub build_given : builds t b w ≡ making (Ok x) t' w'
      → Given t b.0.start w (own_rows t b.0) b.0.generators b.0.room x t' w'
  build_given h =
      let B = begun h in
      let p = accepted_composed t b w B.fits B.enough h in
      composed_given t b.0.start w (own_rows t b.0) b.0.generators b.0.room x t' w' (sym p.2 ∙ h)

  -- With all the builder's elements, and the steps that it had stored.
  pub build_same : builds t b w ≡ making (Ok x) t' w'
      → (x ≡ b.0) × ((e g : ℕ) → e < b.0.elements → g < b.0.generators → suc (factor_step t' x e g) ≡ own_at t b.0 e g)
  build_same h =
      let B = begun h in
      let p = accepted_composed t b w B.fits B.enough h in
      let G = build_given h in
      let N = numbered_once G.taken.readable.by_rule p.1 in (
        G.handle ∙ ap (λ (k : ℕ). record { start = b.0.start; room = b.0.room; generators = b.0.generators; elements = k }) N,
        λ e g he hg.
            let s = G.steps {e = e} {g = g} (rw N he) hg in
            let a = own_rows_at t b w B.fits B.enough e g he hg in
            omega (arith, s, a, p.0.there he hg),
      )
