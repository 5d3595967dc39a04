-- One law for each answer of the tests before a step, and what their passing gives.
use Prim.Native.Nat.{ℕ, ◌≤◌, ◌<◌}
use mathlib.Core.Path.{◌≡◌, refl, sym, ◌∙◌}
use mathlib.Core.Bool.{Bool, true, false}
use mathlib.Core.List.{List}
use native.Mathlib.Omega.{arith}
use borrow.Author.Tests.{lt-ltb, le-ltb, le-leb, lt-leb}
use lib.Dec.{ltb}
use lib.ListN.{length, get_or}
use Rattle.egg.specs.declared.GroupElementId.{GroupElementId}
use Rattle.egg.specs.declared.GeneratorId.{GeneratorId}
use Rattle.egg.specs.declared.Refusal.{Refusal}
use Rattle.egg.specs.declared.Factor.{Factor}
use Rattle.egg.specs.Answers.{Verdict, fine}
use Rattle.std.specs.Prelude.{Err}
use Rattle.egg.specs.Scan.{refused_of}
use Rattle.egg.proofs.Scans.{and_then_fine}
use Rattle.egg.specs.Table.{succ_at, length_of, Place}
use Rattle.egg.specs.Factor.{fits_in, stretch, stored_step}
use Rattle.builder_arguments.specs.Places.{placed, placed_step, storable, over_long}

module _ (len : ℕ) (f : Factor) (e : GroupElementId) (g : GeneratorId) where
  pub place_handle : fits_in len f ≡ false → refused_of 17 0 0 0 ≡ placed len f e g
  unfolding placed
  place_handle h = rw h

  module _ (fits : fits_in len f ≡ true) where
    pub place_element : f.elements ≤ e.0 → refused_of 14 0 0 0 ≡ placed len f e g
    unfolding placed
    place_element h = rw fits (simp (le-leb _ _ h))

    pub place_generator : e.0 < f.elements → f.generators ≤ g.0 → refused_of 14 1 0 0 ≡ placed len f e g
    unfolding placed
    place_generator h k = rw fits (simp (lt-leb _ _ h, le-leb _ _ k))

    pub place_fine : e.0 < f.elements → g.0 < f.generators → fine ≡ placed len f e g
    unfolding placed
    place_fine h k = rw fits (simp (lt-leb _ _ h, lt-leb _ _ k))

  -- A place was found in a handle that fits.
  pub place_fits : {v : Verdict} → v ≡ placed len f e g → v ≡ fine → fits_in len f ≡ true
  place_fits {v} q h = by (fits_in len f) refl where
    by : (b : Bool) → fits_in len f ≡ b → fits_in len f ≡ true
    by true p = p
    by false p = let w : refused_of 17 0 0 0 ≡ placed len f e g = place_handle p in let z : ◌≡◌ {A = ℕ} 0 1 = cc in absurd (omega arith)

  module _ (r : GroupElementId) {v : Verdict} (q : v ≡ placed len f e g) where
    pub end_refused : {why : Refusal} → v ≡ Err why → v ≡ placed_step len f e g r
    unfolding placed_step
    end_refused h = rw (← q, h)

    pub end_out : v ≡ fine → f.elements ≤ r.0 → refused_of 14 2 0 0 ≡ placed_step len f e g r
    unfolding placed_step
    end_out h k = rw (← q, h) (simp (le-leb _ _ k))

    pub end_fine : v ≡ fine → r.0 < f.elements → fine ≡ placed_step len f e g r
    unfolding placed_step
    end_fine h k = rw (← q, h) (simp (lt-leb _ _ k))

pub end_fits : (len : ℕ) (f : Factor) (e : GroupElementId) (g : GeneratorId) (r : GroupElementId) {v : Verdict}
    → v ≡ placed_step len f e g r → v ≡ fine → fits_in len f ≡ true
unfolding placed_step
end_fits len f e g r q h = place_fits len f e g refl ((and_then_fine (placed len f e g) _).0 (sym q ∙ h)).0

module _ (t : List ℕ) (f : Factor) (e : GroupElementId) (g : GeneratorId) (r : GroupElementId) where
  module _ {v : Verdict} (q : v ≡ placed_step (length t) f e g r) where
    pub store_refused : {why : Refusal} → v ≡ Err why → v ≡ storable t f e g r
    unfolding storable
    store_refused h = rw (← q, h)

    pub store_altered : v ≡ fine → f.elements < stored_step t f e.0 g.0 → refused_of 17 0 0 0 ≡ storable t f e g r
    unfolding storable
    store_altered h k = rw (← q, h) (simp (lt-ltb _ _ k))

    pub store_fine : v ≡ fine → stored_step t f e.0 g.0 ≤ f.elements → fine ≡ storable t f e g r
    unfolding storable
    store_fine h k = rw (← q, h) (simp (le-ltb _ _ k))

  -- The number that was read is the stored step.
  pub step_read_lem : {s : List ℕ} {at limit x : ℕ} → s ≡ stretch t f → Place at (succ_at f.generators e g) limit → x ≡ get_or s at 0 → x ≡ stored_step t f e.0 g.0
  step_read_lem p a z = rw (z, p, a.at)

  -- What is storable has passed 17 in the handle and 14.
  pub store_placed : storable t f e g r ≡ fine → placed_step (length t) f e g r ≡ fine
  unfolding storable
  store_placed h = ((and_then_fine (placed_step (length t) f e g r) _).0 h).0

  pub store_fits : {v : Verdict} → v ≡ storable t f e g r → v ≡ fine → fits_in (length t) f ≡ true
  store_fits q h = end_fits (length t) f e g r refl (store_placed (sym q ∙ h))

module _ (s : List ℕ) (f : Factor) (e : GroupElementId) where
  pub long_full : f.room ≤ f.elements → false ≡ over_long s f e
  unfolding over_long
  long_full h = simp (le-ltb _ _ h)

  pub long_read : {x : ℕ} → f.elements < f.room → x ≡ length_of s f.generators e.0 → ltb 4096 x ≡ over_long s f e
  unfolding over_long
  long_read h q = rw q (simp (lt-ltb _ _ h))
