-- Laws of a step in a product by the factor that has the generator, over any list of handles.
use Prim.Native.Nat.{ℕ, ◌+◌, ◌*◌, ◌-◌, ◌/◌, ◌%◌, ◌≤◌, ◌<◌}
use mathlib.Core.Path.{◌≡◌, sym, ap, ◌∙◌}
use mathlib.Core.Bool.{true}
use mathlib.Core.List.{List}
use native.Mathlib.Nat.{zero-div, zero-mod}
use native.Mathlib.Omega.{arith}
use lib.ListN.{length, get_or, take}
use Rattle.egg.specs.declared.Factor.{Factor}
use Rattle.egg.specs.declared.Refusal.{Refusal}
use Rattle.egg.specs.declared.GroupElementId.{GroupElementId}
use Rattle.egg.specs.Answers.{Reached}
use Rattle.std.specs.Prelude.{Ok, Err}
use Rattle.egg.specs.Factor.{fits_in, stretch, read_step}
use Rattle.egg.proofs.Rooms.{some}
use Rattle.build_lending.specs.Lending.{no_factor}
use Rattle.egg.specs.Answers.{on_reached}
use Rattle.theory_radix.specs.Radix.{stride}
use Rattle.theory_radix.proofs.RadixLaws.{projected_fits, replace_small}
use Rattle.group_handles.specs.Handles.{sizes, elements_of, generators_of, all_fit}
use Rattle.group_digits.specs.Digits.{step_in}
use Rattle.group_handles.proofs.Lists.{sizes_at, sizes_length, fits_at, positive}
use Rattle.group_walk.proofs.Steps.{steps_found}
use Rattle.group_digits.proofs.Walks.{below_element, step_below}
use Rattle.group_digits.proofs.Splits.{stride_pos}

-- All that the step in the factor that was found asks for, and what it answers.
pub record Ready (t : List ℕ) (hs : List Factor) (h : Factor) (e x s before : ℕ) : Type 0 where
  pub fits : fits_in (length t) h ≡ true
  pub some : 0 < h.elements
  pub strides : 0 < s
  pub down : e / s % h.elements * s ≤ e
  pub up : (y : ℕ) → y < h.elements → e - e / s % h.elements * s + y * s < 4294967296
  pub same : step_in t hs e x
      ≡ on_reached (read_step (stretch t h) h.generators h.elements (e / s % h.elements) (x - before))
      (λ y. Ok (record { 0 = e - e / s % h.elements * s + y * s }))

-- At a place of any list.
module _ (t : List ℕ) (hs : List Factor) (f e x : ℕ) (a : all_fit (length t) hs ≡ true) (m : elements_of hs ≤ 4294967295) (l : f < length hs) (k : e < elements_of hs)
    (o : generators_of (take f hs) ≤ x) (b : x < generators_of (take f hs) + (get_or hs f no_factor).generators)
  where
    pub ready_at : Ready t hs (get_or hs f no_factor) e x (stride (sizes hs) f) (generators_of (take f hs))
    ready_at =
        let q : (get_or hs f no_factor).elements ≡ get_or (sizes hs) f 1 = sizes_at hs f l in
        let i : f < length (sizes hs) = rw (sizes_length hs) l in
        let u : fits_in (length t) (get_or hs f no_factor) ≡ true = fits_at (length t) hs f a l in
        record {
          fits = u;
          some = some (length t) (get_or hs f no_factor) u;
          strides = stride_pos hs f (positive (length t) hs a);
          down = rw q (projected_fits (sizes hs) f e);
          up = λ y n. rw q (omega (arith, m, replace_small (sizes hs) f e y i k (rw (← q) n)));
          same = rw (← q) at (steps_found t hs f e x l k o b);
        }

-- The answer of that step.
module _ {t : List ℕ} {hs : List Factor} {h : Factor} {e x s before : ℕ} (w : Ready t hs h e x s before) where
  module _ {d : ℕ} (z : d ≡ e / s % h.elements) {part : List ℕ} (u : part ≡ stretch t h) {r : Reached}
      (q : r ≡ read_step part h.generators h.elements d (x - before))
    where
      read : r ≡ read_step (stretch t h) h.generators h.elements (e / s % h.elements) (x - before)
      read = q ∙ rw (u, z)

      reached_small : {y : GroupElementId} → r ≡ Ok y → y.0 < h.elements
      reached_small p = below_element (step_below (stretch t h) h.generators h.elements (e / s % h.elements) (x - before)) read p

      pub reached_fits : {y : GroupElementId} → r ≡ Ok y → (d * s ≤ e) × (e - d * s + y.0 * s < 4294967296)
      reached_fits {y} p = rw z (w.down, w.up y.0 (reached_small p))

      pub reached_refused : {why : Refusal} → r ≡ Err why → Err why ≡ step_in t hs e x
      reached_refused p =
          sym (w.same ∙ ap (λ (v : Reached). on_reached v (λ y. Ok (record { 0 = e - e / s % h.elements * s + y * s }))) (sym read ∙ p))

      pub reached_found : {y : GroupElementId} → r ≡ Ok y → {v : ℕ} → v ≡ e - d * s + y.0 * s → Ok (record { 0 = v }) ≡ step_in t hs e x
      reached_found {y} p o =
          ap (λ (v : ℕ). Ok (record { 0 = v })) (o ∙ ap (λ (v : ℕ). e - v * s + y.0 * s) z)
          ∙ sym (w.same ∙ ap (λ (v : Reached). on_reached v (λ y. Ok (record { 0 = e - e / s % h.elements * s + y * s }))) (sym read ∙ p))

-- From the identity, whose digits are 0.
module _ {t : List ℕ} {hs : List Factor} {h : Factor} {x s before : ℕ} (w : Ready t hs h 0 x s before) where
  digit_none : 0 ≡ 0 / s % h.elements
  digit_none = simp (zero-div, zero-mod)

  module _ {part : List ℕ} (u : part ≡ stretch t h) {r : Reached} (q : r ≡ read_step part h.generators h.elements 0 (x - before)) where
    pub generated_refused : {why : Refusal} → r ≡ Err why → Err why ≡ step_in t hs 0 x
    generated_refused p = reached_refused w digit_none u q p

    pub generated_small : {y : GroupElementId} → r ≡ Ok y → y.0 * s < 4294967296
    generated_small {y} p =
        let k : 0 - 0 / s % h.elements * s + y.0 * s < 4294967296 = w.up y.0 (reached_small w digit_none u q p) in
        omega (arith, k)

    pub generated_found : {y : GroupElementId} → r ≡ Ok y → Ok (record { 0 = y.0 * s }) ≡ step_in t hs 0 x
    generated_found {y} p = let z : y.0 * s ≡ 0 - 0 * s + y.0 * s = omega arith in reached_found w digit_none u q p z
