-- The generators of a subgroup's product: their numbers are within 32 bits and are elements, and one law for each part that has one.
use Prim.Native.Nat.{ℕ, ◌+◌, ◌*◌, ◌-◌, ◌≤◌, ◌<◌}
use mathlib.Core.Path.{◌≡◌, sym, ap, ◌∙◌, subst}
use mathlib.Core.Bool.{Bool, true, false, ◌&&◌}
use mathlib.Core.List.{List, [], ◌∷◌, ◌++◌}
use native.Mathlib.Nat.{mul-le-mul, mul-lt-mul_of_pos_left}
use native.Mathlib.Omega.{arith}
use borrow.Author.Tests.{lt-ltb, le-ltb}
use lib.ListN.{length}
use lib.Dec.{ltb}
use Rattle.egg.specs.declared.Factor.{Factor}
use Rattle.egg.specs.declared.Refusal.{Refusal}
use Rattle.egg.specs.declared.GroupElementId.{GroupElementId}
use Rattle.egg.specs.Answers.{Reached}
use Rattle.std.specs.Prelude.{Ok, Err}
use Rattle.egg.specs.Table.{pick}
use Rattle.egg.specs.Factor.{fits_in, stretch, read_step}
use Rattle.egg.proofs.Rooms.{and_first, and_second, some}
use Rattle.group_handles.specs.Handles.{handles, elements_of, generators_of, all_fit, capped}
use Rattle.group_digits.specs.Digits.{step_in}
use Rattle.group_handles.proofs.Caps.{cap_small}
use Rattle.group_handles.proofs.Lists.{positive}
use Rattle.group_digits.proofs.Walks.{Below, element, refusal, below_element, step_below, steps_below}
use Rattle.subgroup_build.specs.declared.Subgroup.{Subgroup}
use Rattle.subgroup_sides.specs.Sides.{sub_side, sides_fit, sides_limited}
use Rattle.subgroup_sides.specs.Generators.{scaled, side_generator}
use Rattle.subgroup_sides.proofs.Counts.{sub_count, third_small, pair_small, first_small}
use Rattle.subgroup_sides.proofs.SideLaws.{fit_law, sub_within}

generators_append : (xs ys : List Factor) → generators_of (xs ++ ys) ≡ generators_of xs + generators_of ys
generators_append [] ys = omega arith
generators_append (x ∷ xs) ys = let h = generators_append xs ys in omega arith

pub sub_generators_are : (s : Subgroup) {k m : ℕ} → k ≡ generators_of (handles s.below) → m ≡ generators_of (handles s.above)
    → k + (s.factor.generators + m) ≡ generators_of (sub_side s)
sub_generators_are s p q = rw (p, q) (sym (generators_append (handles s.below) (s.factor ∷ handles s.above)))

pub scaled_refused : (k : ℕ) {r : Reached} {w : Refusal} → r ≡ Err w → Err w ≡ scaled k r
scaled_refused k e = rw e

pub scaled_is : (k : ℕ) {r : Reached} {y : GroupElementId} → r ≡ Ok y → Ok (record { 0 = k * y.0 }) ≡ scaled k r
scaled_is k e = rw e

below_raise : {M L : ℕ} {r : Reached} → M ≤ L → Below M r → Below L r
below_raise h (element {e} k) = element {e = e} (omega arith)
below_raise h refusal = refusal

below_scaled : (k : ℕ) {M : ℕ} {r : Reached} → 0 < k → Below M r → Below (k * M) (scaled k r)
below_scaled k h (element {e} l) = element {e = record { 0 = k * e.0 }} (mul-lt-mul_of_pos_left l h)
below_scaled k h refusal = refusal

module _ (from table : List ℕ) (s : Subgroup) (f : sides_fit (length from) (length table) s ≡ true) (l : sides_limited s ≡ true) where
  abbrev B : ℕ
  B = elements_of (handles s.below)

  abbrev N : ℕ
  N = s.factor.elements

  abbrev A : ℕ
  A = elements_of (handles s.above)

  abbrev k : ℕ
  k = generators_of (handles s.below)

  all : fits_in (length table) s.factor
      && (all_fit (length from) (handles s.below) && (all_fit (length from) (handles s.over) && all_fit (length from) (handles s.above))) ≡ true
  all = sym (fit_law (length from) (length table) s) ∙ f

  pub fits_factor : fits_in (length table) s.factor ≡ true
  fits_factor = and_first _ _ all

  fits_rest : all_fit (length from) (handles s.below) && (all_fit (length from) (handles s.over) && all_fit (length from) (handles s.above)) ≡ true
  fits_rest = and_second (fits_in (length table) s.factor) _ all

  fits_below : all_fit (length from) (handles s.below) ≡ true
  fits_below = and_first _ _ fits_rest

  fits_above : all_fit (length from) (handles s.above) ≡ true
  fits_above = and_second (all_fit (length from) (handles s.over)) _ (and_second (all_fit (length from) (handles s.below)) _ fits_rest)

  some_b : 0 < B
  some_b = positive (length from) (handles s.below) fits_below

  some_n : 0 < N
  some_n = some (length table) s.factor fits_factor

  some_a : 0 < A
  some_a = positive (length from) (handles s.above) fits_above

  all_small : B * (N * A) ≤ 4294967295
  all_small = subst (λ (x : ℕ). x ≤ 4294967295) (sub_count s) (sub_within s l)

  pub below_ready : (all_fit (length from) (handles s.below) ≡ true) × ((B ≤ 4294967295) × (0 < B))
  below_ready = (fits_below, (first_small B N A some_n some_a all_small, some_b))

  pub above_ready : (all_fit (length from) (handles s.above) ≡ true) × ((A ≤ 4294967295) × (0 < A))
  above_ready = (fits_above, (third_small B N A some_b some_n all_small, some_a))

  pub stride_told : {b : ℕ} → b ≡ capped B → b ≡ B
  stride_told q = q ∙ cap_small (first_small B N A some_n some_a all_small)

  pub stride_fits : {b : ℕ} → b ≡ capped B → b * N ≤ 4294967295
  stride_fits q = rw (stride_told q) (pair_small B N A some_a all_small)

  pub within_fits : {b : ℕ} → b ≡ capped B → (x : ℕ) {r : Reached} → r ≡ read_step (stretch table s.factor) s.factor.generators N 0 x
      → (y : GroupElementId) → r ≡ Ok y → b * y.0 < 4294967296
  within_fits {b} q x p y e =
      let h : y.0 < N = below_element (step_below (stretch table s.factor) s.factor.generators N 0 x) p e in
      let i : B * y.0 < B * N = mul-lt-mul_of_pos_left h some_b in
      rw (stride_told q) (omega (arith, i, pair_small B N A some_a all_small))

  pub above_fits : {b : ℕ} → b ≡ capped B → (x : ℕ) {r : Reached} → r ≡ step_in from (handles s.above) 0 x
      → (y : GroupElementId) → r ≡ Ok y → b * N * y.0 < 4294967296
  above_fits {b} q x p y e =
      let h : y.0 ≤ A = le_of (below_element (steps_below from (handles s.above) 0 x some_a) p e) in
      let c : B * N ≤ B * N = omega arith in
      let i : B * N * y.0 ≤ B * N * A = mul-le-mul c h in
      rw (stride_told q) (omega (arith, i, all_small))
    where
      le_of : {m n : ℕ} → m < n → m ≤ n
      le_of g = omega arith

  -- One law for each part.
  pub generator_below : (g : ℕ) → {k' : ℕ} → k' ≡ k → g < k' → step_in from (handles s.below) 0 g ≡ side_generator from table s g
  unfolding side_generator
  generator_below g q h = let z : g < k = rw (← q) h in rw (lt-ltb g k z)

  module _ (g : ℕ) {k' : ℕ} (q : k' ≡ k) (h : k' ≤ g) {b : ℕ} (p : b ≡ capped B) where
    after : k ≤ g
    after = rw (← q) h

    pub generator_within : {r v : Reached} → g - k' < s.factor.generators
        → r ≡ read_step (stretch table s.factor) s.factor.generators N 0 (g - k') → v ≡ scaled b r → v ≡ side_generator from table s g
    unfolding side_generator
    generator_within {r} {v} z u w =
        let z' : g - k < s.factor.generators = rw (← q) z in
        let u' : r ≡ read_step (stretch table s.factor) s.factor.generators N 0 (g - k) = u ∙ rw q in
        let w' : v ≡ scaled B r = w ∙ ap (λ (x : ℕ). scaled x r) (stride_told p) in
        rw (le-ltb g k after, lt-ltb (g - k) s.factor.generators z') (w' ∙ ap (λ (x : Reached). scaled B x) u')

    pub generator_above : {r v : Reached} → s.factor.generators ≤ g - k'
        → r ≡ step_in from (handles s.above) 0 (g - k' - s.factor.generators) → v ≡ scaled (b * N) r → v ≡ side_generator from table s g
    unfolding side_generator
    generator_above {r} {v} z u w =
        let z' : s.factor.generators ≤ g - k = rw (← q) z in
        let u' : r ≡ step_in from (handles s.above) 0 (g - k - s.factor.generators) = u ∙ rw q in
        let w' : v ≡ scaled (B * N) r = w ∙ ap (λ (x : ℕ). scaled (x * N) r) (stride_told p) in
        rw (le-ltb g k after, le-ltb (g - k) s.factor.generators z') (w' ∙ ap (λ (x : Reached). scaled (B * N) x) u')

  -- It is an element.
  side_below : (g : ℕ) → Below (elements_of (sub_side s)) (side_generator from table s g)
  unfolding side_generator
  side_below g = by (ltb g k) (ltb (g - k) s.factor.generators) where
    size : elements_of (sub_side s) ≡ B * (N * A)
    size = sub_count s

    whole : B * (N * A) ≤ elements_of (sub_side s)
    whole = omega (arith, size)

    by : (a b : Bool) → Below (elements_of (sub_side s))
        (pick a (step_in from (handles s.below) 0 g)
        (pick b (scaled B (read_step (stretch table s.factor) s.factor.generators N 0 (g - k)))
        (scaled (B * N) (step_in from (handles s.above) 0 (g - k - s.factor.generators)))))
    by true b =
        let h : B ≤ elements_of (sub_side s) = first_small B N A some_n some_a whole in
        below_raise h (steps_below from (handles s.below) 0 g some_b)
    by false true =
        let h : B * N ≤ elements_of (sub_side s) = pair_small B N A some_a whole in
        below_raise h (below_scaled B some_b (step_below (stretch table s.factor) s.factor.generators N 0 (g - k)))
    by false false =
        let p : 0 < B * N = pos in
        let h : B * N * A ≤ elements_of (sub_side s) = omega (arith, whole) in
        below_raise h (below_scaled (B * N) p (steps_below from (handles s.above) 0 (g - k - s.factor.generators) some_a))
      where
        pos : 0 < B * N
        pos = let c : 1 * 1 ≤ B * N = mul-le-mul some_b some_n in omega (arith, c)

  pub generator_element : (g : ℕ) {r : Reached} {e : GroupElementId} → r ≡ side_generator from table s g → r ≡ Ok e → e.0 < elements_of (sub_side s)
  generator_element g q p = below_element (side_below g) q p

-- A step read in the part that is the stretch.
pub read_part : {p p' : List ℕ} (n N x : ℕ) {r : Reached} → p ≡ p' → r ≡ read_step p n N 0 x → r ≡ read_step p' n N 0 x
read_part n N x e q = q ∙ ap (λ (l : List ℕ). read_step l n N 0 x) e
