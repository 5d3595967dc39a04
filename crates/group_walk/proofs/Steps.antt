-- A step in a product by the factor that has the generator, over any list of handles.
use Prim.Native.Nat.{ℕ, zero, suc, ◌+◌, ◌*◌, ◌-◌, ◌/◌, ◌%◌, ◌≤◌, ◌<◌}
use mathlib.Core.Path.{◌≡◌, refl, sym, ap, ◌∙◌}
use mathlib.Core.List.{List, [], ◌∷◌}
use native.Mathlib.Nat.{div-one, mul-one, mod-add-div, div-div-eq-div-mul}
use native.Mathlib.Omega.{arith}
use borrow.Author.Tests.{lt-ltb, le-ltb}
use lib.ListN.{length, get_or, take}
use Rattle.egg.specs.declared.Factor.{Factor}
use Rattle.egg.specs.Answers.{Reached}
use Rattle.std.specs.Prelude.{Ok, Err}
use Rattle.egg.specs.Factor.{stretch, read_step}
use Rattle.build_lending.specs.Lending.{no_factor}
use Rattle.egg.specs.Answers.{on_reached}
use Rattle.theory_radix.specs.Radix.{count, project, replace}
use Rattle.theory_radix.proofs.RadixLaws.{high_small, replace_is}
use Rattle.group_handles.specs.Handles.{sizes, elements_of, generators_of}
use Rattle.group_digits.specs.Digits.{above, step_in}
use Rattle.group_handles.proofs.Lists.{sizes_length}

-- The step in a product is that of the factor that has the generator: its digit is replaced, and the others stay.
above_on : (x N : ℕ) (r : Reached) (f : ℕ → ℕ) → above x N (on_reached r (λ y. Ok (record { 0 = f y }))) ≡ on_reached r (λ y. Ok (record { 0 = x + N * f y }))
above_on x N (Ok y) f = refl
above_on x N (Err r) f = refl

on_same : (r : Reached) {f g : ℕ → ℕ} → ((y : ℕ) → f y ≡ g y) → on_reached r (λ y. Ok (record { 0 = f y })) ≡ on_reached r (λ y. Ok (record { 0 = g y }))
on_same (Ok y) q = ap (λ (z : ℕ). Ok (record { 0 = z })) (q y.0)
on_same (Err r) q = refl

replace_first : (N : ℕ) (Ns : List ℕ) (e y : ℕ) → y + N * (e / N) ≡ replace (N ∷ Ns) zero e y
replace_first N Ns e y = simp (div-one, mul-one) (omega (arith, mod-add-div e N))

replace_on : (N : ℕ) (Ns : List ℕ) (f e y : ℕ) → f < length Ns → e < N * count Ns → e % N + N * replace Ns f (e / N) y ≡ replace (N ∷ Ns) (suc f) e y
replace_on N Ns f e y h k =
    let l : suc f < length (N ∷ Ns) = omega arith in
    ap (λ (z : ℕ). e % N + N * z) (replace_is Ns f (e / N) y h (high_small N (count Ns) e k)) ∙ sym (replace_is (N ∷ Ns) (suc f) e y l k)

module _ (t : List ℕ) (h : Factor) (hs : List Factor) (e x : ℕ) where
  steps_here : x < h.generators → step_in t (h ∷ hs) e x
      ≡ on_reached (read_step (stretch t h) h.generators h.elements (e % h.elements) x) (λ y. Ok (record { 0 = y + h.elements * (e / h.elements) }))
  unfolding step_in
  steps_here k = simp (lt-ltb _ _ k)

  steps_past : h.generators ≤ x → step_in t (h ∷ hs) e x
      ≡ above (e % h.elements) h.elements (step_in t hs (e / h.elements) (x - h.generators))
  unfolding step_in
  steps_past k = simp (le-ltb _ _ k)

pub steps_found : (t : List ℕ) (hs : List Factor) (f e x : ℕ) → f < length hs → e < elements_of hs → generators_of (take f hs) ≤ x
    → x < generators_of (take f hs) + (get_or hs f no_factor).generators
    → step_in t hs e x
    ≡ on_reached
    (read_step (stretch t (get_or hs f no_factor)) (get_or hs f no_factor).generators (get_or hs f no_factor).elements (project (sizes hs) f e) (x - generators_of (take f hs)))
    (λ y. Ok (record { 0 = replace (sizes hs) f e y }))
steps_found t [] f e x l k a b = absurd (omega arith)
steps_found t (h ∷ hs) zero e x l k a b =
    let z : x ≡ x - 0 = omega arith in
    let d : e % h.elements ≡ e / 1 % h.elements = rw div-one in
    steps_here t h hs e x (omega (arith, b))
    ∙ on_same (read_step (stretch t h) h.generators h.elements (e % h.elements) x) (λ y. replace_first h.elements (sizes hs) e y)
    ∙ ap (λ (v : ℕ). on_reached (read_step (stretch t h) h.generators h.elements v x) (λ y. Ok (record { 0 = replace (sizes (h ∷ hs)) zero e y }))) d
    ∙ ap (λ (v : ℕ). on_reached (read_step (stretch t h) h.generators h.elements (e / 1 % h.elements) v) (λ y. Ok (record { 0 = replace (sizes (h ∷ hs)) zero e y }))) z
steps_found t (h ∷ hs) (suc f) e x l k a b =
    let N : ℕ = h.elements in
    let i : Factor = get_or hs f no_factor in
    let G : ℕ = generators_of (take f hs) in
    let m : f < length hs = omega arith in
    let o : f < length (sizes hs) = rw (sizes_length hs) m in
    let u : x - h.generators - G ≡ x - (h.generators + G) = omega arith in
    let v : project (sizes hs) f (e / N) ≡ project (sizes (h ∷ hs)) (suc f) e = rw div-div-eq-div-mul in
    steps_past t h hs e x (omega (arith, a))
    ∙ ap (above (e % N) N) (steps_found t hs f (e / N) (x - h.generators) m (high_small N (elements_of hs) e k) (omega (arith, a)) (omega (arith, a, b)))
    ∙ above_on (e % N) N (read_step (stretch t i) i.generators i.elements (project (sizes hs) f (e / N)) (x - h.generators - G)) (replace (sizes hs) f (e / N))
    ∙ on_same (read_step (stretch t i) i.generators i.elements (project (sizes hs) f (e / N)) (x - h.generators - G)) (λ y. replace_on N (sizes hs) f e y o k)
    ∙ ap (λ (w : ℕ). on_reached (read_step (stretch t i) i.generators i.elements w (x - h.generators - G)) (λ y. Ok (record { 0 = replace (sizes (h ∷ hs)) (suc f) e y }))) v
    ∙ ap (λ (w : ℕ). on_reached (read_step (stretch t i) i.generators i.elements (project (sizes (h ∷ hs)) (suc f) e) w) (λ y. Ok (record { 0 = replace (sizes (h ∷ hs)) (suc f) e y }))) u

-- The generators of one more factor.
pub taken_next : (hs : List Factor) (f : ℕ) → f < length hs → generators_of (take (suc f) hs) ≡ generators_of (take f hs) + (get_or hs f no_factor).generators
taken_next [] f l = absurd (omega arith)
taken_next (x ∷ hs) zero l = omega arith
taken_next (x ∷ hs) (suc f) l = omega (arith, taken_next hs f (omega arith))
