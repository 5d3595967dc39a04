-- Laws of the two questions, by what the pass showed and the verdict on it: a refusal is the answer, and what is known where a question goes on.
use Prim.Native.Nat.{ℕ, ◌*◌, ◌≤◌, ◌<◌}
use mathlib.Core.Path.{◌≡◌, refl, ◌∙◌}
use mathlib.Core.Bool.{true}
use mathlib.Core.List.{List}
use native.Mathlib.Omega.{arith}
use lib.ListN.{length, get_or, take}
use Rattle.egg.specs.declared.Factor.{Factor}
use Rattle.egg.specs.declared.Refusal.{Refusal}
use Rattle.egg.specs.Answers.{Reached, Verdict, fine}
use Rattle.std.specs.Prelude.{Err}
use Rattle.build_lending.specs.Lending.{no_factor}
use Rattle.factor.proofs.Admits.{reach_refused, reach_fine}
use Rattle.theory_radix.specs.Radix.{stride}
use Rattle.theory_radix.proofs.RadixLaws.{stride_small}
use Rattle.group_handles.specs.declared.inner.Limit.TheVariants.{Elements, Generators, Number}
use Rattle.group_handles.specs.Handles.{handles, sizes, elements_of, generators_of, admits, admits_seen}
use Rattle.group_digits.specs.Digits.{step_in}
use Rattle.group.specs.Questions.{step_answer, generator_answer}
use Rattle.group_handles.proofs.Caps.{cap_small}
use Rattle.group_handles.proofs.Lists.{positive}
use Rattle.group_handles.proofs.Admitted.{few_elements, Goes, goes_on}
use Rattle.capi_handles.specs.Product.{handle_at, product_of}
use Rattle.capi_handles.proofs.Looks.{told_few, told_within, turn_first, placed}
use Rattle.capi_handles.proofs.Admitting.{element_letter, one_letter}
use Rattle.capi_handles_step.specs.declared.inner.Spot.{Spot}
use Rattle.capi_handles_step.specs.Spots.{Located, Spotted}
use Rattle.capi_handles_step.proofs.Stepping.{Ready, ready_at}

-- What a question that goes on does with the place that was found.
pub record Usable (t l : List ℕ) (count e x : ℕ) (p : Spot) : Type 0 where
  pub small : p.at < 8
  pub fits : p.stride < 4294967296
  pub passed : p.before ≤ x
  pub ready : (h : Factor) → h ≡ handle_at l (p.at * 5) → Ready t (handles (product_of l count)) h e x p.stride p.before

module _ {t l : List ℕ} {count x : ℕ} {p : Spot} (w : Spotted t l count x p) {a la b lb : ℕ} (G : Goes (length t) (product_of l count) a la b lb)
    (k : x < generators_of (handles (product_of l count)))
  where
    fit : p.seen.fit ≡ true
    fit = w.looked.fits ∙ G.fits

    located : Located (handles (product_of l count)) x p.seen.generators p.at p.stride p.before
    located = w.located fit

    known : x < p.seen.generators
    known = omega (arith, w.letters fit)

    few : elements_of (handles (product_of l count)) ≤ 4294967295
    few = few_elements (product_of l count) G.within

    counted : count ≤ 8
    counted = told_within l 0 count G.within

    spot_listed : p.at < count
    spot_listed = rw (told_few l 0 count counted) (located.there known)

    spot_handle : handle_at l (p.at * 5) ≡ get_or (handles (product_of l count)) p.at no_factor
    spot_handle = (placed (handles (product_of l count)) p.at (turn_first l count p.at (told_few l 0 count counted) spot_listed counted refl)).1

    stride_bound : stride (sizes (handles (product_of l count))) p.at ≤ 4294967295
    stride_bound = omega (arith, few, stride_small (sizes (handles (product_of l count))) p.at (positive (length t) (handles (product_of l count)) G.fits))

    spot_stride : p.stride ≡ stride (sizes (handles (product_of l count))) p.at
    spot_stride = located.strided ∙ cap_small stride_bound

    usable : (e : ℕ) → e < elements_of (handles (product_of l count)) → Usable t l count e x p
    usable e n = record {
      small = omega (arith, spot_listed, counted);
      fits = omega (arith, spot_stride, stride_bound);
      passed = located.passed;
      ready = λ h q.
          let hs : List Factor = handles (product_of l count) in
          let u : h ≡ get_or hs p.at no_factor = q ∙ spot_handle in
          let v : p.before ≡ generators_of (take p.at hs) = located.earlier in
          rw (u, spot_stride, v)
          (ready_at t hs p.at e x G.fits few (located.there known) n (rw (← v) located.passed) (rw (← v) (located.has known)));
    }

-- The step.
module _ {t l : List ℕ} {count x : ℕ} {p : Spot} (w : Spotted t l count x p) (e : ℕ) (b : e < 4294967296) {v : Verdict}
    (q : v ≡ admits_seen p.seen count e Elements x Generators)
  where
    step_verdict : v ≡ admits (length t) (product_of l count) e (elements_of (handles (product_of l count))) x (generators_of (handles (product_of l count)))
    step_verdict = element_letter l count w.looked w.letters x b q

    pub step_refused : {why : Refusal} → v ≡ Err why → Err why ≡ step_answer t (product_of l count) (record { 0 = e }) (record { 0 = x })
    unfolding step_answer
    step_refused o = reach_refused step_verdict _ o

    module _ (o : v ≡ fine) where
      pub step_fine : {r : Reached} → r ≡ step_in t (handles (product_of l count)) e x → r ≡ step_answer t (product_of l count) (record { 0 = e }) (record { 0 = x })
      unfolding step_answer
      step_fine z = z ∙ reach_fine step_verdict _ o

      pub step_usable : Usable t l count e x p
      step_usable = let G = goes_on (length t) (product_of l count) e _ x _ step_verdict o in usable w G G.second e G.first

-- The generator's element: the step from the identity.
module _ {t l : List ℕ} {count x : ℕ} {p : Spot} (w : Spotted t l count x p) {v : Verdict} (q : v ≡ admits_seen p.seen count x Generators 0 (Number 1)) where
  letter_verdict : v ≡ admits (length t) (product_of l count) x (generators_of (handles (product_of l count))) 0 1
  letter_verdict = one_letter l count w.looked w.letters x q

  pub generator_refused : {why : Refusal} → v ≡ Err why → Err why ≡ generator_answer t (product_of l count) (record { 0 = x })
  unfolding generator_answer
  generator_refused o = reach_refused letter_verdict _ o

  module _ (o : v ≡ fine) where
    pub generator_fine : {r : Reached} → r ≡ step_in t (handles (product_of l count)) 0 x → r ≡ generator_answer t (product_of l count) (record { 0 = x })
    unfolding generator_answer
    generator_fine z = z ∙ reach_fine letter_verdict _ o

    pub generator_usable : Usable t l count 0 x p
    generator_usable =
        let G = goes_on (length t) (product_of l count) x _ 0 1 letter_verdict o in
        usable w G G.first 0 (positive (length t) (handles (product_of l count)) G.fits)
