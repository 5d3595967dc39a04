-- Laws of the inverse, by what the pass showed and the verdict on it: a refusal is the answer, and what is known where the question goes on.
use Prim.Native.Nat.{ℕ, ◌≤◌, ◌<◌}
use mathlib.Core.Path.{◌≡◌, ◌∙◌}
use mathlib.Core.Bool.{true, false, not}
use mathlib.Core.List.{List}
use borrow.Author.Tests.{not-true, not-false}
use lib.ListN.{length}
use Rattle.egg.specs.declared.Refusal.{Refusal}
use Rattle.egg.specs.Answers.{Reached, Verdict, fine}
use Rattle.std.specs.Prelude.{Ok, Err}
use Rattle.egg.specs.Factor.{refused_reach}
use Rattle.factor.proofs.Admits.{reach_refused, reach_fine}
use Rattle.group_handles.specs.declared.inner.Limit.TheVariants.{Elements, Number}
use Rattle.group_handles.specs.Handles.{handles, elements_of, admits, admits_seen}
use Rattle.group_digits.specs.Digits.{inverts}
use Rattle.group.specs.Questions.{inverse_answer}
use Rattle.group_handles.proofs.Admitted.{few_elements, Goes, goes_on}
use Rattle.capi_handles.specs.Product.{product_of}
use Rattle.capi_handles.proofs.Admitting.{one_element}
use Rattle.capi_handles_inverse.specs.declared.inner.DigitInverses.{DigitInverses}
use Rattle.capi_handles_inverse.specs.Inverted.{Inverted}

module _ {t l : List ℕ} {count a : ℕ} {p : DigitInverses} (w : Inverted t l count a p) (b : a < 4294967296) {v : Verdict}
    (q : v ≡ admits_seen p.seen count a Elements 0 (Number 1))
  where
    inverse_verdict : v ≡ admits (length t) (product_of l count) a (elements_of (handles (product_of l count))) 0 1
    inverse_verdict = one_element l count w.looked b q

    pub inverse_refused : {why : Refusal} → v ≡ Err why → Err why ≡ inverse_answer t (product_of l count) (record { 0 = a })
    unfolding inverse_answer
    inverse_refused o = reach_refused inverse_verdict _ o

    module _ (o : v ≡ fine) where
      inverse_goes : Goes (length t) (product_of l count) a (elements_of (handles (product_of l count))) 0 1
      inverse_goes = goes_on (length t) (product_of l count) a _ 0 1 inverse_verdict o

      inverse_fit : p.seen.fit ≡ true
      inverse_fit = w.looked.fits ∙ inverse_goes.fits

      inverse_few : elements_of (handles (product_of l count)) ≤ 4294967295
      inverse_few = few_elements (product_of l count) inverse_goes.within

      inverse_fine : {r : Reached} → r ≡ inverts t (handles (product_of l count)) a → r ≡ inverse_answer t (product_of l count) (record { 0 = a })
      unfolding inverse_answer
      inverse_fine z = z ∙ reach_fine inverse_verdict _ o

      pub inverse_lost : not p.right ≡ true → {r : Reached} → r ≡ refused_reach 17 0 → r ≡ inverse_answer t (product_of l count) (record { 0 = a })
      inverse_lost m z = inverse_fine (z ∙ w.lost inverse_fit inverse_few (not-true _ m))

      module _ (m : not p.right ≡ false) where
        pub inverse_small : p.sum < 4294967296
        inverse_small = w.small inverse_fit inverse_few (not-false _ m)

        pub inverse_found : Ok (record { 0 = p.sum }) ≡ inverse_answer t (product_of l count) (record { 0 = a })
        inverse_found = inverse_fine (w.found inverse_fit inverse_few (not-false _ m))
