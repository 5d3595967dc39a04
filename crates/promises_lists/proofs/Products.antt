-- The same over lists of elements of a product of accepted factors.
-- Assumes nothing.
use Prim.Native.Nat.{ℕ, ◌≤◌, ◌<◌}
use mathlib.Core.Path.{◌≡◌, subst}
use mathlib.Core.Bool.{true}
use mathlib.Core.List.{List}
use lib.ListN.{length}
use lib.IntN.{ℤ}
use Rattle.egg.specs.Answers.{numbered}
use Rattle.std.specs.Prelude.{Err}
use Rattle.group_handles.specs.declared.Group.{Group}
use Rattle.group_handles.specs.Handles.{handles, elements_of, all_fit}
use Rattle.group_handles.proofs.Admitted.{admits_first, admits_second}
use Rattle.group.specs.Questions.{compose_answer, inverse_answer, powi_answer}
use Rattle.promises_group.specs.Products.{AcceptedProduct, direct, ProductAnswers}
use Rattle.promises_group.proofs.Parts.{all_fit_lem, parts_elements}
use Rattle.promises_group.proofs.Answers.{product_answers}
use Rattle.lists_group.specs.Each.{compose_each, inverse_each, powi_each}
use Rattle.promises_lists.specs.Walls.{ProductLists}
use Rattle.promises_lists.proofs.Each.{Singles, lists_of}

module _ {t : List ℕ} {g : Group} (A : AcceptedProduct t g) where
  fits : all_fit (length t) (handles g) ≡ true
  fits = all_fit_lem t A.factors

  outside : {e : ℕ} → (direct t g).elements ≤ e → elements_of (handles g) ≤ e
  outside {e} h = subst (λ (n : ℕ). n ≤ e) (parts_elements t (handles g)) h

  inside : {e : ℕ} → e < (direct t g).elements → e < elements_of (handles g)
  inside {e} h = subst (λ (n : ℕ). e < n) (parts_elements t (handles g)) h

  compose_first : {a : ℕ} (b : ℕ) → (direct t g).elements ≤ a → compose_answer t g (record { 0 = a }) (record { 0 = b }) ≡ Err (numbered 14 0 0 0)
  unfolding compose_answer
  compose_first {a} b h = rw (← admits_first (length t) g a (elements_of (handles g)) b (elements_of (handles g)) fits (outside h))

  compose_second : {a b : ℕ} → a < (direct t g).elements → (direct t g).elements ≤ b → compose_answer t g (record { 0 = a }) (record { 0 = b }) ≡ Err (numbered 14 1 0 0)
  unfolding compose_answer
  compose_second {a} {b} h k = rw (← admits_second (length t) g a (elements_of (handles g)) b (elements_of (handles g)) fits (inside h) (outside k))

  inverse_stops : {a : ℕ} → (direct t g).elements ≤ a → inverse_answer t g (record { 0 = a }) ≡ Err (numbered 14 0 0 0)
  unfolding inverse_answer
  inverse_stops {a} h = rw (← admits_first (length t) g a (elements_of (handles g)) 0 1 fits (outside h))

  powi_stops : {a : ℕ} (z : ℤ) → (direct t g).elements ≤ a → powi_answer t g (record { 0 = a }) z ≡ Err (numbered 14 0 0 0)
  unfolding powi_answer
  powi_stops {a} z h = rw (← admits_first (length t) g a (elements_of (handles g)) 0 1 fits (outside h))

  -- The group is the direct product of the factors' groups, the one of all other answers.
  pub product_lists : ProductLists t g (direct t g).elements (direct t g).op (direct t g).inv
  unfolding compose_each inverse_each powi_each
  product_lists = lists_of singles where
    Q : ProductAnswers t g (direct t g)
    Q = product_answers A

    singles : Singles (direct t g).elements (direct t g).op (direct t g).inv (compose_answer t g) (inverse_answer t g) (powi_answer t g)
    singles = record {
      group = Q.group;
      composes = Q.composes;
      inverts = Q.inverts;
      powers = Q.powers;
      compose_first = compose_first;
      compose_second = compose_second;
      inverse_stops = inverse_stops;
      power_stops = powi_stops;
    }
