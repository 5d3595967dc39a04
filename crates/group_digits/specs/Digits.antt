-- This file defines the questions that a product answers factor by factor. Document 01: "First factor is the fastest digit: strides 1, N0, N0·N1.."
-- So an element is x + N·y, where x is an element of the first factor, which has N, and y is one of the product of the others.
use Rattle.std.specs.Prelude.{ℕ, ◌+◌, ◌*◌, ◌-◌, ◌/◌, ◌%◌, List, [], ◌∷◌, ltb}
use Rattle.egg.specs.declared.Factor.{Factor}
use Rattle.egg.specs.Answers.{Reached}
use Rattle.std.specs.Prelude.{Ok}
use Rattle.egg.specs.Table.{pick}
use Rattle.egg.specs.Factor.{stretch, refused_reach, read_step}
use Rattle.factor_questions.specs.Walks.{compose_in, inverse_in, conjugate_in}
use Rattle.egg.specs.Answers.{on_reached}

-- x + N·y, where the other factors answered y; where they refused, their refusal.
abbrev pub above : ℕ → ℕ → Reached → Reached
above x N r = on_reached r (λ y. Ok (record { 0 = x + N * y }))

-- The questions that are answered factor by factor.
pub data PartQuestion : Type 0 where
  Compose : PartQuestion
  Inverse : PartQuestion
  Conjugate : PartQuestion

-- What one factor h answers about its digits a and b. (An inverse has one argument: b counts for nothing.)
abbrev pub digit_of : (asked : PartQuestion) (t : List ℕ) (h : Factor) (a b : ℕ) → Reached
digit_of Compose t h a b = compose_in (stretch t h) h.generators h.elements a b
digit_of Inverse t h a b = inverse_in (stretch t h) h.generators h.elements a
digit_of Conjugate t h a b = conjugate_in (stretch t h) h.generators h.elements a b

-- Asks each factor in turn, by F, about its own digits of a and b, and puts the answers together. The first refusal stands.
unfoldable pub digitwise : (Factor → ℕ → ℕ → Reached) → List Factor → ℕ → ℕ → Reached
digitwise F [] a b = Ok (record { 0 = 0 })
digitwise F (h ∷ hs) a b =
    on_reached (F h (a % h.elements) (b % h.elements)) (λ x. above x h.elements (digitwise F hs (a / h.elements) (b / h.elements)))

-- The product's a·b.
abbrev pub composes : List ℕ → List Factor → ℕ → ℕ → Reached
composes t hs a b = digitwise (digit_of Compose t) hs a b

-- The product's inverse of a.
abbrev pub inverts : List ℕ → List Factor → ℕ → Reached
inverts t hs a = digitwise (digit_of Inverse t) hs a 0

-- The step from e by the generator x: the first factor's generators come first, then those of the others. Refuses with 14 a generator that no factor
-- has.
unfoldable pub step_in : List ℕ → List Factor → ℕ → ℕ → Reached
step_in t [] e x = refused_reach 14 1
step_in t (h ∷ hs) e x =
    pick (ltb x h.generators)
    (on_reached (read_step (stretch t h) h.generators h.elements (e % h.elements) x) (λ y. Ok (record { 0 = y + h.elements * (e / h.elements) })))
    (above (e % h.elements) h.elements (step_in t hs (e / h.elements) (x - h.generators)))
