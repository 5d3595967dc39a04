-- Products in one factor, by the factor's own.
use Prim.Native.Nat.{ℕ, ◌+◌, ◌*◌, ◌<◌, ◌%◌}
use mathlib.Core.Path.{◌≡◌, refl, ap, ◌∙◌}
use mathlib.Core.Bool.{true}
use mathlib.Core.List.{List, [], ◌∷◌}
use native.Mathlib.Omega.{arith}
use borrow.Author.Tests.{leb-true}
use lib.Dec.{leb}
use Rattle.egg.specs.declared.Factor.{Factor}
use Rattle.egg.specs.Answers.{Reached}
use Rattle.std.specs.Prelude.{Ok, Err}
use Rattle.egg.specs.Factor.{fits_in, stretch}
use Rattle.egg.proofs.Rooms.{and_first}
use Rattle.factor_questions.specs.Walks.{compose_in}
use Rattle.egg.specs.Answers.{on_reached}
use Rattle.group_digits.specs.Digits.{above, digitwise, composes}

-- A factor whose handle fits has an element.
pub one_some : (len : ℕ) (f : Factor) → fits_in len f ≡ true → 0 < f.elements
unfolding fits_in
one_some len f h = leb-true 1 f.elements (and_first (leb 1 f.elements) _ h)

-- A number of one digit is that digit.
only_digit : (N : ℕ) (r : Reached) → r ≡ on_reached r (λ x. above x N (Ok (record { 0 = 0 })))
only_digit N (Ok x) = let d : x.0 ≡ x.0 + N * 0 = omega arith in ap (λ (k : ℕ). Ok (record { 0 = k })) d
only_digit N (Err r) = refl

pub one_product : (t : List ℕ) (f : Factor) (a b : ℕ) {s : List ℕ} {r : Reached} → s ≡ stretch t f
    → r ≡ compose_in s f.generators f.elements (a % f.elements) (b % f.elements) → r ≡ composes t (f ∷ []) a b
unfolding digitwise
one_product t f a b p q = q ∙ rw p (only_digit f.elements _)
