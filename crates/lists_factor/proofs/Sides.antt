-- What the quick walks have found, or the powers in step, at every place is what the single call answers there.
-- Assumes nothing.
use Prim.Native.Nat.{ℕ, ◌+◌, ◌*◌, ◌≤◌, ◌<◌}
use mathlib.Core.Path.{◌≡◌}
use mathlib.Core.Bool.{true}
use mathlib.Core.List.{List}
use native.Mathlib.Nat.{mul-le-mul, le_refl}
use native.Mathlib.Omega.{arith}
use borrow.Author.Tests.{lt-leb}
use lib.ListN.{length, get_or, drop, length-drop}
use lib.Seq.{length-take-le}
use lib.IntN.{ℤ, pos}
use Rattle.egg.specs.declared.Factor.{Factor}
use Rattle.egg.specs.Factor.{fits_in, stretch}
use Rattle.egg.specs.Table.{start_of}
use Rattle.egg.proofs.Rooms.{has, within_length, room_enough}
use Rattle.std.specs.Prelude.{Ok}
use Rattle.factor_questions.specs.Walks.{compose_in, inverse_in}
use Rattle.factor.specs.Questions.{compose_answer, inverse_answer}
use Rattle.factor.proofs.Admits.{admits_fine}
use Rattle.group_powers.specs.Powers.{powi_alone}
use Rattle.lists.specs.Worked.{AllRight}
use Rattle.lists_walks.specs.Products.{Multiplied, Products}
use Rattle.lists_powers.specs.Powers.{Power, Powered}
use Rattle.lists_factor.specs.Each.{compose_at, powi_at}

pub product_right : (t : List ℕ) (f : Factor) {s : List ℕ} {a b r : ℕ} → fits_in (length t) f ≡ true → s ≡ stretch t f → a < f.elements → b < f.elements
    → compose_in s f.generators f.elements a b ≡ Ok (record { 0 = r }) → compose_answer t f (record { 0 = a }) (record { 0 = b }) ≡ Ok (record { 0 = r })
unfolding compose_answer
product_right t f {s} {a} {b} fits q first second p = rw (← admits_fine (length t) f a b fits first second, ← q) p

pub factor_right : (t : List ℕ) (f : Factor) {s a b results : List ℕ} → fits_in (length t) f ≡ true → s ≡ stretch t f
    → Products s f.generators f.elements a b results → AllRight (length a) (compose_at t f a b) results
factor_right t f {s} {a} {b} {results} fits q p = record {
  each = λ i h. let m : Multiplied s f.generators f.elements (get_or a i 0) (get_or b i 0) (get_or results i 0) = p.each i h in
      product_right t f fits q m.first m.second m.product;
}

pub powers_right : (t : List ℕ) (f : Factor) {s a : List ℕ} {exponents : List ℤ} {results : List ℕ} → fits_in (length t) f ≡ true → s ≡ stretch t f
    → Powered s f.generators f.elements a exponents results → AllRight (length a) (powi_at t f a exponents) results
unfolding powi_alone
powers_right t f {s} {a} {exponents} {results} fits q p = record {
  each = λ i h. let m : Power s f.generators f.elements (get_or a i 0) (get_or exponents i (pos 0)) (get_or results i 0) = p.each i h in
      rw (← admits_fine (length t) f (get_or a i 0) 0 fits m.element (omega (arith, m.element)), ← q) m.power;
}

-- The rows of all elements stand in the stretch of a handle that fits.
pub rows_there : (t : List ℕ) (f : Factor) {s : List ℕ} → fits_in (length t) f ≡ true → s ≡ stretch t f → f.elements * (2 * f.generators + 4) ≤ length s
unfolding stretch
rows_there t f {s} fits q =
    let long : length (stretch t f) ≡ f.room * (2 * f.generators + 4) =
    length-take-le (f.room * (2 * f.generators + 4)) (drop f.start t) (rw (length-drop f.start t) (omega (arith, within_length (length t) f.start f.room f.generators (has (length t) f fits)))) in
    let fewer : f.elements * (2 * f.generators + 4) ≤ f.room * (2 * f.generators + 4) = mul-le-mul (room_enough (length t) f fits) (le_refl (2 * f.generators + 4)) in
    rw (q, long) fewer

-- What stands in an element's row as its inverse, where that is an element too.
pub inverse_right : (t : List ℕ) (f : Factor) {s : List ℕ} {a r : ℕ} → fits_in (length t) f ≡ true → s ≡ stretch t f → a < f.elements
    → r ≡ get_or s (start_of f.generators a + 2 * f.generators + 3) 0 → r < f.elements → inverse_answer t f (record { 0 = a }) ≡ Ok (record { 0 = r })
unfolding inverse_answer inverse_in
inverse_right t f {s} {a} {r} fits q first is below =
    rw (← admits_fine (length t) f a 0 fits first (omega (arith, first)), ← q, ← is, lt-leb _ _ below)
