-- Laws of products by the numbers in the rows: how many numbers the rows have, and what product and conjugate come to.
use Prim.Native.Nat.{ℕ, ◌+◌, ◌*◌, ◌≤◌, ◌<◌}
use mathlib.Core.Path.{◌≡◌, refl, sym, ◌∙◌}
use mathlib.Core.Bool.{Bool, true, false}
use mathlib.Core.List.{List}
use native.Mathlib.Nat.{mul-le-mul}
use native.Mathlib.Omega.{arith}
use borrow.Author.Tests.{ltb-true, ltb-false}
use lib.Dec.{ltb}
use Rattle.egg.specs.Answers.{Reached}
use Rattle.std.specs.Prelude.{Ok, Err}
use Rattle.egg.specs.Table.{pick, length_of, inverse_of}
use Rattle.egg.specs.Answers.{on_reached}
use Rattle.factor_questions.specs.Walks.{back_along, compose_in, conjugate_in}
use Rattle.factor_questions.proofs.Walks.{compose_first, compose_back, inverse_element}
use Rattle.factor_compose.specs.Routes.{ending, Routed}

pub rows_small : (n : ℕ) {count w : ℕ} → w ≡ 2 * n + 4 → count < 4294967296 → n < 256 → count * w < 18446744073709551616
rows_small n {count} {w} q h k = let p : count ≤ 4294967295 = omega arith in let m : w ≤ 514 = omega arith in omega (arith, mul-le-mul p m)

-- Either way the walk starts at an element, along an element's word.
pub chosen_inside : {count x y r : ℕ} (t : Bool) → r ≡ pick t x y → x < count → y < count → r < count
chosen_inside true q h k = rw q h
chosen_inside false q h k = rw q k

-- No step after the last.
no_more : (s : List ℕ) (n count : ℕ) (v : Reached) → on_reached v (ending false s n count) ≡ v
unfolding ending
no_more s n count (Ok x) = refl
no_more s n count (Err r) = refl

-- The way along the shorter of two words, by the numbers that were read.
module _ (s : List ℕ) (n count a b : ℕ) {len i own back : ℕ} (q : len ≡ length_of s n b) (more : 5 < len) (h : len ≤ 4096) (p : i ≡ inverse_of s n b)
    (k : i < count) (v : own ≡ length_of s n a) (g : own ≤ 4096) (w : back ≡ length_of s n i) (o : back ≤ len) where
  shorter_way : (t : Bool) → ltb own len ≡ t
      → on_reached (back_along (pick t own back) s n count (pick t i a) (pick t a i)) (ending t s n count) ≡ compose_in s n count a b
  unfolding ending
  shorter_way true l = compose_first s n count a b q more h p k v (ltb-true _ _ l)
  shorter_way false l = no_more s n count (back_along back s n count a i) ∙ compose_back s n count a b q more h p k v (ltb-false _ _ l) g w o

  pub routed : {t : Bool} {letters from word : ℕ} → a < count → t ≡ ltb own len → letters ≡ pick t own back → from ≡ pick t i a → word ≡ pick t a i
      → Routed s n count a b t letters from word
  routed {t} {letters} z l d e f = record {
    starts = chosen_inside t e k z;
    along_element = chosen_inside t f z k;
    short = let l : letters < 4097 = chosen_inside t d (omega arith) (omega arith) in omega arith;
    product = rw (d, e, f) (shorter_way t (sym l));
  }

-- Where the walk leads to an element, the ending is the product.
pub ending_reached : (s : List ℕ) (n count a b : ℕ) (t : Bool) {v : Reached} {x z r : ℕ} → on_reached v (ending t s n count) ≡ compose_in s n count a b
    → v ≡ Ok (record { 0 = x }) → z ≡ inverse_of s n x → r ≡ pick t z x → r < count → compose_in s n count a b ≡ Ok (record { 0 = r })
unfolding ending
ending_reached s n count a b true {x = x} e u m y j = sym e ∙ rw (u, y) (sym (inverse_element s n count x m (rw (← y) j)))
ending_reached s n count a b false e u m y j = sym e ∙ rw (u, y)

-- a·b·a⁻¹, by the three numbers.
pub conjugate_reached : (s : List ℕ) (n count a b : ℕ) {c i r : ℕ} → compose_in s n count a b ≡ Ok (record { 0 = c }) → i ≡ inverse_of s n a → i < count
    → compose_in s n count c i ≡ Ok (record { 0 = r }) → conjugate_in s n count a b ≡ Ok (record { 0 = r })
unfolding conjugate_in
conjugate_reached s n count a b {c} {i} {r} u q h w = rw (u, ← inverse_element s n count a q h, w)
