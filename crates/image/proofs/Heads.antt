-- Laws of an image's head: one for each answer, and what holds where it is right.
use Prim.Native.Nat.{ℕ, ◌+◌, ◌*◌, ◌≤◌, ◌<◌}
use mathlib.Core.Path.{◌≡◌, refl, sym, ap}
use mathlib.Core.Bool.{Bool, true, false}
use mathlib.Core.List.{List}
use native.Mathlib.Nat.{mul-le-mul, lt_of_le_of_lt, le_of_lt}
use native.Mathlib.Omega.{arith}
use borrow.Author.Tests.{eq-eqb, ne_eqb, lt-ltb, le-ltb, ltb-false, eqb-true, eqb-false}
use lib.Dec.{ltb, eqb, lit<}
use lib.ListN.{length, get_or}
use Rattle.egg.specs.declared.Refusal.{Refusal}
use Rattle.egg.specs.declared.Refusal.TheVariants as refusal
use Rattle.egg.specs.Answers.{Verdict, fine}
use Rattle.egg.specs.Refusals.{refusal_paper, numbered}
use Rattle.egg.specs.Scan.{refused_of}
use Rattle.egg.specs.Table.{pick}
use Rattle.egg.proofs.Scans.{refused_fine}
use Rattle.std.specs.Prelude.{Ok, Err}
use Rattle.image_check.specs.Short.{verdict_number}
use Rattle.image.specs.Image.{head_length, head_generators, head_elements, head_number, head_place, head_answer}

-- A product of a 32-bit number and one of 22 bits fits.
pub product_fits : (a b : ℕ) → a < 4294967296 → b < 4194304 → a * b < 18014398509481985
product_fits a b ha hb = lt_of_le_of_lt (mul-le-mul (le_of_lt ha) (le_of_lt hb)) (lit< tt)

pub square_fits : {n : ℕ} → n < 256 → 32 * n * n ≤ 2080800
square_fits {n} h = let p : 32 * n ≤ 8160 = omega arith in let q : n ≤ 255 = omega arith in omega (arith, mul-le-mul p q)

module _ (l : List ℕ) where
  pub head_small : length l < 8 → 16 ≡ head_number l
  unfolding head_number
  head_small a = simp (lt-ltb _ _ a)

  module _ (a : 8 ≤ length l) where
    pub head_length_lem : (head_length l + 4 ≡ length l → ⊥) → 16 ≡ head_number l
    unfolding head_number
    head_length_lem d = simp (le-ltb _ _ a, ne_eqb _ _ d)

    module _ (b : head_length l + 4 ≡ length l) where
      pub head_version : (get_or l 4 0 ≡ 1 → ⊥) → 16 ≡ head_number l
      unfolding head_number
      head_version d = simp (le-ltb _ _ a, eq-eqb _ _ b, ne_eqb _ _ d)

      module _ (v : get_or l 4 0 ≡ 1) where
        pub head_many : 8 < head_generators l → 1 ≡ head_number l
        unfolding head_number
        head_many d = simp (le-ltb _ _ a, eq-eqb _ _ b, eq-eqb _ _ v, lt-ltb _ _ d)

        module _ (g : head_generators l ≤ 8) where
          pub head_none : head_elements l ≡ 0 → 16 ≡ head_number l
          unfolding head_number
          head_none d = simp (le-ltb _ _ a, eq-eqb _ _ b, eq-eqb _ _ v, le-ltb _ _ g, eq-eqb _ _ d)

          module _ (z : head_elements l ≡ 0 → ⊥) where
            pub head_formula : (head_length l ≡ 4 + 2 * head_generators l * head_elements l → ⊥) → 16 ≡ head_number l
            unfolding head_number
            head_formula d = simp (le-ltb _ _ a, eq-eqb _ _ b, eq-eqb _ _ v, le-ltb _ _ g, ne_eqb _ _ z, ne_eqb _ _ d)

            pub head_right : head_length l ≡ 4 + 2 * head_generators l * head_elements l → 0 ≡ head_number l
            unfolding head_number
            head_right d = simp (le-ltb _ _ a, eq-eqb _ _ b, eq-eqb _ _ v, le-ltb _ _ g, ne_eqb _ _ z, eq-eqb _ _ d)

-- What a right head shows.
pub record HeadRight (l : List ℕ) : Type 0 where
  pub whole : 8 ≤ length l
  pub few : head_generators l ≤ 8
  pub some : 1 ≤ head_elements l

pub pick_first : (b : Bool) (x y : ℕ) → (y ≡ 0 → ⊥) → pick b x y ≡ 0 → (b ≡ true) × (x ≡ 0)
pick_first true x y d e = (refl, e)
pick_first false x y d e = absurd (d e)

pub pick_second : (b : Bool) (x y : ℕ) → (x ≡ 0 → ⊥) → pick b x y ≡ 0 → (b ≡ false) × (y ≡ 0)
pick_second true x y d e = absurd (d e)
pick_second false x y d e = (refl, e)

pub sixteen : ◌≡◌ {A = ℕ} 16 0 → ⊥
sixteen e = omega arith

pub unit : ◌≡◌ {A = ℕ} 1 0 → ⊥
unit e = omega arith

pub right_head : (l : List ℕ) → head_number l ≡ 0 → HeadRight l
unfolding head_number
right_head l h =
    let a = pick_second (ltb (length l) 8) 16 _ sixteen h in
    let b = pick_first (eqb (head_length l + 4) (length l)) _ 16 sixteen a.1 in
    let v = pick_first (eqb (get_or l 4 0) 1) _ 16 sixteen b.1 in
    let g = pick_second (ltb 8 (head_generators l)) 1 _ unit v.1 in
    let z = pick_second (eqb (head_elements l) 0) 16 _ sixteen g.1 in
    let no = eqb-false (head_elements l) 0 z.0 in
    record { whole = ltb-false _ _ a.0; few = ltb-false _ _ g.0; some = omega arith }

pick_below : (b : Bool) {x y k : ℕ} → x ≤ k → y ≤ k → pick b x y ≤ k
pick_below true p q = p
pick_below false p q = q

-- No number of a head is above 16.
pub head_limit : (l : List ℕ) → head_number l ≤ 16
unfolding head_number
head_limit l =
    let a : 16 ≤ 16 = omega arith in
    let b : 1 ≤ 16 = omega arith in
    let z : 0 ≤ 16 = omega arith in
    pick_below (ltb (length l) 8) a
    (pick_below (eqb (head_length l + 4) (length l))
    (pick_below (eqb (get_or l 4 0) 1)
    (pick_below (ltb 8 (head_generators l)) b
    (pick_below (eqb (head_elements l) 0) a (pick_below (eqb (head_length l) (4 + 2 * head_generators l * head_elements l)) z a)))
    a)
    a)

-- What the check of the head answers, by the head's number.
module _ (l : List ℕ) where
  pub malformed_answer : 16 ≡ head_number l → Err refusal.ImageMalformed ≡ head_answer l
  malformed_answer q = rw (← q) refl

  pub many_answer : 1 ≡ head_number l → Err (refusal.TooManyGenerators (head_generators l)) ≡ head_answer l
  many_answer q = rw (← q) refl

  pub right_answer : 0 ≡ head_number l → fine ≡ head_answer l
  right_answer q = rw (← q) refl

-- And the head's number, by that answer.
answered_fine : (b : Bool) (r : Refusal) → pick b fine (Err r) ≡ fine → b ≡ true
answered_fine true r e = refl
answered_fine false r e = absurd (refused_fine e)

abbrev why_of : Refusal → Verdict → Refusal
why_of d (Ok _) = d
why_of d (Err r) = r

answered_refused : (b : Bool) (r s : Refusal) → pick b fine (Err r) ≡ Err s → (b ≡ false) × (s ≡ r)
answered_refused true r s e = absurd (refused_fine (sym e))
answered_refused false r s e = (refl, sym (ap (why_of r) e))

pub right_number : (l : List ℕ) → head_answer l ≡ fine → 0 ≡ head_number l
right_number l e = sym (eqb-true (head_number l) 0 (answered_fine (eqb (head_number l) 0) (numbered (head_number l) (head_place l) 0 0) e))

pub bad_answer : (l : List ℕ) {r : Refusal} → head_answer l ≡ Err r → (head_number l ≡ 0 → ⊥) × (r ≡ numbered (head_number l) (head_place l) 0 0)
bad_answer l {r} e = let b = answered_refused (eqb (head_number l) 0) (numbered (head_number l) (head_place l) 0 0) r e in (eqb-false (head_number l) 0 b.0, b.1)

-- A refusal by a number has that number.
record Told (k : ℕ) : Type 0 where
  told : (a : ℕ) → verdict_number (pick (eqb k 0) fine (refused_of k a 0 0)) ≡ k

either_told : (b : Bool) {x y : ℕ} → Told x → Told y → Told (pick b x y)
either_told true p q = p
either_told false p q = q

head_told : (l : List ℕ) → Told (head_number l)
unfolding head_number
head_told l =
    either_told (ltb (length l) 8) malformed
    (either_told (eqb (head_length l + 4) (length l))
    (either_told (eqb (get_or l 4 0) 1)
    (either_told (ltb 8 (head_generators l)) many
    (either_told (eqb (head_elements l) 0) malformed
    (either_told (eqb (head_length l) (4 + 2 * head_generators l * head_elements l)) none malformed)))
    malformed)
    malformed) where
      malformed : Told 16
      malformed = record { told = λ a. refl }

      many : Told 1
      many = record { told = λ a. refl }

      none : Told 0
      none = record { told = λ a. refl }

pub answer_number : (l : List ℕ) → verdict_number (head_answer l) ≡ head_number l
answer_number l = (head_told l).told (head_place l)

pub bad_number : (l : List ℕ) → (head_number l ≡ 0 → ⊥) → (refusal_paper (numbered (head_number l) (head_place l) 0 0)).number ≡ head_number l
bad_number l d = simp (ne_eqb _ _ d) at (answer_number l)

pub refused_number : (l : List ℕ) {r : Refusal} → head_answer l ≡ Err r → (refusal_paper r).number ≡ head_number l
refused_number l e = rw e at (answer_number l)
