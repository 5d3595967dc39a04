-- Laws of a factor's turn over the places of a chunk, and of the factors one after another.
-- Assumes nothing.
use Prim.Native.Nat.{ℕ, ◌+◌, ◌*◌, ◌/◌, ◌%◌, ◌≤◌, ◌<◌}
use mathlib.Core.Path.{◌≡◌, refl, sym, ap, ◌∙◌, subst}
use mathlib.Core.List.{List, [], ◌∷◌}
use native.Mathlib.Nat.{mul-le-mul_left, mul-zero, zero-div}
use native.Mathlib.Omega.{arith}
use lib.ListN.{length, get_or, take, drop}
use lib.Seq.{get_or-take}
use Rattle.egg.specs.declared.Factor.{Factor}
use Rattle.egg.specs.Answers.{Reached}
use Rattle.std.specs.Prelude.{Ok}
use Rattle.egg.specs.Factor.{stretch}
use Rattle.egg.specs.Table.{inverse_of}
use Rattle.lists.specs.Passes.{Written}
use Rattle.lists_walks.specs.Products.{Multiplied, Products}
use Rattle.group_handles.specs.declared.Group.{Group}
use Rattle.group_handles.specs.Handles.{handles}
use Rattle.factor_questions.proofs.Walks.{inverse_element}
use Rattle.group_digits.specs.Digits.{PartQuestion, Compose, Inverse, digit_of}
use Rattle.group_digits.proofs.Walks.{Walk, walk, walk_on, Gathering, gathering, gathers_on, gathers_end, compose_below, below_element}
use Rattle.lists_group.specs.Passes.{Cut, Addable, Low, Inverted, Gathered}

-- The invariant of the loop over the factors: at each place it is that of `compose_digits`, or of `inverse_digits`, for which ys is empty.
pub record Together (asked : PartQuestion) (t : List ℕ) (hs : List Factor) (k : ℕ) (a b : List ℕ) (f s : ℕ) (xs ys sums : List ℕ) : Type 0 where
  pub strides : Walk hs f s 0
  pub each : (i : ℕ) → i < k → Gathering (digit_of asked t) hs (get_or a i 0) (get_or b i 0) f s (get_or sums i 0) (get_or xs i 0) (get_or ys i 0)

gathering_as : {F : Factor → ℕ → ℕ → Reached} {hs : List Factor} {a b f s sum x y u v w : ℕ} → Gathering F hs a b f s sum x y → u ≡ sum → v ≡ x → w ≡ y
    → Gathering F hs a b f s u v w
gathering_as g p q r = rw (p, q, r) g

pub together : (asked : PartQuestion) (t : List ℕ) (hs : List Factor) {k : ℕ} (a b : List ℕ) {sums : List ℕ} → Written k (λ i. 0) sums
    → Together asked t hs k a b 0 1 a b sums
together asked t hs a b z = record {
  strides = walk hs;
  each = λ i u. gathering_as (gathering hs (get_or a i 0) (get_or b i 0)) (z.each i u) refl refl;
}

pub gathered : {asked : PartQuestion} {t : List ℕ} {g : Group} {k : ℕ} {a b : List ℕ} {f s : ℕ} {xs ys sums : List ℕ}
    → Together asked t (handles g) k a b f s xs ys sums → drop f (handles g) ≡ [] → Gathered asked t g k a b sums
gathered w d = record { each = λ i u. sym (gathers_end (w.each i u) d) }

-- A factor's turn at one place: what it answers about the digits, and what becomes of the sum and of the numbers they are cut off.
record Turned (asked : PartQuestion) (t : List ℕ) (h : Factor) (s x y sum left right added : ℕ) : Type 0 where
  pub digit : ℕ
  pub told : digit_of asked t h (x % h.elements) (y % h.elements) ≡ Ok (record { 0 = digit })
  pub below : digit < h.elements
  pub grown : added ≡ sum + s * digit
  pub first : left ≡ x / h.elements
  pub second : right ≡ y / h.elements

module _ {asked : PartQuestion} {t : List ℕ} {hs : List Factor} {k : ℕ} {a b : List ℕ} {f s : ℕ} {xs ys sums : List ℕ}
    (w : Together asked t hs k a b f s xs ys sums)
  where
    pub low : Low k s sums
    low = record { each = λ i u. (w.each i u).walks.inside }

    turn : {h : Factor} → drop f hs ≡ h ∷ drop (f + 1) hs → 0 < h.elements → {left right added : List ℕ}
        → ((i : ℕ) → i < k → Turned asked t h s (get_or xs i 0) (get_or ys i 0) (get_or sums i 0) (get_or left i 0) (get_or right i 0) (get_or added i 0))
        → Together asked t hs k a b (f + 1) (s * h.elements) left right added
    turn {h} d some p = record {
      strides = let none : 0 + s * 0 ≡ 0 = omega (arith, mul-zero s) in subst (λ (z : ℕ). Walk hs (f + 1) (s * h.elements) z) none (walk_on w.strides d some);
      each = λ i u. gathering_as (gathers_on (w.each i u) d refl (p i u).told (p i u).below) (p i u).grown (p i u).first (p i u).second;
    }

-- A factor's turn at inverses, which stand in its rows.
pub inverts_on : {t : List ℕ} {hs : List Factor} {k : ℕ} {a : List ℕ} {f s : ℕ} {xs sums : List ℕ} → Together Inverse t hs k a [] f s xs [] sums
    → {h : Factor} → drop f hs ≡ h ∷ drop (f + 1) hs → 0 < h.elements → {at : List ℕ} → at ≡ stretch t h → {left added : List ℕ}
    → Inverted at h.generators h.elements s k xs sums left added → Together Inverse t hs k a [] (f + 1) (s * h.elements) left [] added
inverts_on {t} {xs = xs} w {h} d some {at} q v = turn w d some (λ i u. record {
  digit = inverse_of at h.generators (get_or xs i 0 % h.elements);
  told = rw (← q) (sym (inverse_element at h.generators h.elements (get_or xs i 0 % h.elements) refl (v.small i u)));
  below = v.small i u;
  grown = v.sum.each i u;
  first = v.rest.each i u;
  second = sym (zero-div h.elements);
})

-- A product is an element of the factor.
product_below : {s : List ℕ} {n count x y z : ℕ} → Multiplied s n count x y z → z < count
product_below {s} {n} {count} {x} {y} m = below_element (compose_below s n count x y m.first) refl m.product

multiplied_as : {s : List ℕ} {n count x y z u v : ℕ} → Multiplied s n count x y z → x ≡ u → y ≡ v → Multiplied s n count u v z
multiplied_as {s} {n} {count} {x} {y} {z} {u} {v} m p q =
    subst (λ (i : ℕ). Multiplied s n count i v z) p (subst (λ (j : ℕ). Multiplied s n count x j z) q m)

-- A factor's turn at products: those of the digits, which stand at the start of dx and dy.
module _ {t : List ℕ} {hs : List Factor} {k : ℕ} {a b : List ℕ} {f s : ℕ} {xs ys sums : List ℕ} (w : Together Compose t hs k a b f s xs ys sums)
    {at : List ℕ} {n count : ℕ} {firsts seconds ds : List ℕ} (p : Products at n count firsts seconds ds) (long : length firsts ≡ k)
  where
    pub addable : s * count ≤ 4294967295 → Addable k s ds sums
    addable fits = record {
      each = λ i u. let there : i < length firsts = omega (arith, long) in
          let small : get_or ds i 0 < count = product_below (p.each i there) in
          omega (arith, (w.each i u).walks.inside, mul-le-mul_left s small, fits);
    }

    multiplied : {dx dy left right : List ℕ} → Cut count k xs dx left → Cut count k ys dy right → firsts ≡ take k dx → seconds ≡ take k dy → (i : ℕ) → i < k
        → Multiplied at n count (get_or xs i 0 % count) (get_or ys i 0 % count) (get_or ds i 0)
    multiplied {dx} {dy} x y qx qy i u =
        let there : i < length firsts = omega (arith, long) in
        multiplied_as (p.each i there)
        (ap (λ (l : List ℕ). get_or l i 0) qx ∙ get_or-take k dx i 0 u ∙ x.digit.each i u)
        (ap (λ (l : List ℕ). get_or l i 0) qy ∙ get_or-take k dy i 0 u ∙ y.digit.each i u)

    pub turns : {h : Factor} → drop f hs ≡ h ∷ drop (f + 1) hs → 0 < h.elements → at ≡ stretch t h → n ≡ h.generators → count ≡ h.elements
        → {dx dy left right added : List ℕ} → Cut count k xs dx left → Cut count k ys dy right → firsts ≡ take k dx → seconds ≡ take k dy
        → Written k (λ i. get_or sums i 0 + s * get_or ds i 0) added → Together Compose t hs k a b (f + 1) (s * h.elements) left right added
    turns {h} d some q qn qc x y qx qy r = turn w d some (λ i u.
        let m : Multiplied at n count (get_or xs i 0 % count) (get_or ys i 0 % count) (get_or ds i 0) = multiplied x y qx qy i u in record {
          digit = get_or ds i 0;
          told = rw (← q, ← qn, ← qc) m.product;
          below = rw (← qc) (product_below m);
          grown = r.each i u;
          first = x.rest.each i u ∙ ap (λ (c : ℕ). get_or xs i 0 / c) qc;
          second = y.rest.each i u ∙ ap (λ (c : ℕ). get_or ys i 0 / c) qc;
        })
