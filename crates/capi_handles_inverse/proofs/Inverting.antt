-- Laws of the inverse by one pass over the handles: each digit's inverse is read on the way.
use Prim.Native.Nat.{ℕ, ◌+◌, ◌*◌, ◌/◌, ◌%◌, ◌≤◌, ◌<◌}
use mathlib.Core.Path.{◌≡◌, refl, sym, ap, ◌∙◌}
use mathlib.Core.Bool.{Bool, true, false, ◌&&◌}
use mathlib.Core.List.{List, [], ◌∷◌}
use native.Mathlib.Nat.{mul-le-mul}
use native.Mathlib.Omega.{arith}
use borrow.Author.Tests.{ltb-true, ltb-false, le-leb, lt-leb}
use lib.ListN.{length, drop}
use lib.Dec.{ltb}
use Rattle.egg.specs.declared.Factor.{Factor}
use Rattle.std.specs.Prelude.{Ok}
use Rattle.egg.specs.Table.{pick, inverse_of}
use Rattle.egg.specs.Factor.{fits_in, stretch, refused_reach}
use Rattle.egg.proofs.Rooms.{false_true}
use Rattle.build_lending.proofs.Fits.{fits_small}
use Rattle.factor_questions.specs.Walks.{inverse_in}
use Rattle.group_handles.specs.Handles.{handles, elements_of, all_fit, capped}
use Rattle.group_digits.specs.Digits.{Inverse, digit_of, inverts}
use Rattle.group_handles.proofs.Caps.{cap_small}
use Rattle.group_handles.proofs.Lists.{positive}
use Rattle.group_digits.proofs.Walks.{Gathering, gathering, gathers_on, gathers_stop, gathers_end, stride_fits}
use Rattle.capi_handles.specs.Product.{product_of}
use Rattle.capi_handles_inverse.specs.Inverted.{Inverted}
use Rattle.capi_handles.proofs.Passing.{Passing, passed_small, passed_all, passes_stop}

-- Where every handle fits and the product has numbers of 32 bits: the digits are gathered while each inverse is in range, and one that is not decides the answer.
pub record Inverting (t : List ℕ) (hs : List Factor) (a f s : ℕ) (right : Bool) (sum x : ℕ) : Type 0 where
  pub small : sum ≤ f * 281474976710656
  pub gathers : right ≡ true → all_fit (length t) hs ≡ true → elements_of hs ≤ 4294967295 → (y : ℕ) × Gathering (digit_of Inverse t) hs a 0 f s sum x y
  pub stops : right ≡ false → all_fit (length t) hs ≡ true → elements_of hs ≤ 4294967295 → refused_reach 17 0 ≡ inverts t hs a

pub inverting : (t : List ℕ) (hs : List Factor) (a : ℕ) → Inverting t hs a 0 1 true 0 a
inverting t hs a = record {
  small = omega arith;
  gathers = λ q c d. (0, gathering hs a 0);
  stops = λ q c d. absurd (false_true (sym q));
}

module _ (t : List ℕ) (h : Factor) (a b : ℕ) {i : ℕ} (q : i ≡ inverse_of (stretch t h) h.generators a) where
  digit_there : i < h.elements → Ok (record { 0 = i }) ≡ digit_of Inverse t h a b
  unfolding inverse_in
  digit_there k = rw (← q) (simp (lt-leb _ _ k))

  digit_lost : h.elements ≤ i → refused_reach 17 0 ≡ digit_of Inverse t h a b
  unfolding inverse_in
  digit_lost k = rw (← q) (simp (le-leb _ _ k))

pub digit_small : (len : ℕ) (h : Factor) (i : ℕ) {v : ℕ} → fits_in len h ≡ true → v ≡ pick (ltb i h.elements) i 0 → v ≤ 65535
digit_small len h i {v} k q = by (ltb i h.elements) refl q where
  by : (b : Bool) → ltb i h.elements ≡ b → v ≡ pick b i 0 → v ≤ 65535
  by true e p = omega (arith, (fits_small len h k).1, ltb-true i h.elements e)
  by false e p = omega arith

module _ {t : List ℕ} {hs : List Factor} {a f s : ℕ} {right : Bool} {sum x : ℕ} {h : Factor} (p : Passing (length t) hs f s) (w : Inverting t hs a f s right sum x)
    (d : drop f hs ≡ h ∷ drop (f + 1) hs) (k : fits_in (length t) h ≡ true) {i : ℕ} (q : i ≡ inverse_of (stretch t h) h.generators (x % h.elements))
  where
    pub product_small : {v : ℕ} → v ≡ pick (ltb i h.elements) i 0 → s * v ≤ 281474976710656
    product_small {v} e =
        let l : v ≤ 65535 = digit_small (length t) h i k e in
        omega (arith, mul-le-mul (passed_small p) l)

    module _ {v s₁ : ℕ} (e : v ≡ pick (ltb i h.elements) i 0) (u : s₁ ≡ capped (s * h.elements)) where
      small_on : sum + s * v ≤ (f + 1) * 281474976710656
      small_on = omega (arith, w.small, product_small e)

      digit_right_lem : right ≡ true → ltb i h.elements ≡ true → Inverting t hs a (f + 1) s₁ true (sum + s * v) (x / h.elements)
      digit_right_lem m n = record {
        small = small_on;
        gathers = λ o c b.
            let (y, G) = w.gathers m c b in
            let l : i < h.elements = ltb-true i h.elements n in
            let z : s₁ ≡ s * h.elements = u ∙ cap_small (omega (arith, b, stride_fits G.walks d (positive (length t) hs c))) in
            let j : v ≡ i = e ∙ ap (λ (g : Bool). pick g i 0) n in
            (y / h.elements, rw (z, j) (gathers_on G d (digit_there t h (x % h.elements) (y % h.elements) q l) refl l));
        stops = λ o c b. absurd (false_true (sym o));
      }

      digit_wrong : right ≡ true → ltb i h.elements ≡ false → Inverting t hs a (f + 1) s₁ false (sum + s * v) (x / h.elements)
      digit_wrong m n = record {
        small = small_on;
        gathers = λ o c b. absurd (false_true o);
        stops = λ o c b.
            let (y, G) = w.gathers m c b in
            gathers_stop G d (digit_lost t h (x % h.elements) (y % h.elements) q (ltb-false i h.elements n)) refl;
      }

      digit_after : right ≡ false → Inverting t hs a (f + 1) s₁ false (sum + s * v) (x / h.elements)
      digit_after m = record {
        small = small_on;
        gathers = λ o c b. absurd (false_true o);
        stops = λ o c b. w.stops m c b;
      }

      inverts_by : (b c : Bool) → right ≡ b → ltb i h.elements ≡ c → Inverting t hs a (f + 1) s₁ (b && c) (sum + s * v) (x / h.elements)
      inverts_by true true m n = digit_right_lem m n
      inverts_by true false m n = digit_wrong m n
      inverts_by false c m n = digit_after m

      pub inverts_on : {b : Bool} → b ≡ right && ltb i h.elements → Inverting t hs a (f + 1) s₁ b (sum + s * v) (x / h.elements)
      inverts_on y = rw y (inverts_by right (ltb i h.elements) refl refl)

-- At the end.
module _ (t l : List ℕ) (count : ℕ) {a f s : ℕ} {right : Bool} {sum x : ℕ} (p : Passing (length t) (handles (product_of l count)) f s) (w : Inverting t (handles (product_of l count)) a f s right sum x) where
  pub inverts_none : {h : Factor} → drop f (handles (product_of l count)) ≡ h ∷ drop (f + 1) (handles (product_of l count)) → fits_in (length t) h ≡ false
      → Inverted t l count a (record { seen = record { fit = false; elements = s; generators = 0 }; right = right; sum = sum })
  inverts_none d k = record {
    looked = passes_stop p d k 0;
    lost = λ q. absurd (false_true q);
    small = λ q. absurd (false_true q);
    found = λ q. absurd (false_true q);
  }

  pub inverts_all : drop f (handles (product_of l count)) ≡ []
      → Inverted t l count a (record { seen = record { fit = true; elements = s; generators = 0 }; right = right; sum = sum })
  inverts_all d =
      let S = passed_all p d 0 in
      let fits : all_fit (length t) (handles (product_of l count)) ≡ true = sym S.fits in
      record {
        looked = S;
        lost = λ q b m. w.stops m fits b;
        small = λ q b m.
            let (y, G) = w.gathers m fits b in
            let z : s ≡ elements_of (handles (product_of l count)) = S.whole refl ∙ cap_small b in
            omega (arith, z, b, G.walks.inside);
        found = λ q b m. let (y, G) = w.gathers m fits b in gathers_end G d;
      }
