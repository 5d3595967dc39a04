-- Laws of the pass over the handles, and of two lists of handles joined.
use Prim.Native.Nat.{ℕ, zero, suc, ◌+◌, ◌*◌, ◌-◌, ◌≤◌, ◌<◌}
use mathlib.Core.Path.{◌≡◌, refl, sym, ap, ◌∙◌}
use mathlib.Core.Bool.{Bool, true, ◌&&◌, and-true, and_assoc}
use mathlib.Core.List.{List, [], ◌∷◌, ◌++◌}
use native.Mathlib.Nat.{add_assoc}
use native.Mathlib.Omega.{arith}
use lib.ListN.{length, get_or, drop, replicate}
use Rattle.egg.specs.declared.Factor.{Factor}
use Rattle.egg.specs.Factor.{fits_in}
use Rattle.build_lending.specs.Lending.{no_factor}
use Rattle.group_handles.specs.declared.Group.{Group}
use Rattle.group_handles.specs.declared.inner.Seen.{Seen}
use Rattle.group_handles.specs.Handles.{elements_of, generators_of, all_fit, capped, seen, group_of}
use Rattle.group_handles.proofs.Caps.{Capping, capping, caps_on, caps_end}

pub record Adding (hs : List Factor) (f n : ℕ) : Type 0 where
  pub small : n ≤ 255 * f
  pub same : n + generators_of (drop f hs) ≡ generators_of hs

pub adding : (hs : List Factor) → Adding hs 0 0
adding hs = record { small = omega arith; same = omega arith }

pub adds_on : {hs : List Factor} {f n : ℕ} {h : Factor} → Adding hs f n → drop f hs ≡ h ∷ drop (f + 1) hs → h.generators < 256 → Adding hs (f + 1) (n + h.generators)
adds_on {hs} {f} {n} {h} w d k = record {
  small = omega (arith, w.small);
  same = add_assoc n h.generators (generators_of (drop (f + 1) hs)) ∙ ap (λ (l : List Factor). n + generators_of l) (sym d) ∙ w.same;
}

pub adds_end : {hs : List Factor} {f n : ℕ} → Adding hs f n → drop f hs ≡ [] → n ≡ generators_of hs
adds_end {hs} {f} {n} w d =
    let z : n ≡ n + 0 = omega arith in
    z ∙ ap (λ (l : List Factor). n + generators_of l) (sym d) ∙ w.same

-- One pass over the handles: what was seen so far and what is left give the whole.
pub record Looking (len : ℕ) (hs : List Factor) (f : ℕ) (fit : Bool) (elements generators : ℕ) : Type 0 where
  pub fits : fit && all_fit len (drop f hs) ≡ all_fit len hs
  pub caps : Capping hs f elements
  pub adds : Adding hs f generators

pub looking : (len : ℕ) (hs : List Factor) → Looking len hs 0 true 1 0
looking len hs = record { fits = refl; caps = capping hs; adds = adding hs }

pub looks_on : {len : ℕ} {hs : List Factor} {f : ℕ} {fit : Bool} {elements generators : ℕ} {h : Factor}
    → Looking len hs f fit elements generators → drop f hs ≡ h ∷ drop (f + 1) hs
    → {b x : Bool} → b ≡ fits_in len h → x ≡ fit && b → {r : ℕ} → r ≡ capped (elements * h.elements) → h.generators < 256
    → Looking len hs (f + 1) x r (generators + h.generators)
looks_on {len} {hs} {f} {fit} {h = h} w d {b} {x} p q u k = record {
  fits =
      rw (q, p) (and_assoc fit (fits_in len h) (all_fit len (drop (f + 1) hs)) ∙ ap (λ (l : List Factor). fit && all_fit len l) (sym d) ∙ w.fits);
  caps = caps_on w.caps d u;
  adds = adds_on w.adds d k;
}

pub looks_end : {len : ℕ} {hs : List Factor} {f : ℕ} {fit : Bool} {elements generators : ℕ} → Looking len hs f fit elements generators → drop f hs ≡ []
    → ◌≡◌ {A = Seen} (record { fit = fit; elements = elements; generators = generators }) (seen len hs)
looks_end {len} {hs} {f} {fit} {elements} {generators} w d =
    let p : fit ≡ all_fit len hs = sym (and-true fit) ∙ ap (λ (l : List Factor). fit && all_fit len l) (sym d) ∙ w.fits in
    let q : elements ≡ capped (elements_of hs) = caps_end w.caps d in
    let r : generators ≡ generators_of hs = adds_end w.adds d in
    rw (p, q, r)

-- What stands at a place of two lists joined, and a list of at most eight by its places. A product's names are joined so too.
module _ {A : Type 0} (none : A) where
  pub either_left : (xs ys : List A) (i : ℕ) → i < length xs → get_or xs i none ≡ get_or (xs ++ ys) i none
  either_left [] ys i h = absurd (omega arith)
  either_left (x ∷ xs) ys zero h = refl
  either_left (x ∷ xs) ys (suc i) h = either_left xs ys i (omega arith)

  pub either_right : (xs ys : List A) (i j : ℕ) → length xs + j ≡ i → get_or ys j none ≡ get_or (xs ++ ys) i none
  either_right [] ys i j h = let z : j ≡ i = omega (arith, h) in rw z
  either_right (x ∷ xs) ys zero j h = absurd (omega (arith, h))
  either_right (x ∷ xs) ys (suc i) j h = either_right xs ys i j (omega (arith, h))

  pub eight : (l : List A) → length l ≤ 8
      → get_or l 0 none ∷ get_or l 1 none ∷ get_or l 2 none ∷ get_or l 3 none ∷ get_or l 4 none ∷ get_or l 5 none ∷ get_or l 6 none ∷ get_or l 7 none ∷ []
      ≡ l ++ replicate (8 - length l) none
  eight [] h = refl
  eight (a ∷ []) h = refl
  eight (a ∷ b ∷ []) h = refl
  eight (a ∷ b ∷ c ∷ []) h = refl
  eight (a ∷ b ∷ c ∷ d ∷ []) h = refl
  eight (a ∷ b ∷ c ∷ d ∷ e ∷ []) h = refl
  eight (a ∷ b ∷ c ∷ d ∷ e ∷ f ∷ []) h = refl
  eight (a ∷ b ∷ c ∷ d ∷ e ∷ f ∷ g ∷ []) h = refl
  eight (a ∷ b ∷ c ∷ d ∷ e ∷ f ∷ g ∷ i ∷ []) h = refl
  eight (a ∷ b ∷ c ∷ d ∷ e ∷ f ∷ g ∷ i ∷ j ∷ l) h = absurd (omega arith)

pub both_length : (xs ys : List Factor) → length (xs ++ ys) ≡ length xs + length ys
both_length [] ys = omega arith
both_length (x ∷ xs) ys = omega (arith, both_length xs ys)

pub eight_are : (l : List Factor) {a b c d e f g h : Factor} {k : ℕ} → length l ≤ 8 → a ≡ get_or l 0 no_factor → b ≡ get_or l 1 no_factor → c ≡ get_or l 2 no_factor → d ≡ get_or l 3 no_factor
    → e ≡ get_or l 4 no_factor → f ≡ get_or l 5 no_factor → g ≡ get_or l 6 no_factor → h ≡ get_or l 7 no_factor → k ≡ length l
    → ◌≡◌ {A = Group} (record { factors = a ∷ b ∷ c ∷ d ∷ e ∷ f ∷ g ∷ h ∷ []; count = k }) (group_of l)
eight_are l z p₀ p₁ p₂ p₃ p₄ p₅ p₆ p₇ q =
    rw (p₀, p₁, p₂, p₃, p₄, p₅, p₆, p₇, q) (ap (λ (x : List Factor). record { factors = x; count = length l }) (eight no_factor l z))
