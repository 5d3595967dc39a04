-- Laws of the list of handles: how long it is, and what stands at a place of it.
use Prim.Native.Nat.{ℕ, zero, suc, ◌+◌, ◌≤◌, ◌<◌}
use mathlib.Core.Path.{◌≡◌, refl, sym, ap, ◌∙◌}
use mathlib.Core.Bool.{true}
use mathlib.Core.List.{List, [], ◌∷◌, map}
use native.Mathlib.Nat.{mul-pos}
use native.Mathlib.Omega.{arith}
use lib.ListN.{length, get_or, take, drop, length-map, drop_of_length-le, get_or-eq_default}
use lib.Seq.{length-take-le, take_all, drop-cons, get_or-take}
use Rattle.egg.specs.declared.Factor.{Factor}
use Rattle.egg.specs.Factor.{fits_in}
use Rattle.egg.proofs.Rooms.{and_first, and_second, some}
use Rattle.build_lending.proofs.Fits.{fits_small}
use Rattle.build_lending.specs.Lending.{no_factor}
use Rattle.group_handles.specs.declared.Group.{Group}
use Rattle.group_handles.specs.Handles.{handles, sizes, elements_of, all_fit}
use Rattle.group_handles.specs.Alone.{Alone}

pub mapped_length : {A B : Type 0} (f : A → B) (l : List A) {n : ℕ} → length (map f l) ≡ n → length l ≡ n
mapped_length f l q = sym (length-map l f) ∙ q

module _ (g : Group) (q : length g.factors ≡ 8) where
  pub listed_many : 8 < g.count → 8 ≡ length (handles g)
  listed_many h =
      let k : length g.factors ≤ g.count = rw q (omega arith) in
      sym q ∙ ap length (sym (take_all g.count g.factors k))

  pub listed_few : g.count ≤ 8 → g.count ≡ length (handles g)
  listed_few h = sym (length-take-le g.count g.factors (rw q h))

-- The first of the eight is the one that is listed.
first_listed : (l : List Factor) (k : ℕ) → length l ≡ 8 → k ≡ 1 → take k l ≡ get_or l 0 no_factor ∷ []
first_listed [] k q c = absurd (omega (arith, q))
first_listed (x ∷ l) k q c = rw c

pub is_alone : (g : Group) → length g.factors ≡ 8 → g.count ≡ 1 → Alone g
is_alone g q c = record { counted = c; listed = first_listed g.factors g.count q c }

-- The front of a list, of any kind, that a loop goes over: the handles that are listed are one, and the names of a product another.
module _ {A : Type 0} where
  take_shorter : (n : ℕ) (l : List A) → length (take n l) ≤ n
  take_shorter zero l = omega arith
  take_shorter (suc n) [] = omega arith
  take_shorter (suc n) (x ∷ l) = omega (arith, take_shorter n l)

  pub front_turn : (n : ℕ) (l : List A) (f : ℕ) (x : A) {k : ℕ} → k ≡ length (take n l) → f < k
      → drop f (take n l) ≡ get_or l f x ∷ drop (f + 1) (take n l)
  front_turn n l f x p h =
      let d : f < length (take n l) = rw (← p) h in
      let e : f < n = omega (arith, d, take_shorter n l) in
      let z : suc f ≡ f + 1 = omega arith in
      drop-cons (take n l) f x d ∙ rw (get_or-take n l f x e, z)

  pub turned_all : (l : List A) (f : ℕ) {k : ℕ} → k ≡ length l → k ≤ f → drop f l ≡ []
  turned_all l f {k} p h = drop_of_length-le l {i = f} (rw (← p) h)

-- What stands at a place.
module _ (g : Group) (f : ℕ) where
  pub handle_none : {k : ℕ} → k ≡ length (handles g) → k ≤ f → no_factor ≡ get_or (handles g) f no_factor
  handle_none {k} q h =
      let d : length (handles g) ≤ f = rw (← q) h in
      sym (get_or-eq_default (handles g) no_factor d)

  pub handle_at_lem : {k : ℕ} → k ≡ length (handles g) → f < k → get_or g.factors f no_factor ≡ get_or (handles g) f no_factor
  handle_at_lem q h =
      let d : f < g.count = omega (arith, q, take_shorter g.count g.factors) in
      sym (get_or-take g.count g.factors f no_factor d)

pub sizes_length : (hs : List Factor) → length (sizes hs) ≡ length hs
sizes_length [] = refl
sizes_length (h ∷ hs) = ap suc (sizes_length hs)

pub sizes_at : (hs : List Factor) (f : ℕ) → f < length hs → (get_or hs f no_factor).elements ≡ get_or (sizes hs) f 1
sizes_at [] f h = absurd (omega arith)
sizes_at (x ∷ hs) zero h = refl
sizes_at (x ∷ hs) (suc f) h = sizes_at hs f (omega arith)

pub size_none : (hs : List Factor) (f : ℕ) → length hs ≤ f → 1 ≡ get_or (sizes hs) f 1
size_none hs f h =
    let d : length (sizes hs) ≤ f = rw (sizes_length hs) h in
    sym (get_or-eq_default (sizes hs) 1 d)

-- Each handle of those that fit.
pub fits_at : (len : ℕ) (hs : List Factor) (f : ℕ) → all_fit len hs ≡ true → f < length hs → fits_in len (get_or hs f no_factor) ≡ true
fits_at len [] f a h = absurd (omega arith)
fits_at len (x ∷ hs) zero a h = and_first (fits_in len x) _ a
fits_at len (x ∷ hs) (suc f) a h = fits_at len hs f (and_second (fits_in len x) _ a) (omega arith)

pub positive : (len : ℕ) (hs : List Factor) → all_fit len hs ≡ true → 0 < elements_of hs
positive len [] a = omega arith
positive len (x ∷ hs) a =
    mul-pos (some len x (and_first (fits_in len x) _ a)) (positive len hs (and_second (fits_in len x) _ a))

-- A turn of a loop over the handles of a product, by the place of its handle.
module _ (g : Group) (f : ℕ) {k : ℕ} (p : k ≡ length (handles g)) (l : f < k) where
  pub turn_at : drop f (handles g) ≡ get_or g.factors f no_factor ∷ drop (f + 1) (handles g)
  turn_at = front_turn g.count g.factors f no_factor p l

  module _ (len : ℕ) (a : all_fit len (handles g) ≡ true) where
    pub fits_there : fits_in len (get_or g.factors f no_factor) ≡ true
    fits_there = rw (handle_at_lem g f p l) (fits_at len (handles g) f a (rw (← p) l))

    pub some_there : 0 < (get_or g.factors f no_factor).elements
    some_there = some len (get_or g.factors f no_factor) fits_there

    pub few_there : (get_or g.factors f no_factor).elements ≤ 65535
    few_there = (fits_small len (get_or g.factors f no_factor) fits_there).1
