-- Laws of a walk in digits: what is left to walk from here leads where the whole word leads.
use Prim.Native.Nat.{ℕ, zero, suc, ◌+◌, ◌-◌, ◌/◌, ◌%◌, ◌≤◌, ◌<◌}
use mathlib.Core.Path.{◌≡◌, refl, sym, ◌∙◌}
use mathlib.Core.Bool.{Bool, true, false}
use mathlib.Core.List.{List, [], ◌∷◌}
use native.Mathlib.Nat.{div-one, mod-add-div, div-div-eq-div-mul}
use native.Mathlib.Numerals.{add-one}
use native.Mathlib.Omega.{arith}
use borrow.Author.Tests.{le-ltb, eqb-true, eqb-false, le-leb}
use lib.Dec.{eqb}
use lib.ListN.{length, get_or, set, take, drop, replicate, drop_of_length-le, length-set, get_or-append}
use lib.Seq.{drop-cons, get_or-set_same, get_or-set_other}
use Rattle.egg.specs.declared.Factor.{Factor}
use Rattle.egg.specs.declared.Refusal.{Refusal}
use Rattle.egg.specs.declared.GroupElementId.{GroupElementId}
use Rattle.egg.specs.Answers.{Reached, fine}
use Rattle.std.specs.Prelude.{Ok, Err}
use Rattle.egg.specs.Factor.{fits_in, stretch, read_step}
use Rattle.egg.specs.Answers.{on_reached}
use Rattle.egg.proofs.Scans.{scan_fine}
use Rattle.build_lending.specs.Lending.{no_factor}
use Rattle.build_lending.proofs.Fits.{fits_small}
use Rattle.factor_walk.proofs.Letters.{letter_below}
use Rattle.theory_radix.specs.Radix.{count, split, join, project, replace}
use Rattle.theory_radix.proofs.RadixLaws.{high_small, split_length, project_is, project_small, replace_small, project_same, project_other}
use Rattle.group_handles.specs.declared.Group.{Group}
use Rattle.group_handles.specs.Handles.{handles, sizes, elements_of, generators_of, limited}
use Rattle.group_handles.proofs.Lists.{sizes_length, sizes_at, handle_at_lem, fits_at}
use Rattle.group_handles.proofs.Admitted.{few_factors_lem}
use Rattle.group_digits.specs.Digits.{step_in}
use Rattle.group_digits.specs.Splits.{split_tail, digits_left, digit_right, digits_right, fewer, join_tail}
use Rattle.group_digits.proofs.Splits.{digit_good}
use Rattle.group_digits.proofs.Walks.{below_element, step_below}
use Rattle.group_walk.specs.Walked.{follows, Walkable, Owned}
use Rattle.group_walk.proofs.Steps.{steps_found}

-- The list starts with the digits of e.
pub record Held (hs : List Factor) (e : ℕ) (ds : List ℕ) : Type 0 where
  pub small : e < elements_of hs
  pub each : (f : ℕ) → f < length hs → get_or ds f 0 ≡ project (sizes hs) f e

-- So it is after a split.
pub held_split : (hs : List Factor) (e : ℕ) (out : List ℕ) → e < elements_of hs → length hs ≤ length out → {o : List ℕ}
    → o ≡ digits_left (split_tail hs (length out)) (sizes hs) e out → Held hs e o
unfolding split_tail
held_split hs e out h k {o} q = record {
  small = h;
  each = λ f l.
      let z : o ≡ digits_left (split_tail hs (length out)) (sizes hs) e out = q in
      let m : f < length (split (sizes hs) e) = rw (split_length (sizes hs) e, sizes_length hs) l in
      rw (z, le-ltb (length out) (length hs) k) (get_or-append (split (sizes hs) e) _ 0 f m ∙ sym (project_is (sizes hs) f e));
}

-- And so it stays where one digit is replaced.
module _ {hs : List Factor} {e : ℕ} {ds : List ℕ} (H : Held hs e ds) {f y : ℕ} (l : f < length hs) (m : f < length ds) (k : y < (get_or hs f no_factor).elements) where
  there : f < length (sizes hs)
  there = rw (sizes_length hs) l

  below : y < get_or (sizes hs) f 1
  below = rw (← sizes_at hs f l) k

  pub held_set : Held hs (replace (sizes hs) f e y) (set ds f y)
  held_set = record {
    small = replace_small (sizes hs) f e y there H.small below;
    each = λ g n. by g n (eqb g f) refl;
  }
    where
      by : (g : ℕ) → g < length hs → (b : Bool) → eqb g f ≡ b → get_or (set ds f y) g 0 ≡ project (sizes hs) g (replace (sizes hs) f e y)
      by g n true z =
          let q : g ≡ f = eqb-true g f z in
          rw q (get_or-set_same ds f y 0 m ∙ sym (project_same (sizes hs) f e y there H.small below))
      by g n false z =
          let q : g ≡ f → ⊥ = eqb-false g f z in
          get_or-set_other ds f g y 0 q ∙ H.each g n ∙ sym (project_other (sizes hs) f g e y there H.small below q)

-- The digits together are e again.
joined : (Ns ds : List ℕ) (e : ℕ) → e < count Ns → length Ns ≤ length ds → ((f : ℕ) → f < length Ns → get_or ds f 0 ≡ project Ns f e) → join Ns ds ≡ e
joined [] ds e h k q = omega arith
joined (N ∷ Ns) [] e h k q = absurd (omega arith)
joined (N ∷ Ns) (d ∷ ds) e h k q =
    let first : d ≡ e % N = simp div-one at (q zero (omega arith)) in
    let rest : join Ns ds ≡ e / N =
    joined Ns ds (e / N) (high_small N (count Ns) e h) (omega arith) (λ f l. q (suc f) (omega arith) ∙ rw (← div-div-eq-div-mul)) in
    rw (first, rest) (mod-add-div e N)

module _ {hs : List Factor} {e : ℕ} {ds : List ℕ} (H : Held hs e ds) (k : length hs ≤ length ds) where
  held_join : join (sizes hs) ds ≡ e
  held_join = joined (sizes hs) ds e H.small (rw (sizes_length hs) k) (λ f l. H.each f (rw (← sizes_length hs) l))

  pub held_right : digits_right (sizes hs) ds ≡ fine
  unfolding digits_right
  held_right =
      let c : fewer (length (sizes hs)) (length ds) ≡ length hs = rw (sizes_length hs) (simp (le-leb _ _ k)) in
      (scan_fine (fewer (length (sizes hs)) (length ds)) (digit_right (sizes hs) ds)).1
      (λ f l. digit_good (sizes hs) ds f refl refl (rw (H.each f (rw (← c) l)) (project_small (sizes hs) f e H.small)))

pub held_joined : (g : Group) {e : ℕ} {ds : List ℕ} → Held (handles g) e ds → length (handles g) ≤ length ds → limited g ≡ true → join_tail g ds ≡ Ok (record { 0 = e })
unfolding join_tail
held_joined g {e} {ds} H k z = rw (z, le-ltb (length ds) (length (handles g)) k, held_join H k)

-- The walk that has come to the letter i: its digits are those of an element from which the rest of the word leads where the whole does.
pub record Following (t : List ℕ) (hs : List Factor) (w : List ℕ) (i : ℕ) (whole : Reached) (ds : List ℕ) : Type 0 where
  pub at : ℕ
  pub held : Held hs at ds
  pub rest : follows t hs at (drop i w) ≡ whole
  pub long : length ds ≡ 8
  pub few : length hs ≤ 8

pub following : (t : List ℕ) {hs : List Factor} (w : List ℕ) {e : ℕ} {ds : List ℕ} → length ds ≡ 8 → length hs ≤ 8 → Held hs e ds
    → Following t hs w 0 (follows t hs e w) ds
following t w {e} l k H = record { at = e; held = H; rest = refl; long = l; few = k }

module _ {t : List ℕ} {hs : List Factor} {w : List ℕ} {i : ℕ} {whole : Reached} {ds : List ℕ} (F : Following t hs w i whole ds) where
  pub enough : length hs ≤ length ds
  enough = omega (arith, F.long, F.few)

  pub follows_end : length w ≤ i → {r : Reached} → r ≡ Ok (record { 0 = F.at }) → r ≡ whole
  unfolding follows
  follows_end h q = q ∙ rw (drop_of_length-le w h) at F.rest

  module _ (h : i < length w) {x f before : ℕ} (q : x ≡ get_or w i 0) (O : Owned hs x f before) {k : Factor} (hq : k ≡ get_or hs f no_factor)
      {part : List ℕ} (u : part ≡ stretch t k) {d : ℕ} (z : d ≡ get_or ds f 0) {r : Reached} (p : r ≡ read_step part k.generators k.elements d (x - before))
    where
      read : r ≡ read_step (stretch t (get_or hs f no_factor)) (get_or hs f no_factor).generators (get_or hs f no_factor).elements (project (sizes hs) f F.at) (x - before)
      read = p ∙ rw (u, hq, z, F.held.each f O.there)

      stepped : step_in t hs F.at x ≡ on_reached r (λ y. Ok (record { 0 = replace (sizes hs) f F.at y }))
      stepped =
          steps_found t hs f F.at x O.there F.held.small (rw (← O.earlier) O.passed) (rw (← O.earlier) O.has)
          ∙ rw (← O.earlier, ← read)

      opened : on_reached (step_in t hs F.at x) (λ y. follows t hs y (drop (i + 1) w)) ≡ whole
      unfolding follows
      opened =
          let c : drop i w ≡ x ∷ drop (i + 1) w = drop-cons w i 0 h ∙ rw (q, add-one) in
          rw c at F.rest

      pub follows_stops : {why : Refusal} → r ≡ Err why → Err why ≡ whole
      follows_stops e = rw (stepped, e) at opened

      pub follows_on : {y : GroupElementId} → r ≡ Ok y → Following t hs w (i + 1) whole (set ds f y.0)
      follows_on {y} e =
          let m : y.0 < (get_or hs f no_factor).elements =
          below_element (step_below (stretch t (get_or hs f no_factor)) (get_or hs f no_factor).generators (get_or hs f no_factor).elements (project (sizes hs) f F.at) (x - before)) read e in
          let n : f < length ds = omega (arith, O.there, F.long, F.few) in
          record {
            at = replace (sizes hs) f F.at y.0;
            held = held_set F.held O.there n m;
            rest = rw (stepped, e) at opened;
            long = length-set ds f y.0 ∙ F.long;
            few = F.few;
          }

abbrev zeros : List ℕ
zeros = replicate 8 0

-- What a walk that goes on knows of its product and of a letter's factor.
short : (k : ℕ) (l : List Factor) → length (take k l) ≤ k
short zero l = omega arith
short (suc k) [] = omega arith
short (suc k) (x ∷ l) = omega (arith, short k l)

module _ {len : ℕ} {g : Group} {e : ℕ} {w : List ℕ} (G : Walkable len g e w) where
  pub few_listed : length (handles g) ≤ 8
  few_listed = omega (arith, short g.count g.factors, few_factors_lem g G.within)

  pub held_start : {o : List ℕ} → o ≡ digits_left (split_tail (handles g) 8) (sizes (handles g)) e zeros → Held (handles g) e o
  held_start q = held_split (handles g) e zeros G.start few_listed q

  module _ {i x at before : ℕ} (h : i < length w) (q : x ≡ get_or w i 0) (o : x < generators_of (handles g) → Owned (handles g) x at before) where
    pub owned : Owned (handles g) x at before
    owned = o (rw q (letter_below (generators_of (handles g)) w G.letters i h))

    pub owned_at : at < 8
    owned_at = omega (arith, owned.there, few_listed)

    pub owned_handle : get_or g.factors at no_factor ≡ get_or (handles g) at no_factor
    owned_handle = handle_at_lem g at refl owned.there

    pub owned_fits : fits_in len (get_or g.factors at no_factor) ≡ true
    owned_fits = rw owned_handle (fits_at len (handles g) at G.fits owned.there)

    pub owned_letter : x - before < 256
    owned_letter =
        let k : (get_or (handles g) at no_factor).generators ≤ 8 = (fits_small len (get_or (handles g) at no_factor) (fits_at len (handles g) at G.fits owned.there)).0 in
        omega (arith, k, owned.has)
