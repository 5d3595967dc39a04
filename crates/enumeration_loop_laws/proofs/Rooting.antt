-- A loop of which all steps but one are known, seen from its least element: the one that is not known is one column of the row there.
use Prim.Native.Nat.{ℕ, suc, ◌+◌, ◌*◌, ◌-◌, ◌%◌, ◌<◌, ◌≤◌}
use mathlib.Core.Path.{◌≡◌, refl, sym, ap, ◌∙◌}
use mathlib.Core.Logic.{◌⊎◌, inl, inr}
use mathlib.Core.List.{List}
use native.Mathlib.Decide.{dec_lt}
use native.Mathlib.Omega.{arith}
use lib.ListN.{get_or, length}
use Rattle.theory.specs.Presentation.{pairs_below}
use Rattle.enumeration_run_laws.specs.Invariant.{StepKnown}
use Rattle.enumeration_loop_laws.specs.Rings.{turn, ring, first_of_pair, second_of_pair, Looped, StepsAgree, Rooted}
use Rattle.enumeration_loop_laws.proofs.Turns.{turn_odd, turn_same, turn_begins, turn_shift, turn_back, ring_is}
use Rattle.enumeration_loop_laws.proofs.Letters.{letters_below_lem, turn_low, ring_back}
use Rattle.theory.proofs.Least.{least_of}
use Rattle.enumeration_loop_laws.proofs.Reversing.{ring_reverse, ring_swapped, ring_again}

-- The loop h g h .. of l letters through x: its steps are known but for the last.
module _ {n count N : ℕ} {o t : List ℕ} {step : ℕ → ℕ → ℕ} (G : Looped n N o step) (T : StepsAgree n count step t) {h g x l : ℕ} (hh : h < n) (hg : g < n) (hx : x < N)
    (even : l % 2 ≡ 0) (some : 0 < l) (round : ring step h g x l ≡ x)
    (given : (i : ℕ) → suc i < l → StepKnown n t (ring step h g x i) (turn h g i)) where
  abbrev at : ℕ → ℕ
  at i = ring step h g x i

  -- A place before the last step, in the first round or the second; forth and back.
  forth_known : (p i : ℕ) → (p ≡ i) ⊎ (p ≡ l + i) → suc i < l → StepKnown n t (at p) (turn h g p)
  forth_known p i (inl q) b = rw q (given i b)
  forth_known p i (inr q) b = rw (q, ring_again G hh hg hx l even round i, turn_same h g (l + i) i (omega arith)) (given i b)

  back_known : (p i : ℕ) → (p ≡ i) ⊎ (p ≡ l + i) → suc i < l → StepKnown n t (at (suc p)) (turn h g p)
  back_known p i w b = T.both (at p) (turn h g p) (turn_low hh hg p) (forth_known p i w b)

  -- The last step has the letter g.
  last_letter : (p : ℕ) → suc p ≡ l → turn h g p ≡ g
  last_letter p q = turn_odd h g p (omega arith)

  last_known : (p : ℕ) → suc p ≡ l → StepKnown n t (at (suc p)) (turn h g p) → StepKnown n t x g
  last_known p q k = let e : at (suc p) ≡ x = ap at q ∙ round in rw (e, last_letter p q) at k

  -- From the least element on.
  module _ (s : ℕ) (hs : s < l) (least : (i : ℕ) → i < l → at s ≤ at i) where
    least_all : (p : ℕ) → p < l + l → at s ≤ at p
    least_all p b = by (dec_lt p l) where
      by : Dec (p < l) → at s ≤ at p
      by (yes c) = least p c
      by (no c) = let q : p ≡ l + (p - l) = omega arith in rw (q, ring_again G hh hg hx l even round (p - l)) (least (p - l) (omega arith))

    after_up : at s ≤ step (at s) (turn h g s)
    after_up = least_all (suc s) (omega arith)

    before : (p : ℕ) → suc p ≡ l + s → step (at s) (turn h g (suc s)) ≡ at p
    before p q =
        let here : at s ≡ at (suc p) = sym (ring_again G hh hg hx l even round s) ∙ ap at (sym q) in
        rw (here, turn_same h g (suc s) p (omega arith)) (ring_back G hh hg hx p)

    before_up : at s ≤ step (at s) (turn h g (suc s))
    before_up = rw (before (l + s - 1) (omega arith)) (least_all (l + s - 1) (omega arith))

    -- With the letters as they stand from there on, the ring goes the same way.
    forward : (j : ℕ) → ring step (turn h g s) (turn h g (suc s)) (at s) j ≡ at (s + j)
    forward j = ring_is step (turn h g s) (turn h g (suc s)) (λ i. at (s + i)) (at s) j start next j (omega arith) where
      start : at s ≡ at (s + 0)
      start = let q : s + 0 ≡ s = omega arith in rw q

      next : (i : ℕ) → i < j → at (s + suc i) ≡ step (at (s + i)) (turn (turn h g s) (turn h g (suc s)) i)
      next i b = let q : s + suc i ≡ suc (s + i) = omega arith in rw (q, turn_shift h g s i)

    forward_known : (j : ℕ) → j < l → (j ≡ l - suc s → ⊥)
        → StepKnown n t (ring step (turn h g s) (turn h g (suc s)) (at s) j) (turn (turn h g s) (turn h g (suc s)) j)
    forward_known j b d = rw (forward j, turn_shift h g s j) (by (dec_lt (s + j) l)) where
      by : Dec (s + j < l) → StepKnown n t (at (s + j)) (turn h g (s + j))
      by (yes c) = forth_known (s + j) (s + j) (inl refl) (omega arith)
      by (no c) = forth_known (s + j) (s + j - l) (inr (omega arith)) (omega arith)

    forward_tells : let j = l - suc s in
        StepKnown n t (ring step (turn h g s) (turn h g (suc s)) (at s) j) (turn (turn h g s) (turn h g (suc s)) j) → StepKnown n t x g
    forward_tells k =
        let p : s + (l - suc s) ≡ l - 1 = omega arith in
        last_known (l - 1) (omega arith) (T.both (at (l - 1)) (turn h g (l - 1)) (turn_low hh hg (l - 1))
        (rw (forward (l - suc s), turn_shift h g s (l - suc s), p) at k))

    -- With the letters swapped it goes back.
    swapped : (j : ℕ) → j < l + s → turn (turn h g (suc s)) (turn h g s) j ≡ turn h g (l + s - suc j)
    swapped j b = rw (turn_same h g s (l + s) (omega arith), turn_same h g (suc s) (suc (l + s)) (omega arith)) (turn_back h g (l + s) j b)

    backward : (j : ℕ) → j ≤ l → ring step (turn h g (suc s)) (turn h g s) (at s) j ≡ at (l + s - j)
    backward j b =
        rw (ring_again G hh hg hx l even round s) at (ring_reverse G hh hg hx (l + s) (turn h g (suc s)) (turn h g s) swapped j (omega arith))

    -- Column j is the step back to place p.
    back_place : (j p : ℕ) → j < l → suc p + j ≡ l + s → ring step (turn h g (suc s)) (turn h g s) (at s) j ≡ at (suc p)
    back_place j p b q = let e : l + s - j ≡ suc p = omega arith in backward j (omega arith) ∙ ap at e

    back_letter : (j p : ℕ) → j < l → suc p + j ≡ l + s → turn (turn h g (suc s)) (turn h g s) j ≡ turn h g p
    back_letter j p b q = let e : l + s - suc j ≡ p = omega arith in swapped j (omega arith) ∙ ap (turn h g) e

    backward_known : (j : ℕ) → j < l → (j ≡ s → ⊥)
        → StepKnown n t (ring step (turn h g (suc s)) (turn h g s) (at s) j) (turn (turn h g (suc s)) (turn h g s) j)
    backward_known j b d = rw (back_place j p b q, back_letter j p b q) (by (dec_lt p l)) where
      p : ℕ
      p = l + s - suc j

      q : suc p + j ≡ l + s
      q = omega arith

      by : Dec (p < l) → StepKnown n t (at (suc p)) (turn h g p)
      by (yes c) = back_known p p (inl refl) (omega arith)
      by (no c) = back_known p (p - l) (inr (omega arith)) (omega arith)

    backward_tells : StepKnown n t (ring step (turn h g (suc s)) (turn h g s) (at s) s) (turn (turn h g (suc s)) (turn h g s) s) → StepKnown n t x g
    backward_tells k =
        let q : suc (l - 1) + s ≡ l + s = omega arith in
        last_known (l - 1) (omega arith) (rw (back_place s (l - 1) hs q, back_letter s (l - 1) hs q) at k)

    -- Both ways for a pair whose letters these are.
    module _ (k m : ℕ) (twice-m : l ≡ 2 * m) (low : x < count) where
      root_low : at s < count
      root_low = omega (arith, least 0 some)

      root_forward : first_of_pair k ≡ turn h g s → second_of_pair k ≡ turn h g (suc s) → Rooted n count t step k m x g
      root_forward a b = record {
        root = at s;
        root_below = root_low;
        first_up = rw a after_up;
        second_up = rw b before_up;
        column = l - suc s;
        column_below = omega arith;
        others = rw (a, b) (λ j c d. forward_known j (omega arith) d);
        tells = rw (a, b) forward_tells;
      }

      root_backward : first_of_pair k ≡ turn h g (suc s) → second_of_pair k ≡ turn h g s → Rooted n count t step k m x g
      root_backward a b = record {
        root = at s;
        root_below = root_low;
        first_up = rw a before_up;
        second_up = rw b after_up;
        column = s;
        column_below = omega arith;
        others = rw (a, b) (λ j c d. backward_known j (omega arith) d);
        tells = rw (a, b) backward_tells;
      }

      root_any : ((h ≡ first_of_pair k) × (g ≡ second_of_pair k)) ⊎ ((h ≡ second_of_pair k) × (g ≡ first_of_pair k)) → Rooted n count t step k m x g
      root_any w = by w (turn_begins h g s) where
        by : ((h ≡ first_of_pair k) × (g ≡ second_of_pair k)) ⊎ ((h ≡ second_of_pair k) × (g ≡ first_of_pair k))
            → ((turn h g s ≡ h) × (turn h g (suc s) ≡ g)) ⊎ ((turn h g s ≡ g) × (turn h g (suc s) ≡ h)) → Rooted n count t step k m x g
        by (inl a) (inl b) = root_forward (sym (b.0 ∙ a.0)) (sym (b.1 ∙ a.1))
        by (inl a) (inr b) = root_backward (sym (b.1 ∙ a.0)) (sym (b.0 ∙ a.1))
        by (inr a) (inl b) = root_backward (sym (b.1 ∙ a.1)) (sym (b.0 ∙ a.0))
        by (inr a) (inr b) = root_forward (sym (b.0 ∙ a.1)) (sym (b.1 ∙ a.0))

pub rooted : {n count N : ℕ} {o t : List ℕ} {step : ℕ → ℕ → ℕ} → n ≤ 8 → length o ≡ pairs_below n → Looped n N o step → count ≤ N → StepsAgree n count step t
    → (k : ℕ) → k < length o → 1 ≤ get_or o k 0 → (g h : ℕ) → ((h ≡ first_of_pair k) × (g ≡ second_of_pair k)) ⊎ ((h ≡ second_of_pair k) × (g ≡ first_of_pair k)) → (x : ℕ) → x < count
    → ((i : ℕ) → suc i < 2 * get_or o k 0 → StepKnown n t (ring step h g x i) (turn h g i)) → Rooted n count t step k (get_or o k 0) x g
rooted {n} {count} {N} {o} {t} {step} few full G more T k hk some g h w x low given = by w where
  m : ℕ
  m = get_or o k 0

  letters : (first_of_pair k < second_of_pair k) × (second_of_pair k < n)
  letters = letters_below_lem o few full hk

  from : h < n → g < n → ring step h g x (2 * m) ≡ x → Rooted n count t step k m x g
  from hh hg round =
      let l = least_of (ring step h g x) (2 * m - 1) in
      let q : suc (2 * m - 1) ≡ 2 * m = omega arith in
      root_any G T hh hg (omega arith) (omega arith) (omega arith) round given l.place (omega (arith, l.inside)) (λ i b. l.least i (omega arith)) k m refl low w

  closed : ring step (first_of_pair k) (second_of_pair k) x (2 * m) ≡ x
  closed = G.closed (omega arith) hk

  by : ((h ≡ first_of_pair k) × (g ≡ second_of_pair k)) ⊎ ((h ≡ second_of_pair k) × (g ≡ first_of_pair k)) → Rooted n count t step k m x g
  by (inl (a, b)) = from (rw a (omega (arith, letters))) (rw b letters.1) (rw (a, b) closed)
  by (inr (a, b)) =
      from (rw a letters.1) (rw b (omega (arith, letters)))
      (rw (a, b) (ring_swapped G (omega (arith, letters)) letters.1 (omega arith) (2 * m) (omega arith) closed))
