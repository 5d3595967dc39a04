-- A product of one factor answers as the factor does, altered tables and refusals too: one law for each call.
use Prim.Native.Nat.{ℕ, zero, suc, ◌+◌, ◌/◌, ◌%◌, ◌≤◌, ◌<◌}
use mathlib.Core.Path.{◌≡◌, refl, sym, ap, ◌∙◌}
use mathlib.Core.Bool.{Bool, true, false, ◌&&◌}
use mathlib.Core.List.{List, [], ◌∷◌}
use native.Mathlib.Nat.{mul-one, mul-zero, mod-eq_of_lt, div-eq_of_lt}
use native.Mathlib.Omega.{arith}
use borrow.Author.Tests.{le-leb, lt-leb, lt-ltb, leb-false}
use lib.IntN.{ℤ, pos, negsuc}
use lib.ListN.{length, get_or}
use lib.Dec.{eqb, leb, ltb}
use Rattle.egg.specs.declared.Factor.{Factor}
use Rattle.egg.specs.declared.GroupElementId.{GroupElementId}
use Rattle.egg.specs.declared.GeneratorId.{GeneratorId}
use Rattle.egg.specs.Answers.{Counted, Reached, Verdict, fine}
use Rattle.egg.specs.Refusals.{numbered}
use Rattle.std.specs.Prelude.{Ok, Err}
use Rattle.egg.specs.Table.{pick, length_of}
use Rattle.egg.specs.Scan.{refused_of, and_then}
use Rattle.egg.specs.Factor as egg
use Rattle.egg.specs.Factor.{fits_in, stretch, read_step}
use Rattle.egg.proofs.Rooms.{some}
use Rattle.build_lending.proofs.Fits.{fits_small}
use Rattle.factor.specs.Questions as factor
use Rattle.egg.specs.Answers.{if_reach, if_count, on_reached}
use Rattle.factor_questions.specs.Walks.{follow, compose_in, inverse_in, generator_in}
use Rattle.factor_walk.specs.Walked.{letters_right, walk_in}
use Rattle.factor_walk.proofs.Letters.{letter_below}
use Rattle.factor_words.specs.Words.{readable, spell, length_in, write_in, written_by}
use Rattle.factor_words.proofs.Words.{never_both}
use Rattle.group_handles.specs.declared.Group.{Group}
use Rattle.group_handles.specs.Handles.{handles, elements_of, generators_of, limited, admits}
use Rattle.group_digits.specs.Digits.{PartQuestion, Compose, Inverse, Conjugate, above, digit_of, digitwise, step_in, composes, inverts}
use Rattle.group_powers.specs.Powers.{odd_too, by_halving, negated, powers, powi_alone}
use Rattle.group_handles.specs.Counts.{on_counted}
use Rattle.group_words.specs.Words.{lengths, readables, spells, writes_by, writes, leaves}
use Rattle.group.specs.Questions.{step_answer, generator_answer, walk_answer, compose_answer, inverse_answer, conjugate_answer, powi_answer, length_answer, write_answer, written}
use Rattle.group_handles.proofs.Admitted.{Goes, goes_on}
use Rattle.group_digits.proofs.Walks.{Below, element, below_on, step_below, digit_below}
use Rattle.group_walk.specs.Walked.{follows, admits_walk}

-- A verdict decides the same of two answers that are equal where it is fine.
reach_alike : (v : Verdict) {x y : Reached} → (v ≡ fine → x ≡ y) → if_reach v x ≡ if_reach v y
reach_alike (Ok _) k = k refl
reach_alike (Err r) k = refl

then_fine : (v : Verdict) → and_then v fine ≡ v
then_fine (Ok _) = refl
then_fine (Err r) = refl

count_alike : (v : Verdict) {x y : Counted} → (v ≡ fine → x ≡ y) → if_count v x ≡ if_count v y
count_alike (Ok _) k = k refl
count_alike (Err r) k = refl

and_true : (b : Bool) → b ≡ b && true
and_true true = refl
and_true false = refl

-- The only digit is the whole number.
only : (N : ℕ) (r : Reached) → on_reached r (λ x. above x N (Ok (record { 0 = 0 }))) ≡ r
only N (Ok x) = ap (λ (z : ℕ). Ok (record { 0 = z })) (omega (arith, mul-zero N))
only N (Err r) = refl

module _ (t : List ℕ) (h : Factor) where
  one_digit : (k : PartQuestion) (a b : ℕ) → a < h.elements → b < h.elements → digitwise (digit_of k t) (h ∷ []) a b ≡ digit_of k t h a b
  unfolding digitwise
  one_digit k a b p q = rw (mod-eq_of_lt p, mod-eq_of_lt q) (only h.elements (digit_of k t h a b))

on_alike : {N : ℕ} {f g : ℕ → Reached} (r : Reached) → Below N r → ((x : ℕ) → x < N → f x ≡ g x) → on_reached r f ≡ on_reached r g
on_alike (Ok e) (element p) k = k e.0 p
on_alike (Err r) b k = refl

-- Two ways to compose that are alike below N, where the second stays: their powers are alike.
module _ {N : ℕ} (op op' : ℕ → ℕ → Reached) (some-N : 0 < N) (alike : (x y : ℕ) → x < N → y < N → op x y ≡ op' x y) (stays : (x y : ℕ) → x < N → Below N (op' x y)) where
  odd_below : (a x r : ℕ) → x < N → Below N (odd_too op' a x r)
  odd_below a x zero h = element h
  odd_below a x (suc r) h = stays x a h

  halves_below : (fuel a k : ℕ) → Below N (by_halving fuel op' a k)
  unfolding by_halving
  halves_below zero a k = element some-N
  halves_below (suc fuel) a zero = element some-N
  halves_below (suc fuel) a (suc k) =
      below_on (by_halving fuel op' a (suc k / 2)) (halves_below fuel a (suc k / 2))
      (λ x p. below_on (op' x x) (stays x x p) (λ y q. odd_below a y (suc k % 2) q))

  odd_alike : (a x r : ℕ) → a < N → x < N → odd_too op a x r ≡ odd_too op' a x r
  odd_alike a x zero p q = refl
  odd_alike a x (suc r) p q = alike x a q p

  halves_alike : (fuel a k : ℕ) → a < N → by_halving fuel op a k ≡ by_halving fuel op' a k
  unfolding by_halving
  halves_alike zero a k h = refl
  halves_alike (suc fuel) a zero h = refl
  halves_alike (suc fuel) a (suc k) h =
      ap (λ (r : Reached). on_reached r (λ x. on_reached (op x x) (λ y. odd_too op a y (suc k % 2)))) (halves_alike fuel a (suc k / 2) h)
      ∙ on_alike (by_halving fuel op' a (suc k / 2)) (halves_below fuel a (suc k / 2))
      (λ x p. ap (λ (r : Reached). on_reached r (λ y. odd_too op a y (suc k % 2))) (alike x x p p)
      ∙ on_alike (op' x x) (stays x x p) (λ y q. odd_alike a y (suc k % 2) h q))

  negated_alike : (b : Bool) (half i k : ℕ) → i < N → negated b half op i k ≡ negated b half op' i k
  negated_alike true half i k h =
      ap (λ (r : Reached). on_reached r (λ x. op x x)) (halves_alike half i half h)
      ∙ on_alike (by_halving half op' i half) (halves_below half i half) (λ x p. alike x x p p)
  negated_alike false half i k h = halves_alike k i k h

  powers_alike : (half : ℕ) (inv inv' : ℕ → Reached) (a : ℕ) (i : ℤ) → a < N → inv a ≡ inv' a → Below N (inv' a)
      → powers half op inv a i ≡ powers half op' inv' a i
  unfolding powers
  powers_alike half inv inv' a (pos k) h q b = halves_alike k a k h
  powers_alike half inv inv' a (negsuc k) h q b =
      ap (λ (r : Reached). on_reached r (λ i. negated (eqb (suc k) (half + half)) half op i (suc k))) q
      ∙ on_alike (inv' a) b (λ i p. negated_alike (eqb (suc k) (half + half)) half i (suc k) p)

none_after : (r : Counted) → on_counted r (λ k. on_counted (Ok 0) (λ m. Ok (k + m))) ≡ r
none_after (Ok k) = ap Ok (omega arith)
none_after (Err r) = refl

module _ (len : ℕ) (g : Group) (h : Factor) (c : g.count ≡ 1) (q : handles g ≡ h ∷ []) where
  whole : elements_of (handles g) ≡ h.elements
  whole = rw q (mul-one h.elements)

  letters : generators_of (handles g) ≡ h.generators
  letters = rw q (omega arith)

  within : fits_in len h ≡ true → limited g ≡ true
  unfolding limited
  within f =
      let e : h.elements ≤ 4294967295 = omega (arith, (fits_small len h f).1) in
      rw (whole, c) (le-leb _ _ e)

  -- The verdict on two arguments: 17 in the handle, then 14 for either.
  verdicts : (a la b lb : ℕ) → pick (fits_in len h) (pick (leb la a) (refused_of 14 0 0 0) (pick (leb lb b) (refused_of 14 1 0 0) fine)) (refused_of 17 0 0 0)
      ≡ admits len g a la b lb
  unfolding admits
  verdicts a la b lb = rw q (by (fits_in len h) refl) where
    by : (f : Bool) → fits_in len h ≡ f → pick f (pick (leb la a) (refused_of 14 0 0 0) (pick (leb lb b) (refused_of 14 1 0 0) fine)) (refused_of 17 0 0 0)
        ≡ pick (f && true) (pick (leb la a) (refused_of 14 0 0 0) (pick (leb lb b) (refused_of 14 1 0 0) (pick (limited g) fine (refused_of 15 0 0 0)))) (refused_of 17 0 0 0)
    by true p = rw (within p)
    by false p = refl

module _ (t : List ℕ) (g : Group) (h : Factor) (c : g.count ≡ 1) (q : handles g ≡ h ∷ []) where
  two : (a b : ℕ) → factor.admits (length t) h a b ≡ admits (length t) g a (elements_of (handles g)) b (elements_of (handles g))
  unfolding factor.admits
  two a b = rw (whole (length t) g h c q) (verdicts (length t) g h c q a h.elements b h.elements)

  one : (a : ℕ) → factor.admits (length t) h a 0 ≡ admits (length t) g a (elements_of (handles g)) 0 1
  unfolding factor.admits
  one a = rw (whole (length t) g h c q) (by (fits_in (length t) h) refl ∙ verdicts (length t) g h c q a h.elements 0 1) where
    by : (f : Bool) → fits_in (length t) h ≡ f
        → pick f (pick (leb h.elements a) (refused_of 14 0 0 0) (pick (leb h.elements 0) (refused_of 14 1 0 0) fine)) (refused_of 17 0 0 0)
        ≡ pick f (pick (leb h.elements a) (refused_of 14 0 0 0) fine) (refused_of 17 0 0 0)
    by true p = rw (lt-leb h.elements 0 (some (length t) h p))
    by false p = refl

  -- What a fine verdict says of the arguments.
  below_two : (a b : ℕ) → factor.admits (length t) h a b ≡ fine → (a < h.elements) × (b < h.elements)
  below_two a b f =
      let G : Goes (length t) g a (elements_of (handles g)) b (elements_of (handles g)) = goes_on (length t) g a _ b _ (two a b) f in
      (rw (whole (length t) g h c q) at G.first, rw (whole (length t) g h c q) at G.second)

  below_one : (a : ℕ) → factor.admits (length t) h a 0 ≡ fine → a < h.elements
  below_one a f =
      let G : Goes (length t) g a (elements_of (handles g)) 0 1 = goes_on (length t) g a _ 0 _ (one a) f in
      rw (whole (length t) g h c q) at G.first

  digits : (k : PartQuestion) (a b : ℕ) → a < h.elements → b < h.elements → digit_of k t h a b ≡ digitwise (digit_of k t) (handles g) a b
  digits k a b p r = sym (one_digit t h k a b p r) ∙ ap (λ (hs : List Factor). digitwise (digit_of k t) hs a b) (sym q)

  pub one_compose : (a b : GroupElementId) → factor.compose_answer t h a b ≡ compose_answer t g a b
  unfolding factor.compose_answer compose_answer
  one_compose a b =
      reach_alike (factor.admits (length t) h a.0 b.0) (λ f. let (p, r) = below_two a.0 b.0 f in digits Compose a.0 b.0 p r)
      ∙ ap (λ (v : Verdict). if_reach v (composes t (handles g) a.0 b.0)) (two a.0 b.0)

  pub one_conjugate : (a b : GroupElementId) → factor.conjugate_answer t h a b ≡ conjugate_answer t g a b
  unfolding factor.conjugate_answer conjugate_answer
  one_conjugate a b =
      reach_alike (factor.admits (length t) h a.0 b.0) (λ f. let (p, r) = below_two a.0 b.0 f in digits Conjugate a.0 b.0 p r)
      ∙ ap (λ (v : Verdict). if_reach v (digitwise (digit_of Conjugate t) (handles g) a.0 b.0)) (two a.0 b.0)

  pub one_inverse : (a : GroupElementId) → factor.inverse_answer t h a ≡ inverse_answer t g a
  unfolding factor.inverse_answer inverse_answer
  one_inverse a =
      reach_alike (factor.admits (length t) h a.0 0) (λ f. let p : a.0 < h.elements = below_one a.0 f in digits Inverse a.0 0 p (omega arith))
      ∙ ap (λ (v : Verdict). if_reach v (inverts t (handles g) a.0)) (one a.0)

  pub one_powi : (a : GroupElementId) (i : ℤ) → powi_alone t h a i ≡ powi_answer t g a i
  unfolding powi_alone powi_answer
  one_powi a i =
      reach_alike (factor.admits (length t) h a.0 0) (λ f. let p : a.0 < h.elements = below_one a.0 f in
      sym (powers_alike (composes t (handles g)) (compose_in (stretch t h) h.generators h.elements) (omega arith)
      (λ x y u v. sym (digits Compose x y u v)) (λ x y u. digit_below Compose t h x y u)
      1073741824 (inverts t (handles g)) (inverse_in (stretch t h) h.generators h.elements) a.0 i p
      (sym (digits Inverse a.0 0 p (omega arith))) (digit_below Inverse t h a.0 0 p)))
      ∙ ap (λ (v : Verdict). if_reach v (powers 1073741824 (composes t (handles g)) (inverts t (handles g)) a.0 i)) (one a.0)

  stepped : (e x : ℕ) → e < h.elements → x < h.generators → read_step (stretch t h) h.generators h.elements e x ≡ step_in t (handles g) e x
  unfolding step_in
  stepped e x p r =
      rw (q, lt-ltb x h.generators r, mod-eq_of_lt p, div-eq_of_lt p)
      (sym (only h.elements (read_step (stretch t h) h.generators h.elements e x)))

  pub one_step : (e : GroupElementId) (x : GeneratorId) → egg.step_answer t h e x ≡ step_answer t g e x
  unfolding egg.step_answer step_answer
  one_step e x =
      rw (whole (length t) g h c q, letters (length t) g h c q, ← verdicts (length t) g h c q e.0 h.elements x.0 h.generators)
      (by (fits_in (length t) h) (leb h.elements e.0) (leb h.generators x.0) refl refl refl)
    where
      by : (f d k : Bool) → fits_in (length t) h ≡ f → leb h.elements e.0 ≡ d → leb h.generators x.0 ≡ k
          → pick f (pick d (egg.refused_reach 14 0) (pick k (egg.refused_reach 14 1) (read_step (stretch t h) h.generators h.elements e.0 x.0))) (egg.refused_reach 17 0)
          ≡ if_reach (pick f (pick d (refused_of 14 0 0 0) (pick k (refused_of 14 1 0 0) fine)) (refused_of 17 0 0 0)) (step_in t (handles g) e.0 x.0)
      by false d k z u v = refl
      by true true k z u v = refl
      by true false true z u v = refl
      by true false false z u v = stepped e.0 x.0 (leb-false _ _ u) (leb-false _ _ v)

  -- A word: each step is the factor's, and what it reaches is an element.
  followed : (e : ℕ) (w : List ℕ) → e < h.elements → ((i : ℕ) → i < length w → get_or w i 0 < h.generators)
      → follow (stretch t h) h.generators h.elements e w ≡ follows t (handles g) e w
  unfolding follow follows
  followed e [] p k = refl
  followed e (x ∷ w) p k =
      on_alike (read_step (stretch t h) h.generators h.elements e x) (step_below (stretch t h) h.generators h.elements e x)
      (λ y b. followed y w b (λ i l. k (suc i) (omega arith)))
      ∙ ap (λ (r : Reached). on_reached r (λ y. follows t (handles g) y w)) (stepped e x p (k zero (omega arith)))

  walk_verdict : (e : ℕ) (w : List ℕ) → admits_walk (length t) g e w
      ≡ pick (fits_in (length t) h) (pick (leb h.elements e) (refused_of 14 0 0 0) (letters_right h.generators w)) (refused_of 17 0 0 0)
  unfolding admits_walk
  walk_verdict e w = rw (whole (length t) g h c q, letters (length t) g h c q, q) (by (fits_in (length t) h) refl) where
    by : (f : Bool) → fits_in (length t) h ≡ f
        → pick (f && true) (pick (leb h.elements e) (refused_of 14 0 0 0) (and_then (letters_right h.generators w) (pick (limited g) fine (refused_of 15 0 0 0)))) (refused_of 17 0 0 0)
        ≡ pick f (pick (leb h.elements e) (refused_of 14 0 0 0) (letters_right h.generators w)) (refused_of 17 0 0 0)
    by true p = rw (within (length t) g h c q p, then_fine (letters_right h.generators w))
    by false p = refl

  pub one_walk : (e : GroupElementId) (w : List ℕ) → factor.walk_answer t h e w ≡ walk_answer t g e w
  unfolding factor.walk_answer factor.admits walk_in walk_answer
  one_walk e w = rw (walk_verdict e.0 w) (by (fits_in (length t) h) (leb h.elements e.0) refl refl) where
    by : (f d : Bool) → fits_in (length t) h ≡ f → leb h.elements e.0 ≡ d
        → if_reach (pick f (pick d (refused_of 14 0 0 0) (pick (leb h.elements 0) (refused_of 14 1 0 0) fine)) (refused_of 17 0 0 0))
        (if_reach (letters_right h.generators w) (follow (stretch t h) h.generators h.elements e.0 w))
        ≡ if_reach (pick f (pick d (refused_of 14 0 0 0) (letters_right h.generators w)) (refused_of 17 0 0 0)) (follows t (handles g) e.0 w)
    by false d z u = refl
    by true true z u = refl
    by true false z u =
        rw (lt-leb h.elements 0 (some (length t) h z))
        (reach_alike (letters_right h.generators w) (λ r. followed e.0 w (leb-false _ _ u) (letter_below h.generators w r)))

  pub one_generator : (x : GeneratorId) → factor.generator_answer t h x ≡ generator_answer t g x
  unfolding factor.generator_answer factor.admits generator_in generator_answer
  one_generator x =
      rw (letters (length t) g h c q, ← verdicts (length t) g h c q x.0 h.generators 0 1)
      (by (fits_in (length t) h) (leb h.generators x.0) refl refl)
    where
      by : (f k : Bool) → fits_in (length t) h ≡ f → leb h.generators x.0 ≡ k
          → if_reach (pick f (pick (leb h.elements 0) (refused_of 14 0 0 0) (pick (leb h.elements 0) (refused_of 14 1 0 0) fine)) (refused_of 17 0 0 0))
          (pick k (egg.refused_reach 14 0) (read_step (stretch t h) h.generators h.elements 0 x.0))
          ≡ if_reach (pick f (pick k (refused_of 14 0 0 0) fine) (refused_of 17 0 0 0)) (step_in t (handles g) 0 x.0)
      by false k z v = refl
      by true true z v = rw (lt-leb h.elements 0 (some (length t) h z))
      by true false z v = rw (lt-leb h.elements 0 (some (length t) h z)) (stepped 0 x.0 (some (length t) h z) (leb-false _ _ v))

  measured : (e : ℕ) → e < h.elements → length_in (stretch t h) h.generators e ≡ lengths t (handles g) e
  unfolding lengths
  measured e p = rw (q, mod-eq_of_lt p) (sym (none_after (length_in (stretch t h) h.generators e)))

  pub one_length : (e : GroupElementId) → factor.length_answer t h e ≡ length_answer t g e
  unfolding factor.length_answer length_answer
  one_length e =
      count_alike (factor.admits (length t) h e.0 0) (λ f. measured e.0 (below_one e.0 f))
      ∙ ap (λ (v : Verdict). if_count v (lengths t (handles g) e.0)) (one e.0)

  read_all_lem : (e : ℕ) → e < h.elements → readable (length_of (stretch t h) h.generators e) (stretch t h) h.generators h.elements e ≡ readables t (handles g) e
  unfolding readables
  read_all_lem e p = rw (q, mod-eq_of_lt p) (and_true _)

  wrote_in : (e size : ℕ) → e < h.elements → write_in (stretch t h) h.generators h.elements e size ≡ writes t (handles g) e size
  unfolding write_in writes length_in
  wrote_in e size p = rw (← measured e p, ← read_all_lem e p) (by (ltb 4096 (length_of (stretch t h) h.generators e))) where
    by : (b : Bool) → pick b (Err (numbered 17 0 0 0))
        (pick (ltb size (length_of (stretch t h) h.generators e)) (Err (numbered 4 0 0 0))
        (pick (readable (length_of (stretch t h) h.generators e) (stretch t h) h.generators h.elements e) (Ok (length_of (stretch t h) h.generators e)) (Err (numbered 17 0 0 0))))
        ≡ writes_by (pick b (Err (numbered 17 0 0 0)) (Ok (length_of (stretch t h) h.generators e)))
        (readable (length_of (stretch t h) h.generators e) (stretch t h) h.generators h.elements e) size
    by true = refl
    by false = refl

  pub one_write : (e : GroupElementId) (size : ℕ) → factor.write_answer t h e size ≡ write_answer t g e size
  unfolding factor.write_answer write_answer
  one_write e size =
      count_alike (factor.admits (length t) h e.0 0) (λ f. wrote_in e.0 size (below_one e.0 f))
      ∙ ap (λ (v : Verdict). if_count v (writes t (handles g) e.0 size)) (one e.0)

  spelled : (e : ℕ) (out : List ℕ) → e < h.elements → spell (length_of (stretch t h) h.generators e) (stretch t h) h.generators e out ≡ spells t (handles g) e 0 0 out
  unfolding spells
  spelled e out p = rw (q, mod-eq_of_lt p)

  -- An answer that is a count is the recorded length, of an element.
  write_counts : (e size k : ℕ) → write_in (stretch t h) h.generators h.elements e size ≡ Ok k → k ≡ length_of (stretch t h) h.generators e
  unfolding write_in
  write_counts e size k r =
      by (ltb 4096 (length_of (stretch t h) h.generators e)) (ltb size (length_of (stretch t h) h.generators e))
      (readable (length_of (stretch t h) h.generators e) (stretch t h) h.generators h.elements e) r
    where
      by : (x y z : Bool) → pick x (Err (numbered 17 0 0 0))
          (pick y (Err (numbered 4 0 0 0))
          (pick z (Ok (length_of (stretch t h) h.generators e)) (Err (numbered 17 0 0 0)))) ≡ Ok k
          → k ≡ length_of (stretch t h) h.generators e
      by true y z u = absurd (never_both refl u)
      by false true z u = absurd (never_both refl u)
      by false false true u = cc
      by false false false u = absurd (never_both refl u)

  pub one_written : (e : GroupElementId) (out : List ℕ) → factor.written t h e out ≡ written t g e out
  unfolding factor.written factor.write_answer written
  one_written e out =
      by (factor.admits (length t) h e.0 0) (write_in (stretch t h) h.generators h.elements e.0 (length out)) (below_one e.0) (write_counts e.0 (length out))
      ∙ ap (λ (v : Counted). leaves v t (handles g) e.0 out) (one_write e (length out))
    where
      by : (v : Verdict) (x : Counted) → (v ≡ fine → e.0 < h.elements) → ((k : ℕ) → x ≡ Ok k → k ≡ length_of (stretch t h) h.generators e.0)
          → written_by (if_count v x) (stretch t h) h.generators e.0 out ≡ leaves (if_count v x) t (handles g) e.0 out
      by (Err r) x p k = refl
      by (Ok _) (Err r) p k = refl
      by (Ok _) (Ok n) p k = rw (k n refl) (spelled e.0 out (p refl))
