-- Laws of the loops over the factors that gather digits: the stride and what has been gathered, in range; and what is left to do gives what the whole does.
use Prim.Native.Nat.{ℕ, zero, suc, ◌+◌, ◌*◌, ◌-◌, ◌/◌, ◌%◌, ◌≤◌, ◌<◌}
use mathlib.Core.Path.{◌≡◌, refl, sym, ap, ◌∙◌, subst}
use mathlib.Core.Bool.{Bool, true, false}
use mathlib.Core.List.{List, [], ◌∷◌}
use native.Mathlib.Nat.{mul_assoc, mul-add, add_assoc, one-mul, mul-zero, mul-le-mul_left, mul-le-mul_right, mod-lt, div-mul-le_self, mul_comm}
use native.Mathlib.Omega.{arith}
use borrow.Author.Tests.{lt-ltb, le-ltb, eqb-false, ltb-false, leb-false}
use lib.ListN.{get_or, drop}
use lib.Dec.{eqb, ltb, leb}
use Rattle.egg.specs.declared.Factor.{Factor}
use Rattle.egg.specs.declared.Refusal.{Refusal}
use Rattle.egg.specs.declared.GroupElementId.{GroupElementId}
use Rattle.egg.specs.Answers.{Reached}
use Rattle.std.specs.Prelude.{Ok, Err}
use Rattle.egg.specs.Table.{pick, start_of, hop_of, length_of, inverse_of}
use Rattle.egg.specs.Factor.{stretch, refused_reach, read_step}
use Rattle.factor_word_letters.specs.Spell.{cell_within, readable, letters}
use Rattle.factor_questions.specs.Walks.{follow, along, read_step_back, back_by, back_along, compose_in, inverse_in, conjugate_in}
use Rattle.egg.specs.Answers.{on_reached}
use Rattle.theory_radix.proofs.RadixLaws.{joined_small, high_small, range_pos}
use Rattle.group_handles.specs.Handles.{elements_of}
use Rattle.group_digits.specs.Digits.{PartQuestion, Compose, Inverse, Conjugate, above, digit_of, digitwise, step_in}

-- s is the stride of the factor f, and `low` has the digits before it.
pub record Walk (hs : List Factor) (f s low : ℕ) : Type 0 where
  pub whole : s * elements_of (drop f hs) ≡ elements_of hs
  pub inside : low < s

pub walk : (hs : List Factor) → Walk hs 0 1 0
walk hs = record { whole = one-mul (elements_of hs); inside = omega arith }

at_least : (s c n : ℕ) → s * c ≡ n → 0 < n → s ≤ n
at_least s zero n q h = absurd (omega (arith, q, mul-zero s))
at_least s (suc c) n q h = let k : 1 ≤ suc c = omega arith in omega (arith, q, mul-le-mul_left s k)

-- What has the digits up to f is below what is left of the whole.
pub gathered_small : {hs : List Factor} {f s low v : ℕ} → Walk hs f s low → v < elements_of (drop f hs) → low + s * v < elements_of hs
gathered_small {hs} {f} {s} {low} {v} w h = omega (arith, w.whole, w.inside, mul-le-mul_left s h)

module _ {hs : List Factor} {f s low : ℕ} {h : Factor} (w : Walk hs f s low) (d : drop f hs ≡ h ∷ drop (f + 1) hs) where
  whole_on : s * h.elements * elements_of (drop (f + 1) hs) ≡ elements_of hs
  whole_on =
      mul_assoc s h.elements (elements_of (drop (f + 1) hs)) ∙ ap (λ (l : List Factor). s * elements_of l) (sym d) ∙ w.whole

  pub stride_fits : 0 < elements_of hs → s * h.elements ≤ elements_of hs
  stride_fits p = at_least (s * h.elements) (elements_of (drop (f + 1) hs)) (elements_of hs) whole_on p

  module _ {x : ℕ} (k : x < h.elements) where
    pub sum_fits : low + s * x < s * h.elements
    sum_fits = omega (arith, w.inside, mul-le-mul_left s k)

    pub walk_on : Walk hs (f + 1) (s * h.elements) (low + s * x)
    walk_on = record { whole = whole_on; inside = sum_fits }

-- Gathering twice is gathering once.
pub above_above : (low s x N : ℕ) (r : Reached) → above low s (above x N r) ≡ above (low + s * x) (s * N) r
above_above low s x N (Err r) = refl
above_above low s x N (Ok y) = ap (λ (z : ℕ). Ok (record { 0 = z })) (move y.0) where
  move : (v : ℕ) → low + s * (x + N * v) ≡ low + s * x + s * N * v
  move v = rw (mul-add s x (N * v), ← mul_assoc s N v, add_assoc)

pub record Gathering (F : Factor → ℕ → ℕ → Reached) (hs : List Factor) (a b f s sum x y : ℕ) : Type 0 where
  pub walks : Walk hs f s sum
  pub same : above sum s (digitwise F (drop f hs) x y) ≡ digitwise F hs a b

above_none : (r : Reached) → above 0 1 r ≡ r
above_none (Ok e) = ap (λ (z : ℕ). Ok (record { 0 = z })) (omega (arith, one-mul e.0))
above_none (Err r) = refl

opened : (F : Factor → ℕ → ℕ → Reached) (h : Factor) (hs : List Factor) (x y : ℕ) {r : Reached} → r ≡ F h (x % h.elements) (y % h.elements)
    → digitwise F (h ∷ hs) x y ≡ on_reached r (λ z. above z h.elements (digitwise F hs (x / h.elements) (y / h.elements)))
unfolding digitwise
opened F h hs x y q = rw q

module _ {F : Factor → ℕ → ℕ → Reached} where
  pub gathering : (hs : List Factor) (a b : ℕ) → Gathering F hs a b 0 1 0 a b
  gathering hs a b = record { walks = walk hs; same = above_none (digitwise F hs a b) }

  module _ {hs : List Factor} {a b f s sum x y : ℕ} {h : Factor} (w : Gathering F hs a b f s sum x y) (d : drop f hs ≡ h ∷ drop (f + 1) hs)
      {r : Reached} (q : r ≡ F h (x % h.elements) (y % h.elements))
    where
      left_over : above sum s (on_reached r (λ z. above z h.elements (digitwise F (drop (f + 1) hs) (x / h.elements) (y / h.elements)))) ≡ digitwise F hs a b
      left_over =
          ap (above sum s) (sym (opened F h (drop (f + 1) hs) x y q)) ∙ ap (λ (l : List Factor). above sum s (digitwise F l x y)) (sym d) ∙ w.same

      pub gathers_on : {e : GroupElementId} → r ≡ Ok e → e.0 < h.elements
          → Gathering F hs a b (f + 1) (s * h.elements) (sum + s * e.0) (x / h.elements) (y / h.elements)
      gathers_on {e} p k = record {
        walks = walk_on w.walks d k;
        same =
            sym (above_above sum s e.0 h.elements (digitwise F (drop (f + 1) hs) (x / h.elements) (y / h.elements)))
            ∙ ap (λ (v : Reached). above sum s (on_reached v (λ z. above z h.elements (digitwise F (drop (f + 1) hs) (x / h.elements) (y / h.elements))))) (sym p)
            ∙ left_over;
      }

      pub gathers_stop : {why : Refusal} → r ≡ Err why → Err why ≡ digitwise F hs a b
      gathers_stop p =
          ap (λ (v : Reached). above sum s (on_reached v (λ z. above z h.elements (digitwise F (drop (f + 1) hs) (x / h.elements) (y / h.elements))))) (sym p)
          ∙ left_over

  pub gathers_end : {hs : List Factor} {a b f s sum x y : ℕ} → Gathering F hs a b f s sum x y → drop f hs ≡ [] → Ok (record { 0 = sum }) ≡ digitwise F hs a b
  unfolding digitwise
  gathers_end {hs} {a} {b} {f} {s} {sum} {x} {y} w d =
      let z : sum ≡ sum + s * 0 = omega (arith, mul-zero s) in
      ap (λ (k : ℕ). Ok (record { 0 = k })) z ∙ ap (λ (l : List Factor). above sum s (digitwise F l x y)) (sym d) ∙ w.same

-- An answer in range: an element below N, or a refusal.
pub data Below (N : ℕ) : Reached → Type 0 where
  element : {e : GroupElementId} → e.0 < N → Below N (Ok e)
  refusal : {r : Refusal} → Below N (Err r)

inside_of : {N : ℕ} {e : GroupElementId} → Below N (Ok e) → e.0 < N
inside_of (element h) = h

pub below_element : {N : ℕ} {r v : Reached} {e : GroupElementId} → Below N v → r ≡ v → r ≡ Ok e → e.0 < N
below_element {N} b q p = inside_of (subst (Below N) (sym q ∙ p) b)

below_pick : {N : ℕ} {x y : Reached} (t : Bool) → (t ≡ true → Below N x) → (t ≡ false → Below N y) → Below N (pick t x y)
below_pick true p q = p refl
below_pick false p q = q refl

pub below_on : {N M : ℕ} {f : ℕ → Reached} (r : Reached) → Below N r → ((x : ℕ) → x < N → Below M (f x)) → Below M (on_reached r f)
below_on (Ok e) b h = h e.0 (inside_of b)
below_on (Err r) b h = refusal

below_any : {N : ℕ} {f : ℕ → Reached} (r : Reached) → ((x : ℕ) → Below N (f x)) → Below N (on_reached r f)
below_any (Ok e) h = h e.0
below_any (Err r) h = refusal

module _ (s : List ℕ) (n N : ℕ) where
  pub step_below : (e g : ℕ) → Below N (read_step s n N e g)
  unfolding read_step
  step_below e g =
      below_pick (eqb (get_or s (start_of n e + g) 0) 0) (λ p. refusal)
      (λ p. below_pick (ltb N (get_or s (start_of n e + g) 0)) (λ q. refusal)
      (λ q. element (small (get_or s (start_of n e + g) 0) (eqb-false _ _ p) (ltb-false _ _ q))))
    where
      small : (x : ℕ) → (x ≡ 0 → ⊥) → x ≤ N → x - 1 < N
      small x p q = omega arith

  follow_below : (from : ℕ) (w : List ℕ) → from < N → Below N (follow s n N from w)
  unfolding follow
  follow_below from [] h = element h
  follow_below from (g ∷ w) h = below_on (read_step s n N from g) (step_below from g) (λ x hx. follow_below x w hx)

  along_below : (k from e : ℕ) → from < N → Below N (along k s n N from e)
  unfolding along
  along_below k from e h = below_pick (readable k s n N e) (λ p. follow_below from (letters k s n e) h) (λ p. refusal)

  back_step_below : (e g : ℕ) → Below N (read_step_back s n N e g)
  unfolding read_step_back
  back_step_below e g =
      below_pick (eqb (get_or s (start_of n e + n + g) 0) 0) (λ p. refusal)
      (λ p. below_pick (ltb N (get_or s (start_of n e + n + g) 0)) (λ q. refusal)
      (λ q. element (small (get_or s (start_of n e + n + g) 0) (eqb-false _ _ p) (ltb-false _ _ q))))
    where
      small : (x : ℕ) → (x ≡ 0 → ⊥) → x ≤ N → x - 1 < N
      small x p q = omega arith

  back_below : (k j from c : ℕ) → from < N → Below N (back_by k j s n N from c)
  unfolding back_by
  back_below zero j from c h = element h
  back_below (suc k) zero from c h =
      below_pick (leb N c) (λ p. refusal)
      (λ p. below_pick (cell_within n N (hop_of s n c))
      (λ q. below_on (read_step_back s n N from (hop_of s n c % 8)) (back_step_below from (hop_of s n c % 8)) (λ x hx. back_below k 4 x (hop_of s n c / 8) hx)) (λ q. refusal))
  back_below (suc k) (suc j) from c h =
      below_on (read_step_back s n N from (c % 8)) (back_step_below from (c % 8)) (λ x hx. back_below k j x (c / 8) hx)

  inverse_below : (a : ℕ) → Below N (inverse_in s n N a)
  unfolding inverse_in
  inverse_below a = below_pick (leb N (inverse_of s n a)) (λ p. refusal) (λ p. element (leb-false _ _ p))

  pub compose_below : (a b : ℕ) → a < N → Below N (compose_in s n N a b)
  unfolding compose_in
  compose_below a b h =
      below_pick (leb (length_of s n b) 5) (λ p. along_below (length_of s n b) a b h)
      (λ p. below_pick (ltb 4096 (length_of s n b)) (λ l. refusal)
      (λ l. below_pick (leb N (inverse_of s n b)) (λ q. refusal)
      (λ q. below_pick (ltb (length_of s n a) (length_of s n b)) (λ r. below_any (back_along (length_of s n a) s n N (inverse_of s n b) a) inverse_below)
      (λ r. below_pick (ltb 4096 (length_of s n a)) (λ u. refusal)
      (λ u. below_pick (ltb 4096 (length_of s n (inverse_of s n b))) (λ v. refusal)
      (λ v. below_pick (ltb (length_of s n b) (length_of s n (inverse_of s n b))) (λ o. along_below (length_of s n b) a b h)
      (λ o. back_below (length_of s n (inverse_of s n b)) 0 a (inverse_of s n b) h)))))))

  conjugate_below : (a b : ℕ) → a < N → Below N (conjugate_in s n N a b)
  unfolding conjugate_in
  conjugate_below a b h =
      below_on (compose_in s n N a b) (compose_below a b h) (λ c hc. below_any (inverse_in s n N a) (λ i. compose_below c i hc))

pub digit_below : (k : PartQuestion) (t : List ℕ) (h : Factor) (a b : ℕ) → a < h.elements → Below h.elements (digit_of k t h a b)
digit_below Compose t h a b l = compose_below (stretch t h) h.generators h.elements a b l
digit_below Inverse t h a b l = inverse_below (stretch t h) h.generators h.elements a
digit_below Conjugate t h a b l = conjugate_below (stretch t h) h.generators h.elements a b l

-- The step: what was split off so far, what is left of the element, and of the generator.
pub record Stepping (t : List ℕ) (hs : List Factor) (e x f s low rest left : ℕ) : Type 0 where
  pub walks : Walk hs f s low
  pub rests : rest < elements_of (drop f hs)
  pub same : above low s (step_in t (drop f hs) rest left) ≡ step_in t hs e x

pub stepping : (t : List ℕ) (hs : List Factor) (e x : ℕ) → e < elements_of hs → Stepping t hs e x 0 1 0 e x
stepping t hs e x h = record { walks = walk hs; rests = h; same = above_none (step_in t hs e x) }

module _ {t : List ℕ} {hs : List Factor} {e x f s low rest left : ℕ} {h : Factor} (w : Stepping t hs e x f s low rest left)
    (d : drop f hs ≡ h ∷ drop (f + 1) hs)
  where
    rest_here : rest < h.elements * elements_of (drop (f + 1) hs)
    rest_here = subst (λ (l : List Factor). rest < elements_of l) d w.rests

    here : above low s (step_in t (h ∷ drop (f + 1) hs) rest left) ≡ step_in t hs e x
    here = ap (λ (l : List Factor). above low s (step_in t l rest left)) (sym d) ∙ w.same

    passes : h.generators ≤ left → step_in t (h ∷ drop (f + 1) hs) rest left
        ≡ above (rest % h.elements) h.elements (step_in t (drop (f + 1) hs) (rest / h.elements) (left - h.generators))
    unfolding step_in
    passes k = simp (le-ltb _ _ k)

    pub steps_on : 0 < h.elements → h.generators ≤ left
        → Stepping t hs e x (f + 1) (s * h.elements) (low + s * (rest % h.elements)) (rest / h.elements) (left - h.generators)
    steps_on p k = record {
      walks = walk_on w.walks d (mod-lt rest p);
      rests = high_small h.elements (elements_of (drop (f + 1) hs)) rest rest_here;
      same =
          sym (above_above low s (rest % h.elements) h.elements (step_in t (drop (f + 1) hs) (rest / h.elements) (left - h.generators)))
          ∙ ap (above low s) (sym (passes k)) ∙ here;
    }

    module _ (k : left < h.generators) {r : Reached} (q : r ≡ read_step (stretch t h) h.generators h.elements (rest % h.elements) left) where
      found : step_in t (h ∷ drop (f + 1) hs) rest left ≡ on_reached r (λ y. Ok (record { 0 = y + h.elements * (rest / h.elements) }))
      unfolding step_in
      found = rw q (simp (lt-ltb _ _ k))

      pub steps_refused : {why : Refusal} → r ≡ Err why → Err why ≡ step_in t hs e x
      steps_refused p =
          ap (λ (v : Reached). above low s (on_reached v (λ y. Ok (record { 0 = y + h.elements * (rest / h.elements) })))) (sym p)
          ∙ ap (above low s) (sym found) ∙ here

      pub steps_found : {y : GroupElementId} → r ≡ Ok y → Ok (record { 0 = low + s * (y.0 + h.elements * (rest / h.elements)) }) ≡ step_in t hs e x
      steps_found p =
          ap (λ (v : Reached). above low s (on_reached v (λ y. Ok (record { 0 = y + h.elements * (rest / h.elements) })))) (sym p)
          ∙ ap (above low s) (sym found) ∙ here

      pub found_small : {y : GroupElementId} → r ≡ Ok y → y.0 < h.elements
      found_small p = below_element (step_below (stretch t h) h.generators h.elements (rest % h.elements) left) q p

    -- The new element is one, and so are the numbers on the way to it.
    module _ {y : ℕ} (k : y < h.elements) where
      pub part_small : y + h.elements * (rest / h.elements) < elements_of (drop f hs)
      part_small =
          subst (λ (l : List Factor). y + h.elements * (rest / h.elements) < elements_of l) (sym d)
          (joined_small k (rest / h.elements) (high_small h.elements (elements_of (drop (f + 1) hs)) rest rest_here))

      pub found_within : low + s * (y + h.elements * (rest / h.elements)) < elements_of hs
      found_within = gathered_small w.walks part_small

pub steps_none : {t : List ℕ} {hs : List Factor} {e x f s low rest left : ℕ} → Stepping t hs e x f s low rest left → drop f hs ≡ []
    → refused_reach 14 1 ≡ step_in t hs e x
unfolding step_in
steps_none {t} {hs} {e} {x} {f} {s} {low} {rest} {left} w d = ap (λ (l : List Factor). above low s (step_in t l rest left)) (sym d) ∙ w.same

-- A product below a bound, where the bound is on what it is a part of.
pub part_of : (n q e : ℕ) → q ≡ e / n → n * q ≤ e
part_of n q e p = rw (p, mul_comm n (e / n)) (div-mul-le_self e n)

-- What is asked of one factor, in its stretch.
module _ (t : List ℕ) (h : Factor) (a b : ℕ) {s : List ℕ} (q : s ≡ stretch t h) {r : Reached} where
  pub digit_compose : r ≡ compose_in s h.generators h.elements a b → r ≡ digit_of Compose t h a b
  digit_compose p = p ∙ rw q

  pub digit_inverse : r ≡ inverse_in s h.generators h.elements a → r ≡ digit_of Inverse t h a b
  digit_inverse p = p ∙ rw q

  pub digit_conjugate : r ≡ conjugate_in s h.generators h.elements a b → r ≡ digit_of Conjugate t h a b
  digit_conjugate p = p ∙ rw q

pub rest_total : {hs : List Factor} {f s low : ℕ} → Walk hs f s low → elements_of (drop f hs) ≤ elements_of hs
rest_total {hs} {f} {s} w =
    let k : 1 ≤ s = omega (arith, w.inside) in
    omega (arith, w.whole, mul-le-mul_right (elements_of (drop f hs)) k)

-- A step in a product leads to one of its elements.
pub steps_below : (t : List ℕ) (hs : List Factor) (e x : ℕ) → e < elements_of hs → Below (elements_of hs) (step_in t hs e x)
unfolding step_in
steps_below t [] e x l = refusal
steps_below t (h ∷ hs) e x l =
    let N : ℕ = h.elements in
    let M : ℕ = elements_of hs in
    let k : e / N < M = high_small N M e l in
    below_pick (ltb x h.generators)
    (λ p. below_on (read_step (stretch t h) h.generators N (e % N) x) (step_below (stretch t h) h.generators N (e % N) x) (λ y b. element (joined_small b (e / N) k)))
    (λ p. below_on (step_in t hs (e / N) (x - h.generators)) (steps_below t hs (e / N) (x - h.generators) k)
    (λ y b. element (joined_small (mod-lt e (range_pos N M e l)) y b)))
