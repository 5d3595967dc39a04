-- Every orbit in a finite set can be numbered in order of first appearance.
use Prim.Native.Nat.{ℕ, zero, suc, ◌+◌, ◌<◌, ◌≤◌}
use mathlib.Core.Path.{◌≡◌, refl, sym, ◌∙◌, ap}
use mathlib.Core.Logic.{◌⊎◌, inl, inr, ⊎_elim}
use native.Mathlib.Decide.{dec_lt}
use native.Mathlib.Omega.{arith}
use borrow.Author.Tests.{eq-eqb, ne_eqb}
use lib.Dec.{eqb, eqb→eq}
use Rattle.egg.specs.Table.{pick}
use Rattle.theory.specs.Numbering.{Known, start, old, new, next_row}
use Rattle.theory.specs.Appearance.{Ahead}
use Rattle.theory.proofs.BoundedTests.{below_suc, eq→eqb, least_holds, least_at_most}
use Rattle.theory.proofs.RuleLaws.{ahead_above}
use Rattle.theory.proofs.Counting.{row_known, read_known, known_same, numbered_table}
use Rattle.theory.proofs.Pigeonhole.{pigeonhole}
use Rattle.theory.specs.Orbit.{Orbit, origin, onward, Inside, number_of, numbered_step, Appearing}

-- A number that is found.
pub number_found : (c : ℕ) (elt : ℕ → ℕ) (x : ℕ) → number_of c elt x < c → elt (number_of c elt x) ≡ x
number_found c elt x h = eqb→eq (elt (number_of c elt x)) x (least_holds c (λ i. eqb (elt i) x) h)

pub number_at_most : (c : ℕ) (elt : ℕ → ℕ) (x i : ℕ) → elt i ≡ x → number_of c elt x ≤ i
number_at_most c elt x i q = least_at_most c (λ i. eqb (elt i) x) i (eq→eqb q)

pub number_is : (c : ℕ) (elt : ℕ → ℕ) (x i : ℕ) → ((d e : ℕ) → d < c → e < c → elt d ≡ elt e → d ≡ e) → i < c → elt i ≡ x → number_of c elt x ≡ i
number_is c elt x i once h q =
    let l = number_at_most c elt x i q in
    let m : number_of c elt x < c = omega (arith, l) in
    once (number_of c elt x) i m h (number_found c elt x m ∙ sym q)

-- One more element.
extended : (ℕ → ℕ) → ℕ → ℕ → ℕ → ℕ
extended elt c x i = pick (eqb i c) x (elt i)

extended_here : (elt : ℕ → ℕ) (c x : ℕ) → extended elt c x c ≡ x
unfolding extended
extended_here elt c x = simp (eq-eqb c c refl)

extended_other : (elt : ℕ → ℕ) (c x i : ℕ) → (i ≡ c → ⊥) → extended elt c x i ≡ elt i
unfolding extended
extended_other elt c x i f = simp (ne_eqb i c f)

-- What holds when row e is to be read from column g on.
record Stage (n M : ℕ) (out : ℕ → ℕ → ℕ) (x₀ e g : ℕ) : Type 0 where
  count : ℕ
  elt : ℕ → ℕ
  known : Known n (numbered_step count elt out) e g count
  first : elt 0 ≡ x₀
  below : {i : ℕ} → i < count → elt i < M
  once : {i j : ℕ} → i < count → j < count → elt i ≡ elt j → i ≡ j
  reached : {i : ℕ} → i < count → Orbit n out x₀ (elt i)

module _ {n M : ℕ} {out : ℕ → ℕ → ℕ} {x₀ : ℕ} (I : Inside n M out x₀) where
  module _ {e g : ℕ} (S : Stage n M out x₀ e g) (hg : g < n) where
    open S use {count, elt}

    x : ℕ
    x = out (elt e) g

    -- The place shows an element that is known.
    stage_old : numbered_step count elt out e g < count → Stage n M out x₀ e (suc g)
    stage_old h = record {
      count = count;
      elt = elt;
      known = old S.known hg h;
      first = S.first;
      below = S.below;
      once = S.once;
      reached = S.reached;
    }

    -- It shows a new one.
    module _ (f : ¬ (numbered_step count elt out e g < count)) where
      abbrev elt₁ : ℕ → ℕ
      elt₁ = extended elt count (out (elt e) g)

      same : {i : ℕ} → i < count → elt₁ i ≡ elt i
      same {i} h = extended_other elt count (out (elt e) g) i (λ q. omega arith)

      here : elt₁ count ≡ out (elt e) g
      here = extended_here elt count (out (elt e) g)

      at_count : {i : ℕ} → i ≡ count → elt₁ i ≡ out (elt e) g
      at_count q = ap elt₁ q ∙ here

      fresh : {i : ℕ} → i < count → elt i ≡ out (elt e) g → ⊥
      fresh {i} h q = f (omega (arith, number_at_most count elt (out (elt e) g) i q))

      once₁ : {i j : ℕ} → i < suc count → j < suc count → elt₁ i ≡ elt₁ j → i ≡ j
      once₁ {i} {j} hi hj q = go (below_suc hi) (below_suc hj) where
        go : (i ≡ count) ⊎ (i < count) → (j ≡ count) ⊎ (j < count) → i ≡ j
        go (inl p) (inl r) = p ∙ sym r
        go (inl p) (inr r) = absurd (fresh r (sym (same r) ∙ sym q ∙ ap elt₁ p ∙ here))
        go (inr p) (inl r) = absurd (fresh p (sym (same p) ∙ q ∙ ap elt₁ r ∙ here))
        go (inr p) (inr r) = S.once p r (sym (same p) ∙ q ∙ same r)

      row_in : e < count
      row_in = row_known S.known

      -- Places that were read are numbered as before.
      kept : (y h : ℕ) → h < n → Ahead y h e g → numbered_step (suc count) elt₁ out y h ≡ numbered_step count elt out y h
      kept y h hh a =
          let ly : y < count = omega (arith, ahead_above a, row_in) in
          let v = numbered_step count elt out y h in
          let l : numbered_step count elt out y h < count = read_known S.known hh a in
          let q = number_found count elt (out (elt y) h) l in
          rw (same ly) (number_is (suc count) elt₁ (out (elt y) h) v (λ i j. once₁) (omega arith) (same l ∙ q))

      stage_new : Stage n M out x₀ e (suc g)
      stage_new = record {
        count = suc count;
        elt = elt₁;
        known = new (known_same S.known kept) hg (rw (same row_in) (number_is (suc count) elt₁ (out (elt e) g) count (λ i j. once₁) (omega arith) here));
        first = same (omega (arith, row_in)) ∙ S.first;
        below = λ {i} h. ⊎_elim
            (λ q. rw (at_count q) (I.closed (S.below row_in) hg))
            (λ l. rw (same {i = i} l) (S.below l))
            (below_suc h);
        once = once₁;
        reached = λ {i} h. ⊎_elim
            (λ q. rw (at_count q) (onward (S.reached row_in) hg))
            (λ l. rw (same {i = i} l) (S.reached l))
            (below_suc h);
      }

    stage_next : Stage n M out x₀ e (suc g)
    stage_next = go (dec_lt (numbered_step count elt out e g) count) where
      go : Dec (numbered_step count elt out e g < count) → Stage n M out x₀ e (suc g)
      go (yes h) = stage_old h
      go (no f) = stage_new f

  -- What is reached fits the set.
  few : {e g : ℕ} (S : Stage n M out x₀ e g) → S.count ≤ M
  few S = go (dec_lt M S.count) where
    go : Dec (M < S.count) → S.count ≤ M
    go (no f) = omega arith
    go (yes h) =
        let r = pigeonhole M S.elt (λ i l. S.below (omega arith)) in
        absurd (omega (arith, r.ordered, r.inside, S.once (omega (arith, r.ordered, r.inside)) (omega (arith, r.inside)) r.equal))

  stage_row : (k : ℕ) {e g : ℕ} → g + k ≡ n → Stage n M out x₀ e g → Stage n M out x₀ e n
  stage_row zero {e} {g} q S = let p : g ≡ n = omega arith in rw p at S
  stage_row (suc k) {e} {g} q S = stage_row k {g = suc g} (omega arith) (stage_next S (omega arith))

  -- After a row comes the next, if its element is known.
  stage_rows : (k : ℕ) {e : ℕ} → M ≤ e + k → Stage n M out x₀ e 0 → (N : ℕ) × (elt : ℕ → ℕ) × Appearing n M out x₀ N elt
  stage_rows zero {e} h S = absurd (omega (arith, row_known S.known, few S))
  stage_rows (suc k) {e} h S = go (stage_row n (omega arith) S) (λ S₁ l. stage_rows k {e = suc e} (omega arith) (onto S₁ l)) where
    onto : (S₁ : Stage n M out x₀ e n) → suc e < S₁.count → Stage n M out x₀ (suc e) 0
    onto S₁ l = record {
      count = S₁.count;
      elt = S₁.elt;
      known = next_row S₁.known l;
      first = S₁.first;
      below = S₁.below;
      once = S₁.once;
      reached = S₁.reached;
    }

    go : (S₁ : Stage n M out x₀ e n) → ((S₂ : Stage n M out x₀ e n) → suc e < S₂.count → (N : ℕ) × (elt : ℕ → ℕ) × Appearing n M out x₀ N elt)
        → (N : ℕ) × (elt : ℕ → ℕ) × Appearing n M out x₀ N elt
    go S₁ more = by (dec_lt (suc e) S₁.count) where
      by : Dec (suc e < S₁.count) → (N : ℕ) × (elt : ℕ → ℕ) × Appearing n M out x₀ N elt
      by (yes l) = more S₁ l
      by (no f) = (
        S₁.count,
        S₁.elt,
        record {
          by_rule = record { end = e; last_row = omega (arith, row_known S₁.known); known = S₁.known };
          first = S₁.first;
          below = S₁.below;
          once = S₁.once;
          reached = S₁.reached;
        },
      )

  -- The orbit, numbered.
  pub appearing : (N : ℕ) × (elt : ℕ → ℕ) × Appearing n M out x₀ N elt
  appearing = stage_rows M (omega arith) (record {
    count = 1;
    elt = λ _. x₀;
    known = start;
    first = refl;
    below = λ _. I.here;
    once = λ hi hj _. omega arith;
    reached = λ _. origin;
  })

-- What the numbering gives.
module _ {n M : ℕ} {out : ℕ → ℕ → ℕ} {x₀ N : ℕ} {elt : ℕ → ℕ} (A : Appearing n M out x₀ N elt) where
  pub origin_below : 0 < N
  origin_below = (numbered_table A.by_rule).origin

  pub step_below : {e g : ℕ} → e < N → g < n → numbered_step N elt out e g < N
  step_below he hg = (numbered_table A.by_rule).closed he hg

  -- A step of the numbers is a step outside.
  pub step_outside : {e g : ℕ} → e < N → g < n → elt (numbered_step N elt out e g) ≡ out (elt e) g
  step_outside {e} {g} he hg = number_found N elt (out (elt e) g) (step_below he hg)

  pub number_elt : {e : ℕ} → e < N → number_of N elt (elt e) ≡ e
  number_elt {e} he = number_is N elt (elt e) e (λ i j. A.once) he refl

  -- All that is reached has a number.
  pub orbit_numbered : {x : ℕ} → Orbit n out x₀ x → (e : ℕ) × (e < N) × (elt e ≡ x)
  orbit_numbered origin = (0, origin_below, A.first)
  orbit_numbered (onward {x} {g} o hg) =
      let (e, he, q) = orbit_numbered o in
      (numbered_step N elt out e g, step_below he hg, step_outside he hg ∙ ap (λ y. out y g) q)

  pub elt_number : {x : ℕ} → Orbit n out x₀ x → elt (number_of N elt x) ≡ x
  elt_number {x} o = let (e, he, q) = orbit_numbered o in number_found N elt x (omega (arith, number_at_most N elt x e q))

  pub number_below : {x : ℕ} → Orbit n out x₀ x → number_of N elt x < N
  number_below {x} o = let (e, he, q) = orbit_numbered o in omega (arith, number_at_most N elt x e q)
