-- What has become of a table's cells since: no step has become unknown, a step that is known is known the other way too, and word lengths are as they were.
use Prim.Native.Nat.{ℕ, ◌+◌, ◌*◌, ◌<◌, ◌≤◌}
use mathlib.Core.Path.{◌≡◌, ◌∙◌}
use mathlib.Core.List.{List}
use native.Mathlib.Decide.{ℕ_discrete}
use native.Mathlib.Omega.{arith}
use lib.ListN.{get_or, length}
use Rattle.egg.specs.declared.GroupElementId.{GroupElementId}
use Rattle.egg.specs.declared.GeneratorId.{GeneratorId}
use Rattle.egg.specs.Table.{put_at, start_of, succ_at, pred_at, length_of}
use Rattle.egg.proofs.Cells.{cell_inside, put_same, put_other, put_length}
use Rattle.build_reading.specs.Build.{set_step, set_word}
use Rattle.enumeration_run_laws.specs.Invariant.{StepKnown}
use Rattle.enumeration_run_laws.proofs.Marking.{row_is, cell_is, set_length}
use Rattle.enumeration_run_laws.proofs.Knowing.{set_keeps}
use Rattle.enumeration_run_laws.proofs.Keeping.{Both}

pub record Since (n : ℕ) (t₀ t : List ℕ) : Type 0 where
  pub more : (x h : ℕ) → h < n → StepKnown n t₀ x h → StepKnown n t x h
  pub backs : (x h : ℕ) → h < n → StepKnown n t x h → get_or t (start_of n x + (n + h)) 0 ≡ 0 → ⊥
  pub lengths : (x : ℕ) → length_of t n x ≡ length_of t₀ n x

module _ (n : ℕ) (t : List ℕ) (e : GroupElementId) (g : GeneratorId) (r : GroupElementId) (hg : g.0 < n) where
  -- Any other cell is as it was.
  pub set_other : (x k : ℕ) → k < 2 * n + 4 → (x ≡ e.0 → k ≡ g.0 → ⊥) → (x ≡ r.0 → k ≡ n + g.0 → ⊥) → get_or (set_step t n e g r) (start_of n x + k) 0 ≡ get_or t (start_of n x + k) 0
  unfolding set_step
  set_other x k hk d d' =
      put_other (put_at t (succ_at n e g) (r.0 + 1)) (pred_at n r g) (e.0 + 1)
      (λ q. d' (row_is n x r.0 k (n + g.0) hk (omega arith) (omega arith)) (cell_is n x r.0 k (n + g.0) hk (omega arith) (omega arith)))
      ∙ put_other t (succ_at n e g) (r.0 + 1) (λ q. d (row_is n x e.0 k g.0 hk (omega arith) q) (cell_is n x e.0 k g.0 hk (omega arith) q))

  set_letters : (x : ℕ) → length_of (set_step t n e g r) n x ≡ length_of t n x
  set_letters x =
      let i : start_of n x + (2 * n + 2) ≡ start_of n x + 2 * n + 2 = omega arith in
      rw i at (set_other x (2 * n + 2) (omega arith) (λ a b. omega arith) (λ a b. omega arith))

  -- The step the other way is stored.
  pub set_back : start_of n r.0 + (n + g.0) < length t → e.0 + 1 < 4294967296 → get_or (set_step t n e g r) (start_of n r.0 + (n + g.0)) 0 ≡ 0 → ⊥
  unfolding set_step
  set_back h s z =
      let i : start_of n r.0 + (n + g.0) ≡ pred_at n r g = omega arith in
      let l : length (put_at t (succ_at n e g) (r.0 + 1)) ≡ length t = put_length t (succ_at n e g) (r.0 + 1) in
      let p = put_same (put_at t (succ_at n e g) (r.0 + 1)) (pred_at n r g) (e.0 + 1) (omega arith) s in
      omega (arith, p, rw i at z)

-- A step between elements below the count, set both ways.
module _ {n count lt : ℕ} (limit : count ≤ 65535) (fits : count * (2 * n + 4) ≤ lt) (t₀ t : List ℕ) (e : GroupElementId) (g : GeneratorId) (r : GroupElementId)
    (long : length t ≡ lt) (he : e.0 < count) (hg : g.0 < n) (hr : r.0 < count) where
  abbrev once : List ℕ
  once = set_step t n e g r

  abbrev twice : List ℕ
  twice = set_step once n r g e

  back_fits : (x : ℕ) → x < count → start_of n x + (n + g.0) < lt
  back_fits x h = let low : n + g.0 < 2 * n + 4 = omega arith in omega (arith, cell_inside n low h)

  -- At the two places the step back is stored.
  back_from_lem : get_or twice (start_of n e.0 + (n + g.0)) 0 ≡ 0 → ⊥
  back_from_lem = set_back n once r g e hg (rw (set_length t n e g r, long) (back_fits e.0 he)) (omega arith)

  back_to : get_or twice (start_of n r.0 + (n + g.0)) 0 ≡ 0 → ⊥
  back_to = set_keeps n once r g e (start_of n r.0 + (n + g.0)) (set_back n t e g r hg (rw long (back_fits r.0 hr)) (omega arith))

  -- At any other place nothing has changed.
  elsewhere : (x h : ℕ) → h < n → (x ≡ e.0 → h ≡ g.0 → ⊥) → (x ≡ r.0 → h ≡ g.0 → ⊥) → get_or twice (start_of n x + h) 0 ≡ get_or t (start_of n x + h) 0
  elsewhere x h hh d d' =
      set_other n once r g e hg x h (omega arith) d' (λ a b. omega arith) ∙ set_other n t e g r hg x h (omega arith) d (λ a b. omega arith)

  backs_kept : Since n t₀ t → (x h : ℕ) → h < n → StepKnown n twice x h → get_or twice (start_of n x + (n + h)) 0 ≡ 0 → ⊥
  backs_kept s x h hh k = by (ℕ_discrete h g.0) (ℕ_discrete x e.0) (ℕ_discrete x r.0) where
    other : (x ≡ e.0 → h ≡ g.0 → ⊥) → (x ≡ r.0 → h ≡ g.0 → ⊥) → get_or twice (start_of n x + (n + h)) 0 ≡ 0 → ⊥
    other d d' =
        let same = elsewhere x h hh d d' in
        set_keeps n once r g e (start_of n x + (n + h)) (set_keeps n t e g r (start_of n x + (n + h)) (s.backs x h hh (rw same at k)))

    by : Dec (h ≡ g.0) → Dec (x ≡ e.0) → Dec (x ≡ r.0) → get_or twice (start_of n x + (n + h)) 0 ≡ 0 → ⊥
    by (no d) a b = other (λ p q. d q) (λ p q. d q)
    by (yes q) (yes p) b = rw (p, q) back_from_lem
    by (yes q) (no a) (yes p) = rw (p, q) back_to
    by (yes q) (no a) (no b) = other (λ p q. a p) (λ p q. b p)

  pub since_twice : Since n t₀ t → Since n t₀ twice
  since_twice s = record {
    more = λ x h hh k. set_keeps n once r g e (start_of n x + h) (set_keeps n t e g r (start_of n x + h) (s.more x h hh k));
    backs = backs_kept s;
    lengths = λ x. set_letters n once r g e hg x ∙ set_letters n t e g r hg x ∙ s.lengths x;
  }

pub since_both : {n count lt : ℕ} → count ≤ 65535 → count * (2 * n + 4) ≤ lt → (t₀ : List ℕ) → Both n count lt (Since n t₀)
since_both limit fits t₀ = record { both = λ t e g r long he hg hr s. since_twice limit fits t₀ t e g r long he hg hr s }

-- A new element's word is written into its row, beyond the steps.
module _ (n : ℕ) (t : List ℕ) (count : ℕ) (e : GroupElementId) (g : GeneratorId) (len : ℕ) where
  abbrev written : List ℕ
  written = set_word t n (record { 0 = count }) e g len

  pub word_step : (x k : ℕ) → k < 2 * n → get_or written (start_of n x + k) 0 ≡ get_or t (start_of n x + k) 0
  unfolding set_word
  word_step x k hk =
      let d0 : start_of n x + k ≡ start_of n count + 2 * n → ⊥ = λ q. omega (arith, cell_is n x count k (2 * n) (omega arith) (omega arith) q) in
      let d1 : start_of n x + k ≡ start_of n count + 2 * n + 1 → ⊥ = λ q. omega (arith, cell_is n x count k (2 * n + 1) (omega arith) (omega arith) (omega arith)) in
      let d2 : start_of n x + k ≡ start_of n count + 2 * n + 2 → ⊥ = λ q. omega (arith, cell_is n x count k (2 * n + 2) (omega arith) (omega arith) (omega arith)) in
      simp (put_other, d0, d1, d2)

  pub word_old : (x : ℕ) → (x ≡ count → ⊥) → length_of written n x ≡ length_of t n x
  unfolding set_word
  word_old x d =
      let d0 : start_of n x + 2 * n + 2 ≡ start_of n count + 2 * n → ⊥ = λ q. d (row_is n x count (2 * n + 2) (2 * n) (omega arith) (omega arith) (omega arith)) in
      let d1 : start_of n x + 2 * n + 2 ≡ start_of n count + 2 * n + 1 → ⊥ = λ q. d (row_is n x count (2 * n + 2) (2 * n + 1) (omega arith) (omega arith) (omega arith)) in
      let d2 : start_of n x + 2 * n + 2 ≡ start_of n count + 2 * n + 2 → ⊥ = λ q. d (row_is n x count (2 * n + 2) (2 * n + 2) (omega arith) (omega arith) (omega arith)) in
      simp (put_other, d0, d1, d2)

  pub word_new : start_of n count + (2 * n + 4) ≤ length t → len < 4294967296 → length_of written n count ≡ len
  unfolding set_word
  word_new fits small =
      let t₁ = put_at t (start_of n count + 2 * n) e.0 in
      let t₂ = put_at t₁ (start_of n count + 2 * n + 1) g.0 in
      let l : length t₂ ≡ length t = put_length t₁ (start_of n count + 2 * n + 1) g.0 ∙ put_length t (start_of n count + 2 * n) e.0 in
      put_same t₂ (start_of n count + 2 * n + 2) len (rw l (omega arith)) small
