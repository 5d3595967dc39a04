-- The filling of the inverses writes at each element what its reversed word leads back to, and changes no other cell.
use Prim.Native.Nat.{ℕ, zero, suc, ◌+◌, ◌*◌, ◌-◌, ◌%◌, ◌≤◌, ◌<◌}
use mathlib.Core.Path.{◌≡◌, refl, sym, ap, ◌∙◌}
use mathlib.Core.List.{List, [], ◌∷◌, ◌++◌}
use native.Mathlib.Omega.{arith}
use lib.ListN.{length, get_or}
use Rattle.egg.specs.Table.{put_at, start_of, hop_of, last_of, length_of, inverse_of, step_of, back_of}
use Rattle.build_checks_inverses.specs.Inverses.{invert_from, invert_of, fill_inverses}
use Rattle.theory.specs.Table.{Table, Columns}
use Rattle.theory.specs.Words.{Parents, Recorded, retrace}
use Rattle.theory.specs.Regular.{inverse}
use Rattle.theory.proofs.Walking.{retrace_closed}
use Rattle.theory.proofs.Recording.{recorded_spelled, length_grow}
use Rattle.build_checks_laws.specs.Stored.{StoredTable, Kept}
use Rattle.egg.proofs.Cells.{put_same, put_other, put_length, cell_inside, other_cell, other_row}
use Rattle.egg.proofs.Scans.{here_or_later}

-- What the filling leaves.
fill_other : (k : ℕ) (t : List ℕ) (n e i : ℕ) → ((d : ℕ) → e ≤ d → d < e + k → i ≡ start_of n d + 2 * n + 3 → ⊥)
    → get_or (fill_inverses k t n e) i 0 ≡ get_or t i 0
unfolding fill_inverses
fill_other zero t n e i h = refl
fill_other (suc k) t n e i h =
    fill_other k (put_at t (start_of n e + 2 * n + 3) (invert_of t n e)) n (e + 1) i (λ d l m. h d (omega arith) (omega arith))
    ∙ put_other t (start_of n e + 2 * n + 3) (invert_of t n e) (h e (omega arith) (omega arith))

fill_length : (k : ℕ) (t : List ℕ) (n e : ℕ) → length (fill_inverses k t n e) ≡ length t
unfolding fill_inverses
fill_length zero t n e = refl
fill_length (suc k) t n e = fill_length k _ n (e + 1) ∙ put_length t (start_of n e + 2 * n + 3) (invert_of t n e)

module _ (t t₁ : List ℕ) (n N : ℕ) (size : length t₁ ≡ length t)
    (other : (i : ℕ) → ((e : ℕ) → e < N → (i ≡ start_of n e + 2 * n + 1 → ⊥) × (i ≡ start_of n e + 2 * n + 3 → ⊥)) → get_or t₁ i 0 ≡ get_or t i 0) where
  -- Cell k of a row, other than these.
  cell_same : (i e k : ℕ) → k < 2 * n + 3 → (k ≡ 2 * n + 1 → ⊥) → i ≡ start_of n e + k → get_or t₁ i 0 ≡ get_or t i 0
  cell_same i e k hk d q = other i λ x hx. (
    λ p. other_cell n {k = k} (omega arith) e x {k' = 2 * n + 1} (omega arith) d (omega arith),
    λ p. other_cell n {k = k} (omega arith) e x {k' = 2 * n + 3} (omega arith) (omega arith) (omega arith),
  )

  pub keeps : ((e : ℕ) → last_of t₁ n e ≡ last_of t n e) → Kept t t₁ n N
  keeps last = record {
    size = size;
    other = other;
    step_same = λ e {g} hg. ap (λ (x : ℕ). x - 1) (cell_same (start_of n e + g) e g (omega arith) (omega arith) refl);
    back_same = λ e {g} hg. ap (λ (x : ℕ). x - 1) (cell_same (start_of n e + n + g) e (n + g) (omega arith) (omega arith) (omega arith));
    parent_same = λ e. cell_same (start_of n e + 2 * n) e (2 * n) (omega arith) (omega arith) refl;
    last_same = last;
    length_same = λ e. cell_same (start_of n e + 2 * n + 2) e (2 * n + 2) (omega arith) (omega arith) (omega arith);
  }

pub kept_same : {t : List ℕ} {n N : ℕ} → Kept t t n N
kept_same {t} {n} {N} = keeps t t n N refl (λ i h. refl) (λ e. refl)

pub kept_turned : {t t₁ : List ℕ} {n N : ℕ} → Kept t t₁ n N → Kept t₁ t n N
kept_turned {t} {t₁} {n} {N} K = keeps t₁ t n N (sym K.size) (λ i h. sym (K.other i h)) (λ e. sym (K.last_same e))

pub kept_then : {t t₁ t₂ : List ℕ} {n N : ℕ} → Kept t t₁ n N → Kept t₁ t₂ n N → Kept t t₂ n N
kept_then {t} {t₁} {t₂} {n} {N} K L =
    keeps t t₂ n N (L.size ∙ K.size) (λ i h. L.other i h ∙ K.other i h) (λ e. L.last_same e ∙ K.last_same e)

-- Cell k of a row: its successors, its predecessors and its parent.
pub kept_cell : {t t₁ : List ℕ} {n N : ℕ} → Kept t t₁ n N → (i e k : ℕ) → k < 2 * n + 1 → i ≡ start_of n e + k → get_or t₁ i 0 ≡ get_or t i 0
kept_cell {t} {t₁} {n} {N} K i e k hk q = cell_same t t₁ n N K.size K.other i e k (omega arith) (omega arith) q

-- Where only inverses differ.
module _ (t t₁ : List ℕ) (n N : ℕ) (size : length t₁ ≡ length t)
    (other : (i : ℕ) → ((e : ℕ) → e < N → i ≡ start_of n e + 2 * n + 3 → ⊥) → get_or t₁ i 0 ≡ get_or t i 0) where
  letter_cell : (e : ℕ) → hop_of t₁ n e ≡ hop_of t n e
  letter_cell e = other (start_of n e + 2 * n + 1)
      λ x hx p. other_cell n {k = 2 * n + 1} (omega arith) e x {k' = 2 * n + 3} (omega arith) (omega arith) (omega arith)

  inverses_kept : Kept t t₁ n N
  inverses_kept = keeps t t₁ n N size (λ i h. other i (λ e he. (h e he).1)) (λ e. ap (λ (x : ℕ). x % 8) (letter_cell e))

pub fill_kept : (t : List ℕ) (n N : ℕ) → Kept t (fill_inverses N t n 0) n N
fill_kept t n N = inverses_kept t (fill_inverses N t n 0) n N (fill_length N t n 0) (λ i h. fill_other N t n 0 i (λ d l m. h d (omega arith)))

pub put_kept : (t : List ℕ) (n N e v : ℕ) → e < N → Kept t (put_at t (start_of n e + 2 * n + 3) v) n N
put_kept t n N e v he =
    inverses_kept t (put_at t (start_of n e + 2 * n + 3) v) n N (put_length t (start_of n e + 2 * n + 3) v)
    (λ i h. put_other t (start_of n e + 2 * n + 3) v (h e he))

retrace_append : (back : ℕ → ℕ → ℕ) (x : ℕ) (u : List ℕ) (g : ℕ) → retrace back x (u ++ g ∷ []) ≡ retrace back (back x g) u
retrace_append back x [] g = refl
retrace_append back x (h ∷ u) g = ap (λ (y : ℕ). back y h) (retrace_append back x u g)

module _ {n N : ℕ} {step back : ℕ → ℕ → ℕ} {parent last : ℕ → ℕ} {word : ℕ → List ℕ} where
  pub stored_kept : {t t₁ : List ℕ} → Kept t t₁ n N → StoredTable t n N step back parent last word → StoredTable t₁ n N step back parent last word
  stored_kept K S = record {
    successor = λ {e} {g} he hg. kept_cell K (start_of n e + g) e g (omega arith) refl ∙ S.successor he hg;
    predecessor = λ {e} {g} he hg. kept_cell K (start_of n e + n + g) e (n + g) (omega arith) (omega arith) ∙ S.predecessor he hg;
    parents = λ {e} p he. K.parent_same e ∙ S.parents p he;
    letters = λ {e} p he. K.last_same e ∙ S.letters p he;
    lengths = λ {e} he. K.length_same e ∙ S.lengths he;
  }

  -- The step and the step back that are read.
  pub step_is : {t : List ℕ} → StoredTable t n N step back parent last word → {e g : ℕ} → e < N → g < n → step_of t n e g ≡ step e g
  step_is S he hg = omega (arith, S.successor he hg)

  pub back_is : {t : List ℕ} → StoredTable t n N step back parent last word → {e g : ℕ} → e < N → g < n → back_of t n e g ≡ back e g
  back_is S he hg = omega (arith, S.predecessor he hg)

  module _ (T : Table n N step) (P : Parents n N step parent last) (R : Recorded N parent last word) (C : Columns n N step back) where
    -- Going from parent to parent, through the predecessors.
    invert_is : {t : List ℕ} → StoredTable t n N step back parent last word → (k e x : ℕ) → e < N → x < N → k ≡ length (word e)
        → invert_from k t n e x ≡ retrace back x (word e)
    unfolding invert_from
    invert_is S zero zero x he hx q = rw R.start
    invert_is S (suc k) zero x he hx q = absurd (omega (arith, ap length R.start))
    invert_is S zero (suc e) x he hx q = let p : 0 < suc e = omega arith in absurd (omega (arith, length_grow R p he))
    invert_is S (suc k) (suc e) x he hx q =
        let p : 0 < suc e = omega arith in
        let h : last (suc e) < n = P.generator p he in
        let m : parent (suc e) < N = omega (arith, P.earlier p he) in
        rw (S.parents p he, S.letters p he, back_is S hx h, R.grow p he, retrace_append)
        (invert_is S k (parent (suc e)) (back x (last (suc e))) m (C.closed hx h) (omega (arith, length_grow R p he)))

    pub inverse_small : {e : ℕ} → e < N → inverse back word e < N
    inverse_small he = retrace_closed C T.origin ((recorded_spelled P R).over he)

    pub fill_inverse : N ≤ 65535 → (k : ℕ) (t : List ℕ) → N * (2 * n + 4) ≤ length t → StoredTable t n N step back parent last word
        → (e : ℕ) → e + k ≤ N → (d : ℕ) → e ≤ d → d < e + k → inverse_of (fill_inverses k t n e) n d ≡ inverse back word d
    unfolding fill_inverses
    fill_inverse small zero t room S e end d l m = absurd (omega arith)
    fill_inverse small (suc k) t room S e end d l m =
        let at = start_of n e + 2 * n + 3 in
        let t' = put_at t at (invert_of t n e) in
        let he : e < N = omega arith in
        let v : invert_of t n e ≡ inverse back word e = invert_is S (length_of t n e) e 0 he T.origin (S.lengths he) in
        here_or_later (λ d. inverse_of (fill_inverses k t' n (e + 1)) n d ≡ inverse back word d) l
        (fill_other k t' n (e + 1) at (λ d l m q. other_row n {k = 2 * n + 3} (omega arith) e d {k' = 2 * n + 3} (omega arith) (omega arith) (omega arith))
        ∙ put_same t at (invert_of t n e) (omega (arith, cell_inside n {k = 2 * n + 3} (omega arith) he)) (omega (arith, v, inverse_small he))
        ∙ v)
        (λ p. fill_inverse small k t' (omega (arith, put_length t at (invert_of t n e))) (stored_kept (put_kept t n N e (invert_of t n e) he) S)
        (e + 1) (omega arith) d (omega arith) (omega arith))
