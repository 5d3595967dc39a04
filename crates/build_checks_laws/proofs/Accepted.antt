-- What the checks let through is a group's table. Each check is read off as facts of the cells; that the columns are permutations is the pigeonhole.
use Prim.Native.Nat.{ℕ, zero, suc, ◌+◌, ◌*◌, ◌-◌, ◌≤◌, ◌<◌}
use mathlib.Core.Path.{◌≡◌, refl, sym, ap, ◌∙◌, subst}
use mathlib.Core.List.{List, [], ◌∷◌}
use native.Mathlib.Decide.{dec_le}
use native.Mathlib.Omega.{arith}
use lib.ListN.{length, get_or, length-append, get_or-eq_default}
use Rattle.egg.specs.Answers.{Verdict, fine}
use Rattle.std.specs.Prelude.{Ok, Err}
use Rattle.egg.specs.Factor.{read_step}
use Rattle.egg.specs.Table.{start_of, parent_of, last_of, length_of, step_of, back_of}
use Rattle.build_checks.specs.Checks.{check_table, counted, counts_right, Checked, checked, then_checked, with_table, check_rest, check_group}
use Rattle.build_checks_inverses.specs.Inverses.{fill_inverses, inverses_right}
use Rattle.build_checks_group.specs.Lefts.{check_steps, Lefts, left, lefts}
use Rattle.theory.specs.Table.{Table, Columns}
use Rattle.theory.specs.Words.{Parents, Recorded}
use Rattle.theory.specs.Group.{GroupOn, RightSteps, RightRegular}
use Rattle.theory.specs.Regular.{compose, inverse}
use Rattle.theory.proofs.Induction.{induction}
use Rattle.theory.proofs.Recording.{recorded_spelled, word_of_recorded}
use Rattle.theory.proofs.Sound.{sound, sound_steps}
use Rattle.build_checks_laws.specs.Stored.{StoredTable, Kept, word_of}
use Rattle.build_checks_laws.specs.Sound.{Sound}
use Rattle.egg.proofs.Answers.{read_element}
use Rattle.egg.proofs.Scans.{refused_fine}
use Rattle.build_checks_laws.proofs.Permutations.{two_sided}
use Rattle.build_checks_laws.proofs.Tests.{check8_fine, table_fine, steps_fine, ranges_fine, counts_fine, identity_fine, spelled_fine}
use Rattle.build_checks_laws.proofs.Inverses.{kept_same, fill_kept, kept_turned, kept_cell, stored_kept, fill_inverse}
use Rattle.build_checks_laws.proofs.Lefts.{lefts_sound}

-- The parts of an acceptance.
record Passed (t w : List ℕ) (n N : ℕ) (t₁ w₁ : List ℕ) : Type 0 where
  table : check_table t n N ≡ fine
  counts : counts_right (counted t w n N) n N ≡ fine
  inverses : inverses_right t₁ n N ≡ fine
  steps : check_steps t₁ n N ≡ fine
  all : lefts n t₁ n N (counted t w n N) 0 ≡ left fine w₁
  filled : fill_inverses N t n 0 ≡ t₁

then_checked_lem : (v : Verdict) (t w : List ℕ) (c : Checked) (t₁ w₁ : List ℕ) → then_checked v t w c ≡ checked fine t₁ w₁ → (v ≡ fine) × (c ≡ checked fine t₁ w₁)
then_checked_lem (Ok _) t w c t₁ w₁ h = (refl, h)
then_checked_lem (Err r) t w c t₁ w₁ h = absurd (refused_fine {r = r} (cc))

with_table_lem : (t : List ℕ) (l : Lefts) (t₁ w₁ : List ℕ) → with_table t l ≡ checked fine t₁ w₁ → (l ≡ left fine w₁) × (t ≡ t₁)
with_table_lem t (left v w) t₁ w₁ h = (cc, cc)

passed : (t w : List ℕ) (n N : ℕ) (t₁ w₁ : List ℕ) → check_group t w n N ≡ checked fine t₁ w₁ → Passed t w n N t₁ w₁
unfolding check_group check_rest
passed t w n N t₁ w₁ h =
    let f = fill_inverses N t n 0 in
    let c = counted t w n N in
    let a = then_checked_lem (check_table t n N) t w _ t₁ w₁ h in
    let b = then_checked_lem (counts_right c n N) t c _ t₁ w₁ a.1 in
    let d = then_checked_lem (inverses_right f n N) f c _ t₁ w₁ b.1 in
    let e = then_checked_lem (check_steps f n N) f c _ t₁ w₁ d.1 in
    let l = with_table_lem f (lefts n f n N c 0) t₁ w₁ e.1 in
    record { table = a.0; counts = b.0; inverses = rw l.1 at d.0; steps = rw l.1 at e.0; all = rw l.1 at l.0; filled = l.1 }

-- The accepted table is the given one with the inverses filled in.
pub accepted_filled : (t w : List ℕ) (n N : ℕ) {t₁ w₁ : List ℕ} → check_group t w n N ≡ checked fine t₁ w₁ → fill_inverses N t n 0 ≡ t₁
accepted_filled t w n N h = (passed t w n N _ _ h).filled

-- What 8 and the ranges say of the cells.
record Ranged (t : List ℕ) (n N : ℕ) : Type 0 where
  successor : (e g : ℕ) → e < N → g < n → (0 < get_or t (start_of n e + g) 0) × (get_or t (start_of n e + g) 0 ≤ N)
  predecessor : (e g : ℕ) → e < N → g < n → (0 < get_or t (start_of n e + n + g) 0) × (get_or t (start_of n e + n + g) 0 ≤ N)
  links : (e : ℕ) → 0 < e → e < N → (parent_of t n e < e) × (last_of t n e < n)
  short : (e : ℕ) → e < N → length_of t n e ≤ 4096

ranged : (t : List ℕ) (n N : ℕ) → check_table t n N ≡ fine → Ranged t n N
ranged t n N h =
    let a = (table_fine t n N).0 h in
    let m = (check8_fine t n N).0 a.0 in
    let r = (ranges_fine t n N).0 a.1.0 in
    record {
      successor = λ e g he hg. (omega (arith, m.0 e he g hg), (r e he).0 g (omega arith));
      predecessor = λ e g he hg.
          let q : start_of n e + (n + g) ≡ start_of n e + n + g = omega arith in
          (omega (arith, m.1 e he g hg), rw q at ((r e he).0 (n + g) (omega arith)));
      links = λ e pos he. (r e he).1.1 pos;
      short = λ e he. (r e he).1.0;
    }

ranged_kept : {t t₁ : List ℕ} {n N : ℕ} → Kept t t₁ n N → Ranged t n N → Ranged t₁ n N
ranged_kept {n = n} K r = record {
  successor = λ e g he hg. rw (kept_cell K (start_of n e + g) e g (omega arith) refl) (r.successor e g he hg);
  predecessor = λ e g he hg. rw (kept_cell K (start_of n e + n + g) e (n + g) (omega arith) (omega arith)) (r.predecessor e g he hg);
  links = λ e pos he. rw (K.parent_same e, K.last_same e) (r.links e pos he);
  short = λ e he. rw (K.length_same e) (r.short e he);
}

-- A table in its ranges whose columns and words have passed their tests.
module _ (t : List ℕ) (n N : ℕ) (origin : 1 ≤ N) (r : Ranged t n N) (steps : check_steps t n N ≡ fine) where
  first : (g : ℕ) → g < n → step_of t n 0 g ≡ g + 1
  first = (identity_fine t n N).0 ((steps_fine t n N).0 steps).0

  undone : {e g : ℕ} → e < N → g < n → step_of t n (back_of t n e g) g ≡ e
  undone {e} {g} he hg = ((spelled_fine t n N).0 ((steps_fine t n N).0 steps).1 e he).0 g hg

  empty : length_of t n 0 ≡ 0
  empty = ((spelled_fine t n N).0 ((steps_fine t n N).0 steps).1 0 origin).1.0 refl

  linked : (e : ℕ) → 0 < e → e < N → (step_of t n (parent_of t n e) (last_of t n e) ≡ e) × (length_of t n e ≡ length_of t n (parent_of t n e) + 1)
  linked e pos he = ((spelled_fine t n N).0 ((steps_fine t n N).0 steps).1 e he).1.1 pos

  table : Table n N (step_of t n)
  table = record { origin = origin; closed = λ {e} {g} he hg. omega (arith, r.successor e g he hg) }

  parents : Parents n N (step_of t n) (parent_of t n) (last_of t n)
  parents = record {
    earlier = λ {e} pos he. (r.links e pos he).0;
    generator = λ {e} pos he. (r.links e pos he).1;
    arrives = λ {e} pos he. (linked e pos he).0;
  }

  recorded : Recorded N (parent_of t n) (last_of t n) (word_of t n)
  recorded = word_of_recorded parents

  columns : Columns n N (step_of t n) (back_of t n)
  columns = record {
    closed = closed;
    step_back = undone;
    back_step = λ {e} {g} he hg. two_sided N (λ x. step_of t n x g) (λ x. back_of t n x g) (λ x hx. closed hx hg) (λ x hx. undone hx hg) e he;
  } where
    closed : {e g : ℕ} → e < N → g < n → back_of t n e g < N
    closed {e} {g} he hg = omega (arith, r.predecessor e g he hg)

  lengths : (e : ℕ) → e < N → length_of t n e ≡ length (word_of t n e)
  lengths = induction (λ e. e < N → length_of t n e ≡ length (word_of t n e)) go where
    go : (e : ℕ) → ((d : ℕ) → d < e → d < N → length_of t n d ≡ length (word_of t n d)) → e < N → length_of t n e ≡ length (word_of t n e)
    go zero ih he = empty ∙ sym (ap length recorded.start)
    go (suc e) ih he =
        let pos : 0 < suc e = omega arith in
        let p = parents.earlier pos he in
        omega (
          arith,
          (linked (suc e) pos he).1,
          ih (parent_of t n (suc e)) p (omega arith),
          ap length (recorded.grow pos he),
          length-append (word_of t n (parent_of t n (suc e))) (last_of t n (suc e) ∷ []),
        )

  stored : StoredTable t n N (step_of t n) (back_of t n) (parent_of t n) (last_of t n) (word_of t n)
  stored = record {
    successor = λ {e} {g} he hg. omega (arith, r.successor e g he hg);
    predecessor = λ {e} {g} he hg. omega (arith, r.predecessor e g he hg);
    parents = λ pos he. refl;
    letters = λ pos he. refl;
    lengths = λ {e} he. lengths e he;
  }

-- Where the arrivals have been counted and are right, the work has a place for each element.
work_room : (w : List ℕ) (n N : ℕ) → 1 ≤ N → 0 < n → ((e : ℕ) → e < N → get_or w e 0 ≡ n) → N ≤ length w
work_room w n N origin pos h = go (dec_le N (length w)) where
  go : Dec (N ≤ length w) → N ≤ length w
  go (yes p) = p
  go (no d) = absurd (omega (arith, h (N - 1) (omega arith), get_or-eq_default w 0 {n = N - 1} (omega arith)))

pub checks_sound : (t w : List ℕ) (n N : ℕ) {t₁ w₁ : List ℕ} → check_group t w n N ≡ checked fine t₁ w₁ → 1 ≤ N → N ≤ 65535 → N * (2 * n + 4) ≤ length t
    → Sound t₁ n N
checks_sound t w n N {t₁} {w₁} h origin small room =
    let p = passed t w n N t₁ w₁ h in
    let K : Kept t t₁ n N = rw p.filled at (fill_kept t n N) in
    let r = ranged_kept K (ranged t n N p.table) in
    let c = counted t w n N in
    let T = table t₁ n N origin r p.steps in
    let P = parents t₁ n N origin r p.steps in
    let R = recorded t₁ n N origin r p.steps in
    let C = columns t₁ n N origin r p.steps in
    let S = stored t₁ n N origin r p.steps in
    record {
      table = T;
      parents = P;
      recorded = R;
      spelled = recorded_spelled P R;
      columns = C;
      check = record {
        commutes = λ {s} {g} {x} hs hg hx.
            lefts_sound small S T P R n c 0 w₁ (omega arith) (λ pos. work_room c n N origin pos ((counts_fine t n N c).0 p.counts)) p.all
            s (omega arith) (omega arith) x hx g hg;
      };
      identity_row_lem = λ {g} hg. omega (arith, first t₁ n N origin r p.steps g hg);
      stored = S;
      short = λ {e} he. r.short e he;
      inverses = λ {e} he.
          rw p.filled at (fill_inverse T P R C small N t room (stored_kept (kept_turned K) S) 0 (omega arith) e (omega arith) (omega arith));
    }

-- Whatever the verdict, the checks change no cell of the table but the inverses.
abbrev table_of : Checked → List ℕ
table_of (checked v t w) = t

either_table : (Q : List ℕ → Type 0) (v : Verdict) (t w : List ℕ) (c : Checked) → Q t → Q (table_of c) → Q (table_of (then_checked v t w c))
either_table Q (Ok _) t w c here later = later
either_table Q (Err r) t w c here later = here

same_table : (Q : List ℕ → Type 0) (t : List ℕ) (l : Lefts) → Q t → Q (table_of (with_table t l))
same_table Q t (left v w) here = here

pub checks_kept : (t w : List ℕ) (n N : ℕ) {v : Verdict} {t₁ w₁ : List ℕ} → check_group t w n N ≡ checked v t₁ w₁ → Kept t t₁ n N
unfolding check_group check_rest
checks_kept t w n N h =
    let Q : List ℕ → Type 0 = λ l. Kept t l n N in
    let f = fill_inverses N t n 0 in
    let c = counted t w n N in
    let here : Q t = kept_same in
    let there : Q f = fill_kept t n N in
    subst (λ x. Q (table_of x)) h
    (either_table Q (check_table t n N) t w _ here
    (either_table Q (counts_right c n N) t c _ here
    (either_table Q (inverses_right f n N) f c _ there
    (either_table Q (check_steps f n N) f c _ there (same_table Q f (lefts n f n N c 0) there)))))

-- So the composition that the table and its words describe is a group's, and the table's steps are multiplication on the right in it.
module _ {t : List ℕ} {n N : ℕ} (S : Sound t n N) where
  pub sound_group : GroupOn N (compose (step_of t n) (word_of t n)) (inverse (back_of t n) (word_of t n))
  sound_group = sound S.table S.spelled S.check S.columns

  pub sound_right_steps : RightSteps n N (step_of t n) (compose (step_of t n) (word_of t n))
  sound_right_steps = sound_steps S.table S.spelled S.check

  pub sound_regular : RightRegular n N (step_of t n)
  sound_regular = record {
    op = compose (step_of t n) (word_of t n);
    inv = inverse (back_of t n) (word_of t n);
    group = sound_group;
    steps = sound_right_steps;
  }

  -- A step that is read is the table's own.
  pub read_step_lem : {e g : ℕ} → e < N → g < n → read_step t n N e g ≡ Ok (record { 0 = step_of t n e g })
  read_step_lem {e} {g} he hg =
      let q = S.stored.successor he hg in
      sym (read_element t n N e g refl (omega arith) (omega (arith, S.table.closed he hg)))
