-- A fact goes on the stack once at most: what is on the stack and what may still come grows less with each fact taken.
use Prim.Native.Nat.{ℕ, zero, suc, ◌+◌, ◌*◌, ◌<◌, ◌≤◌}
use mathlib.Core.Path.{◌≡◌, refl}
use mathlib.Core.Logic.{⊎_elim}
use mathlib.Core.Bool.{Bool, true, false}
use mathlib.Core.List.{List, ◌∷◌}
use native.Mathlib.Nat.{mul-one, lt_of_lt_of_le}
use native.Mathlib.Decide.{ℕ_discrete}
use native.Mathlib.Omega.{arith}
use borrow.Author.Tests.{eqb-true, eq-eqb, ne_eqb}
use lib.ListN.{get_or, length}
use lib.Dec.{eqb}
use Rattle.theory.specs.Bounded.{sum, one}
use Rattle.theory.proofs.BoundedTests.{below_suc}
use Rattle.egg.specs.declared.GroupElementId.{GroupElementId}
use Rattle.egg.specs.declared.GeneratorId.{GeneratorId}
use Rattle.egg.specs.Table.{pick, put_at, start_of, succ_at}
use Rattle.build_reading.specs.Build.{is_new, set_step}
use Rattle.enumeration_rows.specs.Rows.{work_width, place_at}
use Rattle.enumeration_wake.specs.Waking.{State, state, link, below_at, learns}
use Rattle.enumeration_run_laws.specs.Invariant.{StepKnown, CellOfKind, in_place}
use Rattle.enumeration_run_laws.specs.Stack.{free, Fact, Absent, Stack, bottom, above, SameStackLinks, FactsWithin}
use Rattle.egg.proofs.Cells.{inside, same_row, same_cell, put_same, put_other}
use Rattle.enumeration_run_laws.proofs.Spots.{place_inside, place_link, link_small}
use Rattle.enumeration_run_laws.proofs.Knowing.{set_more, set_known}

-- Sums of numbers that are less, one by one.
sum_le : (k : ℕ) (f g : ℕ → ℕ) → ((i : ℕ) → i < k → f i ≤ g i) → sum k f ≤ sum k g
sum_le zero f g h = omega arith
sum_le (suc k) f g h = omega (arith, sum_le k f g (λ i l. h i (omega arith)), h k (omega arith))

sum_lt : (k : ℕ) (f g : ℕ → ℕ) → ((i : ℕ) → i < k → f i ≤ g i) → (j : ℕ) → j < k → f j + 1 ≤ g j → sum k f + 1 ≤ sum k g
sum_lt zero f g h j hj s = absurd (omega arith)
sum_lt (suc k) f g h j hj s = ⊎_elim (λ e. omega (arith, sum_le k f g (λ i l. h i (omega arith)), rw e at s))
    (λ l. omega (arith, sum_lt k f g (λ i l. h i (omega arith)) j l s, h k (omega arith))) (below_suc hj)

sum_bound : (k b : ℕ) (f : ℕ → ℕ) → ((i : ℕ) → i < k → f i ≤ b) → sum k f ≤ k * b
sum_bound zero b f h = omega arith
sum_bound (suc k) b f h = omega (arith, sum_bound k b f (λ i l. h i (omega arith)), h k (omega arith))

one_zero : (x : ℕ) → x ≡ 0 → one (eqb x 0) ≡ 1
one_zero x z = simp (eq-eqb _ _ z)

one_more : (x : ℕ) → (x ≡ 0 → ⊥) → one (eqb x 0) ≡ 0
one_more x d = simp (ne_eqb _ _ d)

one_bound : (b : Bool) → one b ≤ 1
one_bound true = omega arith
one_bound false = omega arith

one_le : (x y : ℕ) → ((y ≡ 0 → ⊥) → x ≡ 0 → ⊥) → one (eqb x 0) ≤ one (eqb y 0)
one_le x y h = by (ℕ_discrete y 0) where
  by : Dec (y ≡ 0) → one (eqb x 0) ≤ one (eqb y 0)
  by (yes z) = rw (one_zero y z) (one_bound (eqb x 0))
  by (no d) = rw (one_more x (h d)) (omega arith)

-- A table in which more steps are known has fewer that are not.
module _ (n count : ℕ) (t t' : List ℕ) (more : (e g : ℕ) → g < n → StepKnown n t e g → StepKnown n t' e g) where
  row_le : (e : ℕ) → sum n (λ g. one (eqb (get_or t' (start_of n e + g) 0) 0)) ≤ sum n (λ g. one (eqb (get_or t (start_of n e + g) 0) 0))
  row_le e = sum_le n _ _ (λ g hg. one_le (get_or t' (start_of n e + g) 0) (get_or t (start_of n e + g) 0) (more e g hg))

  free_le : free n count t' ≤ free n count t
  free_le = sum_le count _ _ (λ e he. row_le e)

  free_lt : (e g : ℕ) → e < count → g < n → get_or t (start_of n e + g) 0 ≡ 0 → StepKnown n t' e g → free n count t' + 1 ≤ free n count t
  free_lt e g he hg z d = sum_lt count _ _ (λ x hx. row_le x) e he
      (sum_lt n _ _ (λ h hh. one_le (get_or t' (start_of n e + h) 0) (get_or t (start_of n e + h) 0) (more e h hh)) g hg (rw (one_zero (get_or t (start_of n e + g) 0) z, one_more (get_or t' (start_of n e + g) 0) d) (omega arith)))

pub free_bound : (n count : ℕ) (t : List ℕ) → free n count t ≤ count * n
free_bound n count t = sum_bound count n _ (λ e he. rw (mul-one n) at (sum_bound n 1 _ (λ g hg. one_bound (eqb (get_or t (start_of n e + g) 0) 0))))

fact_spot : {n count p : ℕ} {t : List ℕ} → Fact n count t p → CellOfKind n (p + 6) 6
fact_spot f = in_place f.element f.generator f.generator_below (omega arith) (omega (arith, f.stands))

-- A place whose step is not known is not on the stack.
module _ {n count : ℕ} {t : List ℕ} (e g : ℕ) (hg : g < n) (z : get_or t (start_of n e + g) 0 ≡ 0) where
  not_fact : {p : ℕ} → Fact n count t p → p ≡ e * work_width n + 10 * g → ⊥
  not_fact {p} f q =
      let s : f.element * work_width n + (10 * f.generator + 0) ≡ e * work_width n + (10 * g + 0) = omega (arith, f.stands) in
      let a = same_row f.element e (place_inside f.generator_below (omega arith)) (place_inside hg (omega arith)) s in
      let b = same_cell f.element e (place_inside f.generator_below (omega arith)) (place_inside hg (omega arith)) s in
      let c : f.generator ≡ g = omega arith in
      f.known (rw (a, c) z)

  pub stack_absent : {w : List ℕ} {top : ℕ} {fs : List ℕ} → Stack n count t w top fs → Absent (e * work_width n + 10 * g) fs
  stack_absent (bottom z) = tt
  stack_absent (above q f a st) = (not_fact f, stack_absent st)

module _ {n count : ℕ} {t w : List ℕ} where
  -- The stack stays when more is known and its links are as they were.
  pub stack_more : {t' w' : List ℕ} → ((e g : ℕ) → g < n → StepKnown n t e g → StepKnown n t' e g) → SameStackLinks n w w' → {top : ℕ} {fs : List ℕ} → Stack n count t w top fs → Stack n count t' w' top fs
  stack_more more six (bottom z) = bottom z
  stack_more {t'} {w'} more six (above {p = p} {fs} q f a st) =
      above {fs = fs} q
      (record {
        element = f.element;
        generator = f.generator;
        element_below = f.element_below;
        generator_below = f.generator_below;
        stands = f.stands;
        known = more f.element f.generator f.generator_below f.known;
      }) a
      (rw (six.same (p + 6) (fact_spot f)) (stack_more more six st))

  -- A store in the place of no fact on the stack.
  pub stack_put : (p v : ℕ) {top : ℕ} {fs : List ℕ} → Absent p fs → Stack n count t w top fs → Stack n count t (put_at w (p + 6) v) top fs
  stack_put p v out (bottom z) = bottom z
  stack_put p v out (above {p = q} {fs} e f a st) = let d : q + 6 ≡ p + 6 → ⊥ = λ x. out.0 (omega arith) in above {fs = fs} e f a (rw (put_other w (p + 6) v d) (stack_put p v out.1 st))

module _ {n count lt lw : ℕ} (few : n ≤ 8) (limit : count ≤ 65535) (table_room : count * (2 * n + 4) ≤ lt) (work_room : count * work_width n ≤ lw) where
  pub place_within : (e : GroupElementId) (g : GeneratorId) → e.0 < count → g.0 < n → place_at n e g + 6 < lw
  unfolding place_at
  place_within e g he hg = omega (arith, work_room, inside he (place_inside {k = 6} hg (omega arith)))

  pub stack_small : {t w : List ℕ} {top : ℕ} {fs : List ℕ} → Stack n count t w top fs → top < 4294967296
  stack_small (bottom z) = omega arith
  stack_small (above q f a st) = omega (arith, f.stands, link_small few (lt_of_lt_of_le f.element_below limit) f.generator_below)

  module _ {s : State} {budget : ℕ} (tl : length s.table ≡ lt) (wl : length s.work ≡ lw) (P : FactsWithin n count budget s)
      (e : GroupElementId) (g : GeneratorId) (r : GroupElementId) (he : e.0 < count) (hg : g.0 < n) (hr : r.0 < count) where
    succ_inside : succ_at n e g < length s.table
    unfolding start_of
    succ_inside = rw tl (omega (arith, inside he (cell_low hg))) where
      cell_low : {x : ℕ} → x < n → x < 2 * n + 4
      cell_low h = omega arith

    pub learns_piled : FactsWithin n count budget (learns n e g r s)
    unfolding learns place_at
    learns_piled = by (is_new s.table n e g) refl where
      by : (b : Bool) → is_new s.table n e g ≡ b
          → FactsWithin n count budget (state (set_step s.table n e g r) (pick b (put_at s.work (below_at (place_at n e g)) s.top) s.work) (pick b (link n e g) s.top))
      by true q =
          let unknown : get_or s.table (start_of n e.0 + g.0) 0 ≡ 0 = eqb-true _ _ q in
          let known = set_known n s.table e g r succ_inside (omega arith) in
          let out = stack_absent e.0 g.0 hg unknown P.stack in
          let below = put_same s.work (place_at n e g + 6) s.top (rw wl (place_within e g he hg)) (stack_small P.stack) in
          let kept = stack_put (place_at n e g) s.top out (stack_more (set_more n s.table e g r) (record { same = λ i x. refl }) P.stack) in
          record {
            facts = place_at n e g ∷ P.facts;
            stack = above {fs = P.facts} (place_link few e g (lt_of_lt_of_le he limit) hg)
                (record { element = e.0; generator = g.0; element_below = he; generator_below = hg; stands = refl; known = known }) out (rw below kept);
            within = omega (arith, P.within, free_lt n count s.table (set_step s.table n e g r) (set_more n s.table e g r) e.0 g.0 he hg unknown known);
          }
      by false q = record {
        facts = P.facts;
        stack = stack_more (set_more n s.table e g r) (record { same = λ i x. refl }) P.stack;
        within = omega (arith, P.within, free_le n count s.table (set_step s.table n e g r) (set_more n s.table e g r));
      }
