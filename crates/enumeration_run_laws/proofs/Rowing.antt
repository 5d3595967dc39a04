-- A row that is right stays so when its ends move along known steps; when its ends meet, it gives a right step. A new row is a relator.
use Prim.Native.Nat.{ℕ, zero, suc, ◌+◌, ◌*◌, ◌-◌, ◌/◌, ◌%◌, ◌<◌, ◌≤◌}
use mathlib.Core.Path.{◌≡◌, refl, sym, ap}
use mathlib.Core.Bool.{Bool, true, false}
use mathlib.Core.List.{List, [], ◌∷◌, ◌++◌, append_assoc}
use native.Mathlib.Nat.{le_refl, add-zero}
use native.Mathlib.Omega.{arith}
use borrow.Author.Tests.{eqb-false}
use lib.ListN.{get_or, length}
use lib.Dec.{T, eqb, eqb→eq}
use Rattle.theory.specs.Bounded.{all}
use Rattle.theory.proofs.BoundedTests.{all_holds}
use Rattle.theory.proofs.Pairs.{pair_at}
use Rattle.theory.specs.Words.{empty, letter}
use Rattle.theory.specs.Presentation.{pair_place, pairs_below, order_of, alternate, Relator, pair as paired, Equiv, turn, join}
use Rattle.theory.proofs.Relations.{append_right}
use Rattle.theory.proofs.Deduction.{strike, strike_double, cancel}
use Rattle.egg.specs.declared.GroupElementId.{GroupElementId}
use Rattle.egg.specs.declared.GeneratorId.{GeneratorId}
use Rattle.egg.specs.Table.{pick, start_of}
use Rattle.enumeration_rows.specs.declared.inner.RelationTableRow.{RelationTableRow}
use Rattle.egg.specs.Pairs.{pair_code}
use Rattle.enumeration_rows.specs.Rows.{gen_of, row_of, new_row}
use Rattle.enumeration_fill.specs.Fill.{right_cell, left_cell, back_from, forward_from, backed, filled}
use Rattle.enumeration_run_laws.specs.Invariant.{Step, TableOk, row_letters, RowOk}

-- A generator leads back.
module _ {n : ℕ} {m : ℕ → ℕ → ℕ} where
  pub step_back : {word : ℕ → List ℕ} {count e g r : ℕ} → g < n → Step n m word count e g r → Step n m word count r g e
  step_back {word} {e = e} {g} h s = record {
    from_below = s.to_below;
    to_below = s.from_below;
    leads = join (append_right (turn s.leads) (g ∷ [])) (strike_double (word e) h);
  }

pub letters_last : (pair l k : ℕ) → row_letters pair l (suc k) ≡ row_letters pair l k ++ (gen_of pair (l + k)).0 ∷ []
unfolding row_letters
letters_last pair l zero = rw add-zero
letters_last pair l (suc k) = let q : l + suc k ≡ suc l + k = omega arith in rw q (ap (λ (x : List ℕ). (gen_of pair l).0 ∷ x) (letters_last pair (suc l) k))

-- The letters of a gap, with the last or the first of them taken off.
module _ (pair l r : ℕ) (h : l < r) where
  gap_last : row_letters pair l (suc (r - l)) ≡ row_letters pair l (suc (r - 1 - l)) ++ (gen_of pair r).0 ∷ []
  gap_last =
      let q : suc (r - 1 - l) ≡ r - l = omega arith in
      let p : l + (r - l) ≡ r = omega arith in
      rw q (rw p at (letters_last pair l (r - l)))

  gap_first : row_letters pair l (suc (r - l)) ≡ (gen_of pair l).0 ∷ row_letters pair (l + 1) (suc (r - (l + 1)))
  unfolding row_letters
  gap_first =
      let q : r - l ≡ suc (r - (l + 1)) = omega arith in
      let p : l + 1 ≡ suc l = omega arith in
      rw (q, p)

-- A known step, as it is read.
module _ {n : ℕ} {m : ℕ → ℕ → ℕ} {word : ℕ → List ℕ} {count : ℕ} {t : List ℕ} (T : TableOk n m word count t) where
  known_succ : (e g : ℕ) → g < n → (get_or t (start_of n e + g) 0 ≡ 0 → ⊥) → Step n m word count e g (get_or t (start_of n e + g) 0 - 1)
  known_succ e g h z = (T.marks (start_of n e + g)).succ e g _ h refl (omega arith)

  known_back : (e g : ℕ) → g < n → (get_or t (start_of n e + n + g) 0 ≡ 0 → ⊥) → Step n m word count (get_or t (start_of n e + n + g) 0 - 1) g e
  known_back e g h z = (T.marks (start_of n e + n + g)).back e g _ h refl (omega arith)

  module _ {r : RelationTableRow} (ok : RowOk n m word count r) (gap : r.left < r.right) where
    moved_back : (right_cell t n r ≡ 0 → ⊥) → RowOk n m word count (row_of r.pair r.left (r.right - 1) r.from (record { 0 = right_cell t n r - 1 }))
    moved_back z =
        let s = known_back r.to.0 (gen_of r.pair r.right).0 (ok.gens r.right) z in
        record {
          small = ok.small;
          wide = omega (arith, ok.wide);
          order = omega arith;
          gens = ok.gens;
          from_below = ok.from_below;
          to_below = s.from_below;
          leads = cancel _ _ (letter (ok.gens r.right) empty) (join (rw append_assoc (rw (gap_last r.pair r.left r.right gap) at ok.leads)) (turn s.leads));
        }

    moved_on : (left_cell t n r ≡ 0 → ⊥) → RowOk n m word count (row_of r.pair (r.left + 1) r.right (record { 0 = left_cell t n r - 1 }) r.to)
    moved_on z =
        let s = known_succ r.from.0 (gen_of r.pair r.left).0 (ok.gens r.left) z in
        let rest = row_letters r.pair (r.left + 1) (suc (r.right - (r.left + 1))) in
        let whole : Equiv n m (word r.from.0 ++ (gen_of r.pair r.left).0 ∷ [] ++ rest) (word r.to.0) =
        rw append_assoc (rw (gap_first r.pair r.left r.right gap) at ok.leads) in
        record {
          small = ok.small;
          wide = ok.wide;
          order = omega arith;
          gens = ok.gens;
          from_below = s.to_below;
          to_below = ok.to_below;
          leads = join (turn (append_right s.leads rest)) whole;
        }

  back_ok : (k : ℕ) (r : RelationTableRow) → k ≤ r.right - r.left → RowOk n m word count r → RowOk n m word count (back_from k t n r)
  unfolding back_from
  back_ok zero r h ok = ok
  back_ok (suc k) r h ok = by (eqb (right_cell t n r) 0) refl (λ a b. back_ok k _ a b) where
    next : RelationTableRow
    next = row_of r.pair r.left (r.right - 1) r.from (record { 0 = right_cell t n r - 1 })

    by : (b : Bool) → eqb (right_cell t n r) 0 ≡ b → (k ≤ next.right - next.left → RowOk n m word count next → RowOk n m word count (back_from k t n next))
        → RowOk n m word count (pick b r (back_from k t n next))
    by true q ih = ok
    by false q ih = ih (omega arith) (moved_back ok (omega arith) (eqb-false _ _ q))

  forward_ok : (k : ℕ) (r : RelationTableRow) → k ≤ r.right - r.left → RowOk n m word count r → RowOk n m word count (forward_from k t n r)
  unfolding forward_from
  forward_ok zero r h ok = ok
  forward_ok (suc k) r h ok = by (eqb (left_cell t n r) 0) refl (λ a b. forward_ok k _ a b) where
    next : RelationTableRow
    next = row_of r.pair (r.left + 1) r.right (record { 0 = left_cell t n r - 1 }) r.to

    by : (b : Bool) → eqb (left_cell t n r) 0 ≡ b → (k ≤ next.right - next.left → RowOk n m word count next → RowOk n m word count (forward_from k t n next))
        → RowOk n m word count (pick b r (forward_from k t n next))
    by true q ih = ok
    by false q ih = ih (omega arith) (moved_on ok (omega arith) (eqb-false _ _ q))

  -- Filling keeps a row right.
  pub filled_ok : (r : RelationTableRow) → RowOk n m word count r → RowOk n m word count (filled t n r)
  unfolding filled
  filled_ok r ok = forward_ok _ (backed t n r) (le_refl _) (back_ok _ r (le_refl _) ok)

-- Where the ends have met, the letter between leads from the left element to the right one.
pub met : {n : ℕ} {m : ℕ → ℕ → ℕ} {word : ℕ → List ℕ} {count : ℕ} {r : RelationTableRow} → RowOk n m word count r → r.left ≡ r.right
    → Step n m word count r.from.0 (gen_of r.pair r.left).0 r.to.0
unfolding row_letters
met {n} {m} {word} {r = r} ok q = let z : r.right - r.left ≡ 0 = omega arith in
    record { from_below = ok.from_below; to_below = ok.to_below; leads = rw z at ok.leads }

-- Along a row the two generators of the pair alternate.
gen_two : (pair l : ℕ) → gen_of pair (suc (suc l)) ≡ gen_of pair l
gen_two pair l = let q : suc (suc l) % 2 ≡ l % 2 = omega arith in rw q

letters_two : (pair l k : ℕ) → row_letters pair (suc (suc l)) k ≡ row_letters pair l k
unfolding row_letters
letters_two pair l zero = refl
letters_two pair l (suc k) = rw (gen_two pair l, letters_two pair (suc l) k)

letters_alternate : (pair k : ℕ) → row_letters pair 0 (k * 2) ≡ alternate (gen_of pair 0).0 (gen_of pair 1).0 k
unfolding row_letters
letters_alternate pair zero = refl
letters_alternate pair (suc k) = let q : suc k * 2 ≡ suc (suc (k * 2)) = omega arith in
    rw (q, letters_two pair 0 (k * 2), letters_alternate pair k)

-- The pairs' codes are in the order of the list of orders.
codes : (i j : ℕ) → i < j → j < 8 → pair_code (pair_place i j) ≡ 8 * i + j
codes i j hi hj = eqb→eq _ _ ((all_holds j (λ i. test i j)).0 ((all_holds 8 (λ j. all j (λ i. test i j))).0 checked j hj) i hi) where
  test : ℕ → ℕ → Bool
  test i j = eqb (pair_code (pair_place i j)) (8 * i + j)

  checked : T (all 8 (λ j. all j (λ i. test i j)))
  checked = unfold pair_code in tt

-- A new row says that its pair's relator leads from the element back to it.
module _ {n : ℕ} (few : n ≤ 8) (i j pair : ℕ) (hi : i < j) (hj : j < n) (code : pair ≡ 8 * i + j) where
  first_gen : pair / 8 % 8 ≡ i
  first_gen = rw code (omega arith)

  second_gen : pair % 8 ≡ j
  second_gen = rw code (omega arith)

  gens_below : (c : ℕ) → (gen_of pair c).0 < n
  gens_below c = by (eqb (c % 2) 0) where
    by : (b : Bool) → (pick {A = GeneratorId} b (record { 0 = pair / 8 % 8 }) (record { 0 = pair % 8 })).0 < n
    by true = rw first_gen (omega arith)
    by false = rw second_gen hj

  module _ {m : ℕ → ℕ → ℕ} (order : ℕ) (same_order : order ≡ m i j) (low : 1 ≤ order) where
    relator_row : Relator n m (row_letters pair 0 (suc (order * 2 - 1 - 0)))
    relator_row =
        let q : suc (order * 2 - 1 - 0) ≡ order * 2 = omega arith in
        rw (q, letters_alternate pair order, first_gen, second_gen, same_order) (paired hi hj)

    begun_ok : {word : ℕ → List ℕ} {count : ℕ} (e : GroupElementId) → e.0 < count → order < 32768 → RowOk n m word count (new_row e pair order)
    begun_ok {word} e he high = record {
      small = omega arith;
      wide = omega arith;
      order = omega arith;
      gens = gens_below;
      from_below = he;
      to_below = he;
      leads = strike (word e.0) relator_row;
    }

-- The orders as the enumeration is given them: one for each pair, from 1 to 32,767.
module _ {n : ℕ} (o : List ℕ) (few : n ≤ 8) (full : length o ≡ pairs_below n) (right : (k : ℕ) → k < length o → (1 ≤ get_or o k 0) × (get_or o k 0 < 32768)) where
  pub new_row_ok : {word : ℕ → List ℕ} {count : ℕ} (e : GroupElementId) (k : ℕ) → k < length o → e.0 < count
      → RowOk n (order_of o) word count (new_row e (pair_code k) (get_or o k 0))
  new_row_ok e k hk he =
      let (i, j, hi, hj, at) = pair_at n k (rw (← full) hk) in
      begun_ok few i j (pair_code k) hi hj (rw at at (codes i j hi (omega arith))) (get_or o k 0) (ap (λ (x : ℕ). get_or o x 0) (sym at)) (right k hk).0 e he (right k hk).1
