-- The loops of the pair relations, and a table that knows some of their steps. `step` says beforehand where every step leads: it is read from the table that a
-- run will leave, and all that is said here of a table on the way is said beside it. The relation of a pair, its two letters in turn and 2m of them, leads from
-- each element back to it; the elements on the way are the loop.
use Rattle.std.specs.Prelude.{ℕ, zero, suc, ◌+◌, ◌*◌, ◌/◌, ◌%◌, ◌<◌, ◌≤◌, ◌≡◌, List, get_or, length, eqb}
use Rattle.egg.specs.Pairs.{pair_code}
use Rattle.egg.specs.Table.{pick, start_of}
use Rattle.enumeration_rows.specs.declared.inner.RelationTableRow.{RelationTableRow}
use Rattle.enumeration_rows.specs.Rows.{row_of}
use Rattle.enumeration_run_laws.specs.Invariant.{StepKnown}

-- Letter j of the word a, b, a, b .. , counted from 0.
abbrev pub turn : ℕ → ℕ → ℕ → ℕ
turn a b j = pick (eqb (j % 2) 0) a b

-- The element to which the first j of these letters lead from u.
abbrev pub ring : (step : ℕ → ℕ → ℕ) (a b u : ℕ) → ℕ → ℕ
ring step a b u zero = u
ring step a b u (suc j) = step (ring step a b u j) (turn a b j)

-- The first generator of the pair at place k of the list, "in the order (0,1),(0,2),(1,2),(0,3).."; the pair is coded as 8a + b.
abbrev pub first_of_pair : ℕ → ℕ
first_of_pair k = pair_code k / 8 % 8

-- The second generator of that pair.
abbrev pub second_of_pair : ℕ → ℕ
second_of_pair k = pair_code k % 8

-- The relations of the orders o hold at each of the N elements in these steps: "each generator doubled, then each pair's 2m steps" lead back to it.
pub record Looped (n N : ℕ) (o : List ℕ) (step : ℕ → ℕ → ℕ) : Type 0 where
  pub below : {e g : ℕ} → e < N → g < n → step e g < N
  pub twice : {e g : ℕ} → e < N → g < n → step (step e g) g ≡ e
  pub closed : {e k : ℕ} → e < N → k < length o → ring step (first_of_pair k) (second_of_pair k) e (2 * get_or o k 0) ≡ e

-- Every step that the table knows is the step as it is known beforehand. It is between elements below the count and is known the other way too, and each row
-- holds the same numbers for its steps back as for its steps.
pub record StepsAgree (n count : ℕ) (step : ℕ → ℕ → ℕ) (t : List ℕ) : Type 0 where
  pub succ : (e g : ℕ) → g < n → StepKnown n t e g → get_or t (start_of n e + g) 0 ≡ suc (step e g)
  pub from_below : (e g : ℕ) → g < n → StepKnown n t e g → e < count
  pub to_below : (e g : ℕ) → g < n → StepKnown n t e g → step e g < count
  pub both : (e g : ℕ) → g < n → StepKnown n t e g → StepKnown n t (step e g) g
  pub back : (e g : ℕ) → g < n → get_or t (start_of n e + (n + g)) 0 ≡ get_or t (start_of n e + g) 0

-- Column j of the row of u and the pair at place k is known. "A row has 2m places": column j is the step by letter j from the element that comes
-- before it on the loop.
abbrev pub Column : (n : ℕ) (t : List ℕ) (step : ℕ → ℕ → ℕ) (u k j : ℕ) → Type 0
Column n t step u k j = StepKnown n t (ring step (first_of_pair k) (second_of_pair k) u j) (turn (first_of_pair k) (second_of_pair k) j)

-- That row as it is stored, with its ends at the columns l and r: it holds the element before column l and the one after column r.
abbrev pub row_at : (step : ℕ → ℕ → ℕ) (u k l r : ℕ) → RelationTableRow
row_at step u k l r =
    row_of (pair_code k) l r (record { 0 = ring step (first_of_pair k) (second_of_pair k) u l }) (record { 0 = ring step (first_of_pair k) (second_of_pair k) u (suc r) })

-- What filling makes of the row with its ends at l and r, "its right end back, then its left end forward": the ends have gone over known columns only, and have
-- met, or both stand before a step that is not known.
pub record Fills (n count : ℕ) (t : List ℕ) (step : ℕ → ℕ → ℕ) (u k l r : ℕ) (row : RelationTableRow) : Type 0 where
  pub left : ℕ
  pub right : ℕ
  pub is : row ≡ row_at step u k left right
  pub forth : l ≤ left
  pub ordered : left ≤ right
  pub backward : right ≤ r
  pub before : (j : ℕ) → l ≤ j → j < left → Column n t step u k j
  pub behind : (j : ℕ) → right < j → j ≤ r → Column n t step u k j
  pub left_end : left < right → Column n t step u k left → ⊥
  pub right_end : left < right → StepKnown n t (ring step (first_of_pair k) (second_of_pair k) u (suc right)) (turn (first_of_pair k) (second_of_pair k) right) → ⊥
  pub from_below : ring step (first_of_pair k) (second_of_pair k) u left < count
  pub to_below : ring step (first_of_pair k) (second_of_pair k) u (suc right) < count

-- The step from x by g, seen from the least element of a loop through it: it is one column of the row there, and all other columns are known. Neither letter of
-- the pair leads from that element to a lesser one.
pub record Rooted (n count : ℕ) (t : List ℕ) (step : ℕ → ℕ → ℕ) (k m x g : ℕ) : Type 0 where
  pub root : ℕ
  pub root_below : root < count
  pub first_up : root ≤ step root (first_of_pair k)
  pub second_up : root ≤ step root (second_of_pair k)
  pub column : ℕ
  pub column_below : column < 2 * m
  pub others : (j : ℕ) → j < 2 * m → (j ≡ column → ⊥) → Column n t step root k j
  pub tells : Column n t step root k column → StepKnown n t x g
