-- What the numbering rule gives: a table in which each element has the place where it first appears.
use mathlib.Core.Path.{◌≡◌, refl, ◌∙◌}
use mathlib.Core.Logic.{⊎_elim}
use Prim.Native.Nat.{ℕ, ◌<◌, ◌≤◌}
use native.Mathlib.Omega.{arith}
use Rattle.theory.specs.Table.{Table}
use Rattle.theory.specs.Numbering.{Known, start, old, new, next_row, Numbered}
use Rattle.theory.specs.Appearance.{Ahead, row, column, First}
use Rattle.theory.proofs.BoundedTests.{below_suc}
use Rattle.theory.proofs.Places.{nothing_ahead, ahead_column, ahead_row, ahead_suc, ahead_next}

module _ {n : ℕ} {step : ℕ → ℕ → ℕ} where
  -- The row that is read belongs to a known element.
  pub row_known : {x g c : ℕ} → Known n step x g c → x < c
  row_known start = omega arith
  row_known (old k _ _) = row_known k
  row_known (new k _ _) = omega (arith, row_known k)
  row_known (next_row k h) = h

  pub column_in_row : {x g c : ℕ} → Known n step x g c → g ≤ n
  column_in_row start = omega arith
  column_in_row (old _ h _) = h
  column_in_row (new _ h _) = h
  column_in_row (next_row _ _) = omega arith

  -- What has been read is known.
  pub read_known : {x g c y h : ℕ} → Known n step x g c → h < n → Ahead y h x g → step y h < c
  read_known start hn a = absurd (nothing_ahead a)
  read_known (old k _ t) hn a = ⊎_elim (λ e. rw (e.0, e.1) t) (λ b. read_known k hn b) (ahead_column a)
  read_known (new k _ t) hn a = ⊎_elim (λ e. rw (e.0, e.1, t) (omega arith)) (λ b. omega (arith, read_known k hn b)) (ahead_column a)
  read_known (next_row k _) hn a = read_known k hn (ahead_row hn a)

  -- An entry that is the next number is where that element first appears.
  pub new_first : {x g c : ℕ} → Known n step x g c → g < n → step x g ≡ c → First n step c x g
  new_first k hg t = record { earlier = row_known k; generator = hg; arrives = t; before = λ hn a. read_known k hn a }

  -- Each known element but the identity has appeared, at a place that has been read.
  pub appeared_before : {x g c e : ℕ} → Known n step x g c → 0 < e → e < c → (y : ℕ) × (h : ℕ) × First n step e y h × Ahead y h x g
  appeared_before start pos l = absurd (omega arith)
  appeared_before (old k _ _) pos l = let (y, h, f, a) = appeared_before k pos l in (y, h, f, ahead_suc a)
  appeared_before (new {x} {g} k hg t) pos l = ⊎_elim
      (λ e. (x, g, rw e (new_first k hg t), column refl (omega arith)))
      (λ m. let (y, h, f, a) = appeared_before k pos m in (y, h, f, ahead_suc a))
      (below_suc l)
  appeared_before (next_row k _) pos l = let (y, h, f, a) = appeared_before k pos l in (y, h, f, ahead_next a)

  pub appeared : {x g c e : ℕ} → Known n step x g c → 0 < e → e < c → (y : ℕ) × (h : ℕ) × First n step e y h
  appeared k pos l = let (y, h, f, a) = appeared_before k pos l in (y, h, f)

-- What is to be read has no say: the rule has held so far in any table with the same entries so far.
pub known_same : {n : ℕ} {step step' : ℕ → ℕ → ℕ} {x g c : ℕ} → Known n step x g c → ((y h : ℕ) → h < n → Ahead y h x g → step' y h ≡ step y h)
    → Known n step' x g c
known_same start same = start
known_same (old {x} {g} k hg t) same =
    old (known_same k (λ y h hh a. same y h hh (ahead_suc a))) hg (rw (same x g hg (column refl (omega arith))) t)
known_same (new {x} {g} k hg t) same =
    new (known_same k (λ y h hh a. same y h hh (ahead_suc a))) hg (same x g hg (column refl (omega arith)) ∙ t)
known_same (next_row k t) same = next_row (known_same k (λ y h hh a. same y h hh (ahead_next a))) t

-- What has N rows by the rule is a table of N elements.
pub numbered_table : {n N : ℕ} {step : ℕ → ℕ → ℕ} → Numbered n N step → Table n N step
numbered_table R = record {
  origin = omega (arith, R.last_row);
  closed = λ he hg. read_known R.known hg (ahead_row hg (row (omega (arith, R.last_row))));
}
