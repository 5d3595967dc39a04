-- This file states what a refused call leaves, once for every call that makes a factor. Document 01: "1 to 4, 14, and 15 to 17 given before a build
-- starts (a bad image head too) change nothing. Once it has started, any refusal (the ninth generator too) leaves the needed stretch of table and
-- work, and subgroup maps, zero."
use Rattle.std.specs.Prelude.{ℕ, ◌+◌, ◌≤◌, ◌<◌, ◌≡◌, List, [], ◌∷◌, length, get_or, replicate}
use Rattle.egg.specs.declared.Refusal.{Refusal}
use Rattle.build_lending.specs.Lending.{table_need, work_need, within}
use Rattle.build_checks_laws.specs.Numbers.{RefusalIn, late_numbers}

-- A lent buffer at entry and at exit, and the stretch of it that the call needs.
pub record Lent : Type 0 where
  pub entry : List ℕ
  pub start : ℕ
  pub need : ℕ
  pub exit : List ℕ

-- "Change nothing": each buffer is as it was.
abbrev pub AsBefore : List Lent → Type 0
AsBefore [] = Unit {0}
AsBefore (b ∷ l) = (b.exit ≡ b.entry) × AsBefore l

-- "Leaves the needed stretch .. zero": it is in the buffer, all of it is zero, and everything else is as it was ("the excess is untouched").
pub record Cleared (b : Lent) : Type 0 where
  pub inside : b.start + b.need ≤ length b.entry
  pub zero : b.exit ≡ within b.entry b.start (b.start + b.need) (replicate b.need 0)

-- The same number by number: zeros in the needed stretch, and every other number as it was.
pub record Cells (b : Lent) : Type 0 where
  pub long : length b.exit ≡ length b.entry
  pub zero : (i : ℕ) → b.start ≤ i → i < b.start + b.need → get_or b.exit i 0 ≡ 0
  pub before : (i : ℕ) → i < b.start → get_or b.exit i 0 ≡ get_or b.entry i 0
  pub after : (i : ℕ) → b.start + b.need ≤ i → get_or b.exit i 0 ≡ get_or b.entry i 0

-- Each buffer is cleared so.
abbrev pub AllCleared : List Lent → Type 0
AllCleared [] = Unit {0}
AllCleared (b ∷ l) = Cleared b × AllCleared l

-- A call refuses by r. `right` says that its arguments are right, so that its build starts. If they are not, the number is one of those that may be given
-- before, and nothing is changed; if they are, it is one of those that may be given afterwards, and exactly the needed stretches are zero.
pub data Leaves (right : Type 0) (before after : List ℕ) (buffers : List Lent) (r : Refusal) : Type 0 where
  untouched : ¬ right → RefusalIn before r → AsBefore buffers → Leaves right before after buffers r
  zeros : right → RefusalIn after r → AllCleared buffers → Leaves right before after buffers r

-- The table's buffer for a build that is lent the stretch from `start` on.
abbrev pub table_for : (table : List ℕ) (start n room : ℕ) (t : List ℕ) → Lent
table_for table start n room t = record { entry = table; start = start; need = table_need n room; exit = t }

-- Both buffers of a build: its stretch of the table, and the front of the work.
abbrev pub lent_for : (table : List ℕ) (start : ℕ) (work : List ℕ) (n room : ℕ) (t w : List ℕ) → List Lent
lent_for table start work n room t w = table_for table start n room t ∷ record { entry = work; start = 0; need = work_need n room; exit = w } ∷ []

-- The numbers by which a build from composed rows may be refused, once it has started.
abbrev pub composed_numbers : List ℕ
composed_numbers = 5 ∷ 6 ∷ 7 ∷ 8 ∷ late_numbers

-- The numbers that the definition of a build from pair orders has once it has started: 5 and 6 of the run, and those of the tests after it. Of these only 5
-- and 6 come (`enumeration_leaves` of `promises_enumeration`), since a finished run passes every test; what is proved before that is known uses this list.
abbrev pub enumeration_numbers : List ℕ
enumeration_numbers = 5 ∷ 6 ∷ 13 ∷ late_numbers
