-- This file states what a call on composed rows answers, by document 01's numbers: "When an answer is an enum, a definition sets out this paper's
-- number and values for each of its cases. The promises use that definition."
use Rattle.std.specs.Prelude.{ℕ, ◌+◌, ◌*◌, ◌≤◌, ◌<◌, ◌≡◌, ◌⊎◌, List, length}
use Rattle.egg.specs.declared.Refusal.{Refusal}
use Rattle.egg.specs.Answers.{Verdict}
use Rattle.egg.specs.Answers as answers
use Rattle.egg.specs.Factor.{Paper, refusal_paper, verdict_paper}
use Rattle.build_lending.specs.Lending.{table_need, work_need, Making, making}
use Rattle.factor.specs.Composed.{composed}
use Rattle.build_reading.specs.Reading.{composed_at}
use Rattle.build_laws.specs.Taken.{Taken}
use Rattle.promises_refusals.specs.Faults.{Fault}

-- The verdict of a call that makes a factor.
abbrev pub answer_of : Making → Verdict
answer_of (making m t w) = answers.answer_of m

-- That verdict on paper: its number and places.
abbrev pub paper_of : Making → Paper
paper_of m = verdict_paper (answer_of m)

-- The number k with its three places.
abbrev pub paper : ℕ → ℕ → ℕ → ℕ → Paper
paper k a b c = record { number = k; a = a; b = b; c = c }

-- What a build is lent is enough; where it is not, 4 is given, "room 0 or above 65,535, or a lent buffer short". "A build with n generators and room R
-- needs exactly R(2n+4) entries of table and R(6n²+4n) of work."
pub record EnoughLent (table : List ℕ) (start : ℕ) (work : List ℕ) (n room : ℕ) : Type 0 where
  pub some_room : 1 ≤ room
  pub most_room : room ≤ 65535
  pub table_long : start + table_need n room ≤ length table
  pub work_long : work_need n room ≤ length work

-- What a call on composed rows is lent is enough, the list of rows too: "A composed list needs Rn entries."
pub record Enough (table : List ℕ) (start : ℕ) (work rows : List ℕ) (n room : ℕ) : Type 0 where
  pub lent : EnoughLent table start work n room
  pub rows_long : room * n ≤ length rows

-- The answers on composed rows: 1, "more than 8 generators", with the count; 4; 0 for acceptance, where some group has the rows by the numbering
-- rule; or the fault's number and places. There is no other.
pub data ComposedPaper (table : List ℕ) (start : ℕ) (work rows : List ℕ) (n room : ℕ) : Paper → Type 1 where
  many : 8 < n → ComposedPaper table start work rows n room (paper 1 n 0 0)
  short : n ≤ 8 → ¬ (Enough table start work rows n room) → ComposedPaper table start work rows n room (paper 4 0 0 0)
  taken : {N : ℕ} → n ≤ 8 → Enough table start work rows n room → Taken (composed_at rows n) n room N
      → ComposedPaper table start work rows n room (paper 0 0 0 0)
  fault : {r : Refusal} → n ≤ 8 → Enough table start work rows n room → Fault (composed_at rows n) n room r
      → ComposedPaper table start work rows n room (refusal_paper r)

-- The call has this answer; it is one of the cases above, and the only one of them that applies to these arguments. 2, 3 and 13 to 17 never come.
pub record OneAnswer (table : List ℕ) (start : ℕ) (work rows : List ℕ) (n room : ℕ) : Type 1 where
  pub answer : Paper
  pub given : paper_of (composed table start work rows n room) ≡ answer
  pub is : ComposedPaper table start work rows n room answer
  pub only : {p : Paper} → ComposedPaper table start work rows n room p → p ≡ answer
  pub numbers : (answer.number ≤ 1) ⊎ ((4 ≤ answer.number) × (answer.number ≤ 12))
