-- This file defines when `flatten` starts, when it is accepted, what it leaves then, and every answer that it gives, over factors that are altered or
-- not.
use Rattle.std.specs.Prelude.{ℕ, ◌+◌, ◌*◌, ◌≤◌, ◌<◌, ◌≡◌, true, false, List, [], ◌∷◌, length, get_or, replicate}
use Rattle.egg.specs.declared.Refusal.{Refusal}
use Rattle.egg.specs.declared.Factor.{Factor}
use Rattle.egg.specs.Answers.{Reached, fine}
use Rattle.std.specs.Prelude.{Ok, Err}
use Rattle.egg.specs.Factor.{Paper, refusal_paper, stretch, refused_reach}
use Rattle.build_lending.specs.Lending as built
use Rattle.build_lending.specs.Lending.{table_need, work_need, lent_right}
use Rattle.theory.specs.Numbering.{NumberingRule}
use Rattle.theory.specs.Appearance.{recorded}
use Rattle.build_reading_laws.specs.Read.{ReadSoFar}
use Rattle.build_laws.specs.Taken.{Taken}
use Rattle.factor_laws.specs.Accepted.{Accepted, factor_step, reach}
use Rattle.promises.specs.Leaves.{Lent, composed_numbers}
use Rattle.promises_refusals.specs.Faults.{Fault}
use Rattle.promises_refusals.specs.Papers.{paper, EnoughLent}
use Rattle.theory_products.specs.Product.{Part}
use Rattle.group_handles.specs.declared.Group.{Group}
use Rattle.group_handles.specs.Handles.{handles, elements_of, generators_of, all_fit, admits}
use Rattle.group_digits.specs.Digits.{step_in}

-- The arguments are right, so that its build starts: the handles fit (17) and the product is within the limits (15), it has at most 8 generators (1),
-- and room and lent buffers do (4).
pub record FlatRight (from : List ℕ) (g : Group) (table : List ℕ) (start : ℕ) (work : List ℕ) (room : ℕ) : Type 0 where
  pub admitted : admits (length from) g 0 1 0 1 ≡ fine
  pub generators : generators_of (handles g) ≤ 8
  pub lent : lent_right (length table) start (length work) room (generators_of (handles g)) ≡ true

-- True where refusal 15 is not due: "factors per product 0 to 8; product elements at most 4,294,967,295".
pub record GroupWithin (g : Group) : Type 0 where
  pub few : g.count ≤ 8
  pub most : elements_of (handles g) ≤ 4294967295

-- The numbers by which it may be refused before it starts.
abbrev pub flat_before : List ℕ
flat_before = 17 ∷ 15 ∷ 1 ∷ 4 ∷ []

-- The numbers by which it may be refused afterwards: those of a build from composed rows, and 17 for a number of a factor that is out of range.
abbrev pub flat_after : List ℕ
flat_after = 17 ∷ composed_numbers

-- When it is accepted: "`flatten` keeps product numbers", so these have to follow the numbering rule and to be within the room, and no recorded word
-- may pass 4,096.
pub record Flattens (P : Part) (room : ℕ) : Type 0 where
  pub rule : NumberingRule P.generators P.elements P.step
  pub within : P.elements ≤ room
  pub short : {e : ℕ} → e < P.elements → length (recorded P.generators P.step e) ≤ 4096

-- What it leaves where it is accepted: the handle of the given stretch; zeros in its rows beyond the last element and in the needed work; and everything else
-- in both buffers as it was.
pub record FlatMade (table : List ℕ) (start : ℕ) (work : List ℕ) (n room : ℕ) (f : Factor) (t w : List ℕ) : Type 0 where
  pub handle : f ≡ record { start = start; room = room; generators = n; elements = f.elements }
  pub beyond : {i : ℕ} → f.elements * (2 * n + 4) ≤ i → get_or (stretch t f) i 0 ≡ 0
  pub table_kept : t ≡ built.within table start (start + table_need n room) (stretch t f)
  pub work_zero : w ≡ built.within work 0 (work_need n room) (replicate (work_need n room) 0)

-- The buffer that is lent for the work.
abbrev pub work_for : (work : List ℕ) (n room : ℕ) (w : List ℕ) → Lent
work_for work n room w = record { entry = work; start = 0; need = work_need n room; exit = w }

-- The number that is read for a step of the product ("`flatten` keeps product numbers"). One that cannot be read has none: 65,536 stands for it, which
-- lies beyond every count.
abbrev pub number_read : Reached → ℕ
number_read (Ok v) = v.0
number_read (Err r) = 65536

-- The steps that are read, whatever the factors' stretches hold.
abbrev pub step_number : List ℕ → List Factor → ℕ → ℕ → ℕ
step_number from hs e x = number_read (step_in from hs e x)

-- "17 in what they read": nothing is refused before (element, generator), and the product's step there is refused by 17.
pub record StepUnread (from : List ℕ) (hs : List Factor) (room : ℕ) : Type 0 where
  pub element : ℕ
  pub generator : ℕ
  pub count : ℕ
  pub before : ReadSoFar (step_number from hs) (generators_of hs) room element generator count
  pub column : generator < generators_of hs
  pub refused : step_in from hs element generator ≡ refused_reach 17 0

-- A number that skips ahead, 7, is the product's own at that place.
abbrev pub StepsAnswered : List ℕ → List Factor → Refusal → Type 0
StepsAnswered from hs r = (refusal_paper r).number ≡ 7 → step_in from hs (refusal_paper r).a (refusal_paper r).b ≡ reach (refusal_paper r).c

-- Every answer of `flatten`, on every input, with the case in which it comes: 17 in a handle; 15; 1 with the count; 4; 17 as met; the fault of the steps that
-- are read, with its number and places; or 0, where some group has these steps. "The first that applies .. is given, and each is given only then."
pub data FlatPaper (from : List ℕ) (g : Group) (table : List ℕ) (start : ℕ) (work : List ℕ) (room : ℕ) : Paper → Type 1 where
  no_handle : all_fit (length from) (handles g) ≡ false → FlatPaper from g table start work room (paper 17 0 0 0)
  too_large : all_fit (length from) (handles g) ≡ true → ¬ (GroupWithin g) → FlatPaper from g table start work room (paper 15 0 0 0)
  many : all_fit (length from) (handles g) ≡ true → GroupWithin g → 8 < generators_of (handles g)
      → FlatPaper from g table start work room (paper 1 (generators_of (handles g)) 0 0)
  short : all_fit (length from) (handles g) ≡ true → GroupWithin g → generators_of (handles g) ≤ 8 → ¬ (EnoughLent table start work (generators_of (handles g)) room)
      → FlatPaper from g table start work room (paper 4 0 0 0)
  unread : FlatRight from g table start work room → StepUnread from (handles g) room → FlatPaper from g table start work room (paper 17 0 0 0)
  fault : {r : Refusal} → FlatRight from g table start work room → Fault (step_number from (handles g)) (generators_of (handles g)) room r
      → StepsAnswered from (handles g) r → FlatPaper from g table start work room (refusal_paper r)
  taken : {N : ℕ} → FlatRight from g table start work room → Taken (step_number from (handles g)) (generators_of (handles g)) room N
      → FlatPaper from g table start work room (paper 0 0 0 0)

-- What an accepted call gives, whatever the factors' stretches hold ("Demand 1 and 17 need no premise"): its arguments were right; each step that was read was answered, and some group has them by
-- the numbering rule; the factor is accepted, so a group, and its steps are those; and the buffers are as after any acceptance.
pub record FlatRegardless (from : List ℕ) (g : Group) (table : List ℕ) (start : ℕ) (work : List ℕ) (room : ℕ) (f : Factor) (t w : List ℕ) : Type 1 where
  pub right : FlatRight from g table start work room
  pub taken : Taken (step_number from (handles g)) (generators_of (handles g)) room f.elements
  pub accepted : Accepted t f
  pub answered : {e x : ℕ} → e < f.elements → x < generators_of (handles g) → step_in from (handles g) e x ≡ reach (factor_step t f e x)
  pub made : FlatMade table start work (generators_of (handles g)) room f t w
