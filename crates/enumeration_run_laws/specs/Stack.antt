-- The stack of facts, which is a list through the places of the work: it never holds a place twice, and what it can still grow by is counted, so that
-- runs end.
use Rattle.std.specs.Prelude.{ℕ, suc, ◌+◌, ◌*◌, ◌<◌, ◌≤◌, ◌≡◌, List, [], ◌∷◌, get_or, length, eqb}
use Rattle.theory.specs.Bounded.{sum, one}
use Rattle.egg.specs.Table.{start_of}
use Rattle.enumeration_rows.specs.Rows.{work_width}
use Rattle.enumeration_wake.specs.Waking.{State}
use Rattle.enumeration_run_laws.specs.Invariant.{StepKnown, CellOfKind}

-- How many steps of the elements below the count are not known.
abbrev pub free : ℕ → ℕ → List ℕ → ℕ
free n count t = sum count (λ e. sum n (λ g. one (eqb (get_or t (start_of n e + g) 0) 0)))

-- The number p is the place of a known step.
pub record Fact (n count : ℕ) (t : List ℕ) (p : ℕ) : Type 0 where
  pub element : ℕ
  pub generator : ℕ
  pub element_below : element < count
  pub generator_below : generator < n
  pub stands : p ≡ element * work_width n + 10 * generator
  pub known : StepKnown n t element generator

-- The number p is not in the list.
abbrev pub Absent : ℕ → List ℕ → Type 0
Absent p [] = Unit {0}
Absent p (q ∷ fs) = (q ≡ p → ⊥) × Absent p fs

-- From the link `top` on, the stack holds the places of known steps, each once.
pub data Stack (n count : ℕ) (t w : List ℕ) : ℕ → List ℕ → Type 0 where
  bottom : {top : ℕ} → top ≡ 0 → Stack n count t w top []
  above : {top p : ℕ} {fs : List ℕ} → top ≡ suc p → Fact n count t p → Absent p fs → Stack n count t w (get_or w (p + 6) 0) fs → Stack n count t w top (p ∷ fs)

-- The cells that link the stack, at position 6 of each place, hold in w' what they hold in w.
pub record SameStackLinks (n : ℕ) (w w' : List ℕ) : Type 0 where
  pub same : (i : ℕ) → CellOfKind n i 6 → get_or w' i 0 ≡ get_or w i 0

-- The facts that are on the stack, and the steps that can still become facts, are at most `limit` together.
pub record FactsWithin (n count limit : ℕ) (s : State) : Type 0 where
  pub facts : List ℕ
  pub stack : Stack n count s.table s.work s.top facts
  pub within : length facts + free n count s.table ≤ limit
