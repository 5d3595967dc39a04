-- What the run by closed loops keeps true of its table, what stays from one table of that run to a later one, and which rows of 000's run are live
-- beside it.
use Rattle.std.specs.Prelude.{ℕ, suc, ◌+◌, ◌*◌, ◌<◌, ◌≤◌, ◌≡◌, List, get_or, length}
use Rattle.egg.specs.Table.{start_of}
use Rattle.enumeration_run_laws.specs.Invariant.{StepKnown}
use Rattle.enumeration_loop_laws.specs.Rings.{first_of_pair, second_of_pair}

-- A table of lt numbers with `count` elements, as the run by closed loops keeps it: each row holds the same numbers for its steps back as for its
-- steps, a known step leads to an element below the count whose step by the same letter leads back, and rows from the count on are blank.
pub record TwoWay (n count lt : ℕ) (t : List ℕ) : Type 0 where
  pub back : (e g : ℕ) → g < n → get_or t (start_of n e + (n + g)) 0 ≡ get_or t (start_of n e + g) 0
  pub turned : (e g r : ℕ) → g < n → get_or t (start_of n e + g) 0 ≡ suc r → (r < count) × (get_or t (start_of n r + g) 0 ≡ suc e)
  pub blank : (e k : ℕ) → count ≤ e → k < 2 * n + 4 → get_or t (start_of n e + k) 0 ≡ 0
  pub size : length t ≡ lt

-- From t to the later table t': it has no fewer elements, every step that was known is as it was, and so are the words of the elements that there were.
pub record Grows (n count count' : ℕ) (t t' : List ℕ) : Type 0 where
  pub more : count ≤ count'
  pub known : (e g : ℕ) → g < n → StepKnown n t e g → get_or t' (start_of n e + g) 0 ≡ get_or t (start_of n e + g) 0
  pub rest : (e k : ℕ) → e < count → 2 * n ≤ k → k < 2 * n + 4 → get_or t' (start_of n e + k) 0 ≡ get_or t (start_of n e + k) 0

-- Which rows are live, in the sense of `Machine` of `enumeration_closure_laws`, by the last letters of the table that is known beforehand: those of
-- the identity, and those of an element whose last letter is neither generator of the pair at place k. By that letter the element has its step back,
-- "which is no fact".
abbrev pub Live : (last : ℕ → ℕ) (u k : ℕ) → Type 0
Live last u k = 0 < u → (last u ≡ first_of_pair k → ⊥) × (last u ≡ second_of_pair k → ⊥)
