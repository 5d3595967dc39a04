-- What is said of the table that an enumeration leaves: nothing in it is invented. Document 01: "enumerating only the first row and inventing the
-- others breaks demand 3".
use Rattle.std.specs.Prelude.{ℕ, suc, ◌+◌, ◌*◌, ◌<◌, ◌≤◌, ◌≡◌, List, get_or, length}
use Rattle.theory.specs.Words.{word_of_lem}
use Rattle.theory.specs.Presentation.{order_of}
use Rattle.egg.specs.Table.{start_of, parent_of, last_of}
use Rattle.enumeration_run_laws.specs.Invariant.{StepKnown, Step}

-- The words that a table records, by its parents and last generators.
abbrev pub words : ℕ → List ℕ → ℕ → List ℕ
words n t = word_of_lem (parent_of t n) (last_of t n)

-- The table of lt numbers has N elements. A successor or predecessor that is known is a number below N, and follows from the orders o; rows from N on
-- are zero.
pub record FromOrders (n : ℕ) (o : List ℕ) (room lt N : ℕ) (t : List ℕ) : Type 0 where
  pub some : 1 ≤ N
  pub fits : N ≤ room
  pub whole : length t ≡ lt
  pub blank : (e k : ℕ) → N ≤ e → k < 2 * n + 4 → get_or t (start_of n e + k) 0 ≡ 0
  pub earlier : (e : ℕ) → 0 < e → e < N → parent_of t n e < e
  pub generator : (e : ℕ) → 0 < e → e < N → last_of t n e < n
  pub made : (e : ℕ) → 0 < e → e < N → StepKnown n t (parent_of t n e) (last_of t n e)
  pub succ : (e g r : ℕ) → g < n → get_or t (start_of n e + g) 0 ≡ suc r → Step n (order_of o) (words n t) N e g r
  pub back : (e g r : ℕ) → g < n → get_or t (start_of n e + n + g) 0 ≡ suc r → Step n (order_of o) (words n t) N r g e

-- Every successor is known, which refusal 8 has tested by then.
abbrev pub AllKnown : ℕ → ℕ → List ℕ → Type 0
AllKnown n N t = (e g : ℕ) → e < N → g < n → StepKnown n t e g
