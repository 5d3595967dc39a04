-- The inverses of a table of n generators and `count` elements, and refusal 10 over them.
use Rattle.std.specs.Prelude.{ℕ, zero, suc, ◌+◌, ◌*◌, List, eqb}
use Rattle.egg.specs.Answers.{Verdict, fine}
use Rattle.egg.specs.Table.{pick, put_at, start_of, parent_of, last_of, length_of, inverse_of, back_of}
use Rattle.egg.specs.Scan.{refused_of, scan}

-- "The inverse follows the reversed word through predecessors from the identity." The walk stands at x, and k letters are left of the word that ends
-- at the element `at`.
unfoldable pub invert_from : (k : ℕ) (t : List ℕ) (n at x : ℕ) → ℕ
invert_from zero t n at x = x
invert_from (suc k) t n at x = invert_from k t n (parent_of t n at) (back_of t n x (last_of t n at))

-- The whole walk: it starts at the identity.
abbrev pub invert_of : List ℕ → ℕ → ℕ → ℕ
invert_of t n e = invert_from (length_of t n e) t n e 0

-- The table with the inverses of k elements stored, from e on.
unfoldable pub fill_inverses : ℕ → List ℕ → ℕ → ℕ → List ℕ
fill_inverses zero t n e = t
fill_inverses (suc k) t n e = fill_inverses k (put_at t (start_of n e + 2 * n + 3) (invert_of t n e)) n (e + 1)

-- Refusal 10, "inverse of inverse differs", at e, with its places "element, inverse, its inverse".
abbrev pub inverse_at : List ℕ → ℕ → ℕ → Verdict
inverse_at t n e =
    pick (eqb (inverse_of t n (inverse_of t n e)) e) fine (refused_of 10 e (inverse_of t n e) (inverse_of t n (inverse_of t n e)))

-- Refusal 10 at the first such element.
unfoldable pub inverses_right : List ℕ → ℕ → ℕ → Verdict
inverses_right t n count = scan count (λ e. inverse_at t n e) 0
