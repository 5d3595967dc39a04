-- Refusal 13, "a relation fails", with its places "element, generator, generator". "For each element it tests each generator doubled, then each
-- pair's 2m steps in list order." A number out of range on the way is 17, as met.
use Rattle.std.specs.Prelude.{ℕ, zero, suc, ◌/◌, ◌%◌, List, length, get_or, eqb}
use Rattle.egg.specs.Answers.{Reached, Verdict, fine}
use Rattle.std.specs.Prelude.{Ok, Err}
use Rattle.egg.specs.Table.{pick}
use Rattle.egg.specs.Scan.{refused_of, and_then, scan}
use Rattle.egg.specs.Pairs.{pair_code}
use Rattle.egg.specs.Factor.{read_step}
use Rattle.egg.specs.Answers.{on_reached}

-- The walk from e by a and then b, k times both.
unfoldable pub turned : (k : ℕ) (s : List ℕ) (n count e a b : ℕ) → Reached
turned zero s n count e a b = Ok (record { 0 = e })
turned (suc k) s n count e a b =
    on_reached (read_step s n count e a) (λ x. on_reached (read_step s n count x b) (λ y. turned k s n count y a b))

-- The verdict on where that walk has come to: 13 where it is not e again.
abbrev pub returns_to : ℕ → ℕ → ℕ → Reached → Verdict
returns_to e a b (Ok x) = pick (eqb x.0 e) fine (refused_of 13 e a b)
returns_to e a b (Err r) = Err r

-- The verdict on one relation at e.
abbrev pub relation_at : (s : List ℕ) (n count e a b k : ℕ) → Verdict
relation_at s n count e a b k = returns_to e a b (turned k s n count e a b)

-- The verdict on "each generator doubled" at e.
unfoldable pub doubled_row : List ℕ → ℕ → ℕ → ℕ → Verdict
doubled_row s n count e = scan n (λ g. relation_at s n count e g g 1) 0

-- The verdict on "each pair's 2m steps in list order" at e; the pair (a, b) is coded as 8a + b.
unfoldable pub pairs_row : (s : List ℕ) (n count : ℕ) (orders : List ℕ) (e : ℕ) → Verdict
pairs_row s n count orders e =
    scan (length orders) (λ k. relation_at s n count e (pair_code k / 8) (pair_code k % 8) (get_or orders k 0)) 0

-- The verdict on all relations at e: "each generator doubled, then each pair's 2m steps".
abbrev pub relations_row : (s : List ℕ) (n count : ℕ) (orders : List ℕ) (e : ℕ) → Verdict
relations_row s n count orders e = and_then (doubled_row s n count e) (pairs_row s n count orders e)

-- The verdict on all relations at all elements.
unfoldable pub relations : List ℕ → ℕ → ℕ → List ℕ → Verdict
relations s n count orders = scan count (λ e. relations_row s n count orders e) 0
