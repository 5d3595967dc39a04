-- What a computed case says of the quick run, and the tables of two such cases.
use Rattle.std.specs.Prelude.{ℕ, ◌-◌, ◌≡◌, List, [], ◌∷◌, replicate, Ok}
use Rattle.egg.specs.declared.Refusal.{Refusal}
use Rattle.egg.specs.declared.Refusal.TheVariants.{BeyondRoom}
use Rattle.egg.specs.Answers.{fine}
use Rattle.build_lending.specs.Finish.{Built, built, finished}
use Rattle.factor_relations.specs.Relations.{relations_row}
use Rattle.enumeration_run.specs.declared.inner.Ran.TheVariants as ran
use Rattle.enumeration_run.specs.Run.{enumerated}
use Rattle.enumeration_quick_run.specs.Sweeps.{sweep, swiftly}

-- The table that a build leaves; and the one that the end of a build makes of F, with a work of zeros.
abbrev pub table_of : Built → List ℕ
table_of (built c t w) = t

abbrev pub checked : (n N lw : ℕ) → List ℕ → List ℕ
checked n N lw F = table_of (finished (Ok N) n F (replicate lw 0))

-- With n generators, these orders and room for N elements the quick run is done with N and leaves the table F, which 000's run leaves too; F passes 8 to 12, and then
-- 13 at the identity; with one room less both are refused, by the same number and places.
pub record Case (n : ℕ) (o : List ℕ) (N lt lw : ℕ) (F : List ℕ) (why : Refusal) : Type 0 where
  pub done : swiftly n o N lt ≡ sweep (ran.Done N) F
  pub same : (enumerated n o N lt lw).table ≡ F
  pub passes : finished (Ok N) n F (replicate lw 0) ≡ built (Ok N) (checked n N lw F) (replicate lw 0)
  pub relates : relations_row (checked n N lw F) n N o 0 ≡ fine
  pub short : (swiftly n o (N - 1) lt).answer ≡ ran.Refused why
  pub short_too : (enumerated n o (N - 1) lt lw).answer ≡ ran.Refused why

-- 5, "an element is needed beyond the room", at element e and generator g.
abbrev pub five : ℕ → ℕ → Refusal
five e g = BeyondRoom (record { 0 = e }) (record { 0 = g })

-- "orders [3] (S3)", with room 6. A row: two successors and two predecessors, each as its number + 1, parent, last letter, length of the word, and the inverse, which
-- comes with the checks.
abbrev pub triangle : List ℕ
triangle =
    2 ∷ 3 ∷ 2 ∷ 3 ∷ 0 ∷ 0 ∷ 0 ∷ 0
    ∷ 1 ∷ 4 ∷ 1 ∷ 4 ∷ 0 ∷ 0 ∷ 1 ∷ 0
    ∷ 5 ∷ 1 ∷ 5 ∷ 1 ∷ 0 ∷ 1 ∷ 1 ∷ 0
    ∷ 6 ∷ 2 ∷ 6 ∷ 2 ∷ 1 ∷ 1 ∷ 2 ∷ 0
    ∷ 3 ∷ 6 ∷ 3 ∷ 6 ∷ 2 ∷ 0 ∷ 2 ∷ 0
    ∷ 4 ∷ 5 ∷ 4 ∷ 5 ∷ 3 ∷ 0 ∷ 3 ∷ 0 ∷ []

-- Orders 2 2 3, room 12: three generators, and one pair whose order is another than those of the others, so that it counts where a pair stands in the list.
abbrev pub prism : List ℕ
prism =
    2 ∷ 3 ∷ 4 ∷ 2 ∷ 3 ∷ 4 ∷ 0 ∷ 0 ∷ 0 ∷ 0
    ∷ 1 ∷ 5 ∷ 6 ∷ 1 ∷ 5 ∷ 6 ∷ 0 ∷ 0 ∷ 1 ∷ 0
    ∷ 5 ∷ 1 ∷ 7 ∷ 5 ∷ 1 ∷ 7 ∷ 0 ∷ 1 ∷ 1 ∷ 0
    ∷ 6 ∷ 8 ∷ 1 ∷ 6 ∷ 8 ∷ 1 ∷ 0 ∷ 2 ∷ 1 ∷ 0
    ∷ 3 ∷ 2 ∷ 9 ∷ 3 ∷ 2 ∷ 9 ∷ 1 ∷ 1 ∷ 2 ∷ 0
    ∷ 4 ∷ 10 ∷ 2 ∷ 4 ∷ 10 ∷ 2 ∷ 1 ∷ 2 ∷ 2 ∷ 0
    ∷ 9 ∷ 11 ∷ 3 ∷ 9 ∷ 11 ∷ 3 ∷ 2 ∷ 2 ∷ 2 ∷ 0
    ∷ 10 ∷ 4 ∷ 11 ∷ 10 ∷ 4 ∷ 11 ∷ 3 ∷ 1 ∷ 2 ∷ 0
    ∷ 7 ∷ 12 ∷ 5 ∷ 7 ∷ 12 ∷ 5 ∷ 4 ∷ 2 ∷ 3 ∷ 0
    ∷ 8 ∷ 6 ∷ 12 ∷ 8 ∷ 6 ∷ 12 ∷ 5 ∷ 1 ∷ 3 ∷ 0
    ∷ 12 ∷ 7 ∷ 8 ∷ 12 ∷ 7 ∷ 8 ∷ 6 ∷ 1 ∷ 3 ∷ 0
    ∷ 11 ∷ 9 ∷ 10 ∷ 11 ∷ 9 ∷ 10 ∷ 8 ∷ 1 ∷ 4 ∷ 0 ∷ []
