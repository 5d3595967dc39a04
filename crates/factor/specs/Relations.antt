-- The call that checks an accepted factor against pair orders. Document 01: "13 applies to enumeration, and to a call that checks an accepted factor
-- against orders."
use Rattle.std.specs.Prelude.{ℕ, List, length}
use Rattle.egg.specs.declared.Factor.{Factor}
use Rattle.egg.specs.Answers.{Verdict}
use Rattle.egg.specs.Scan.{and_then}
use Rattle.egg.specs.Pairs.{orders_right}
use Rattle.egg.specs.Factor.{stretch}
use Rattle.factor_relations.specs.Relations.{relations}
use Rattle.factor.specs.Questions.{admits}

-- What `check` answers: 17 in the handle, then 2, then 3, then "13 or 17 as met".
unfoldable pub check_answer : List ℕ → Factor → List ℕ → Verdict
check_answer t f orders =
    and_then (admits (length t) f 0 0)
    (and_then (orders_right orders f.generators) (relations (stretch t f) f.generators f.elements orders))
