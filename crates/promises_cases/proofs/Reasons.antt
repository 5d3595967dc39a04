-- Why each of document 01's refused tables is refused, in theory's words: from the case and what is proved of its number.
use Prim.Native.Nat.{ℕ}
use mathlib.Core.List.{[], ◌∷◌}
use lib.ListN.{replicate}
use Rattle.theory.specs.Examples.{crossed_rows}
use Rattle.build_lending.specs.Lending.{table_need, work_need}
use Rattle.build_reading.specs.Reading.{composed_at}
use Rattle.build_laws.specs.Taken.{Groupless}
use Rattle.promises_refusals.specs.Faults.{Lacks, Strays, Twists, Misnumbers}
use Rattle.promises_refusals.proofs.EachNumber.{composed_8, composed_9, composed_10, composed_11, composed_12}
use Rattle.promises_cases.specs.Tables.{twisted, repeated}
use Rattle.promises_cases.proofs.Cases.{known_cases}

-- In rows 1 / 1 nothing leads to the identity; in row 0 the identity stays.
pub missing_is : Lacks (composed_at (1 ∷ 1 ∷ []) 1) 1 2 0 0
missing_is = ((composed_8 (replicate (table_need 1 2) 7) 0 (replicate (work_need 1 2) 9) (1 ∷ 1 ∷ []) 1 2 0 0 0).0 known_cases.missing).1.0

pub stays_is : Strays (composed_at (0 ∷ []) 1) 1 1 0 0
stays_is = ((composed_9 (replicate (table_need 1 1) 7) 0 (replicate (work_need 1 1) 9) (0 ∷ []) 1 1 0 0 0).0 known_cases.stays).1.0

pub twisted_is : Twists (composed_at twisted 2) 2 4 1 2 2
twisted_is = ((composed_10 (replicate (table_need 2 4) 7) 0 (replicate (work_need 2 4) 9) twisted 2 4 1 2 2).0 known_cases.inverses_differ).1

pub repeated_is : Misnumbers (composed_at repeated 2) 2 2 1
repeated_is = ((composed_11 (replicate (table_need 2 2) 7) 0 (replicate (work_need 2 2) 9) repeated 2 2 1 0 0).0 known_cases.generator_twice).1.0

-- The crossed table passes reading and 8 to 11, and is no group's.
pub crossed_is : (N : ℕ) × Groupless (composed_at crossed_rows 4) 4 16 N
crossed_is = ((composed_12 (replicate (table_need 4 16) 7) 0 (replicate (work_need 4 16) 9) crossed_rows 4 16 0 0 0).0 known_cases.crossed_refused).1.0
