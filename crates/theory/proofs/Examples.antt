-- Two tables of document 01, decided by the tests that compute.
use mathlib.Core.Path.{◌≡◌, refl}
use mathlib.Core.List.{[], ◌∷◌}
use Rattle.theory.specs.Words.{walk}
use Rattle.theory.specs.Numbering.{NumberingRule}
use Rattle.theory.specs.AnyGroup.{SomeGroup}
use Rattle.theory.specs.Examples.{s3, crossed}
use Rattle.theory.proofs.Reading.{read_exact}
use Rattle.theory.proofs.Test.{identity_row_exact, group_test_exact}

pub s3_rule : NumberingRule 2 6 s3
s3_rule = record { numbered = (read_exact 2 6 s3).0 refl; identity_row_lem = (identity_row_exact 2 s3).0 tt }

pub s3_group : SomeGroup 2 6 s3
s3_group = (group_test_exact s3_rule.numbered).0 tt

-- The crossed table follows the numbering rule, and its columns are permutations without fixed points.
pub crossed_rule : NumberingRule 4 16 crossed
crossed_rule = record { numbered = (read_exact 4 16 crossed).0 refl; identity_row_lem = (identity_row_exact 4 crossed).0 tt }

pub crossed_no_group : ¬ (SomeGroup 4 16 crossed)
crossed_no_group g = (group_test_exact crossed_rule.numbered).1 g

-- Words 0,2,1 and 0,1,2 reach 12 and 11.
pub crossed_words : (walk crossed 0 (0 ∷ 2 ∷ 1 ∷ []) ≡ 12) × (walk crossed 0 (0 ∷ 1 ∷ 2 ∷ []) ≡ 11)
crossed_words = (refl, refl)
