-- Definitions seen at work: predicates on the numbers modulo 6.
use Prim.Native.Nat.{◌+◌}
use mathlib.Core.Path.{◌≡◌, refl}
use mathlib.Core.List.{[], ◌∷◌}
use lib.ListN.{get_or}
use Rattle.std.specs.Prelude.{Ok, Err}
use Rattle.egg.specs.Table.{put_at, start_of}
use Rattle.egg.specs.Scan.{scan}
use Rattle.egg.specs.Factor.{read_step}
use Rattle.build_checks.specs.Checks as checks
use Rattle.build_checks_inverses.specs.Inverses as inverses
use Rattle.build_checks_group.specs.Lefts as lefts
use Rattle.build_reading.specs.Build.{set_step, set_word, adds}
use Rattle.egg.specs.Answers.{numbered}
use Rattle.build_word_cells.specs.Hops.{hop_from, with_hops}
use Rattle.build_lending.specs.Finish.{finished}
use Rattle.build_numbering.specs.Renumber.{no_number, map_place, map_row, map_rows}
use Rattle.build_numbering.specs.Build.{renumber_in}
use Rattle.subgroup_predicate_choices.specs.Choices.{chooses}
use Rattle.subgroup.specs.Indices.{over_of, sub_of}
use Rattle.promises_subgroup_predicate.specs.Sample.{tells_six}

-- The even ones.
pub even_members : tells_six (1 ∷ 0 ∷ 1 ∷ 0 ∷ 7 ∷ 0 ∷ []) 3 ≡ record { gens = 2 ∷ []; answer = Ok 3; inn = 0 ∷ no_number ∷ 1 ∷ no_number ∷ 2 ∷ no_number ∷ []; outw = 0 ∷ 2 ∷ 4 ∷ [] }
unfolding put_at start_of scan read_step checks.missing_row checks.missing checks.check8 checks.range_row checks.links_of checks.ranges checks.wrong_row checks.wrong checks.check_table checks.wiped checks.arrive_row checks.arrivals checks.counts_right inverses.invert_from inverses.fill_inverses inverses.inverses_right lefts.identity_row lefts.columns_row lefts.spelled_row lefts.spelled lefts.check_steps lefts.fill_left lefts.goes_row lefts.all_go lefts.lefts checks.check_rest checks.check_group set_step set_word adds hop_from with_hops finished map_place map_row map_rows renumber_in chooses
even_members = refl

-- 2 and 3 are no subgroup: what they generate.
pub members_generate : tells_six (0 ∷ 0 ∷ 1 ∷ 1 ∷ 0 ∷ 0 ∷ []) 6
    ≡ record { gens = 2 ∷ 3 ∷ []; answer = Ok 6; inn = 0 ∷ 5 ∷ 1 ∷ 2 ∷ 3 ∷ 4 ∷ []; outw = 0 ∷ 2 ∷ 3 ∷ 4 ∷ 5 ∷ 1 ∷ [] }
unfolding put_at start_of scan read_step checks.missing_row checks.missing checks.check8 checks.range_row checks.links_of checks.ranges checks.wrong_row checks.wrong checks.check_table checks.wiped checks.arrive_row checks.arrivals checks.counts_right inverses.invert_from inverses.fill_inverses inverses.inverses_right lefts.identity_row lefts.columns_row lefts.spelled_row lefts.spelled lefts.check_steps lefts.fill_left lefts.goes_row lefts.all_go lefts.lefts checks.check_rest checks.check_group set_step set_word adds hop_from with_hops finished map_place map_row map_rows renumber_in chooses
members_generate = refl

-- No room for the third: 5, and the maps are zero.
pub members_short : tells_six (1 ∷ 0 ∷ 1 ∷ 0 ∷ 1 ∷ 0 ∷ []) 2
    ≡ record { gens = 2 ∷ []; answer = Err (numbered 5 1 0 0); inn = 0 ∷ 0 ∷ 0 ∷ 0 ∷ 0 ∷ 0 ∷ []; outw = 0 ∷ 0 ∷ [] }
unfolding put_at start_of scan read_step checks.missing_row checks.missing checks.check8 checks.range_row checks.links_of checks.ranges checks.wrong_row checks.wrong checks.check_table checks.wiped checks.arrive_row checks.arrivals checks.counts_right inverses.invert_from inverses.fill_inverses inverses.inverses_right lefts.identity_row lefts.columns_row lefts.spelled_row lefts.spelled lefts.check_steps lefts.fill_left lefts.goes_row lefts.all_go lefts.lefts checks.check_rest checks.check_group set_step set_word adds hop_from with_hops finished map_place map_row map_rows renumber_in chooses
members_short = refl

-- The even ones of the middle factor in 2 by 6 by 2: the subgroup's element (1, 2, 1) is 1 + 2·4 + 12 in the overgroup, and back; (1, 3, 1)
-- is not in the subgroup.
pub over_computed : over_of 2 6 3 (λ e. get_or (0 ∷ 2 ∷ 4 ∷ []) e 0) (1 + 2 + 2 + 6) ≡ 1 + 8 + 12
over_computed = refl

pub sub_computed : sub_of 2 6 3 (λ x. get_or (0 ∷ no_number ∷ 1 ∷ no_number ∷ 2 ∷ no_number ∷ []) x 0) (1 + 8 + 12) ≡ 1 + 2 + 2 + 6
sub_computed = refl

pub outside_computed : sub_of 2 6 3 (λ x. get_or (0 ∷ no_number ∷ 1 ∷ no_number ∷ 2 ∷ no_number ∷ []) x 0) (1 + 6 + 12) ≡ no_number
outside_computed = refl
