-- `from_generators` seen at work: the group of two elements as a subgroup of itself, in buffers that are longer than they need to be.
use mathlib.Core.Path.{◌≡◌, refl}
use mathlib.Core.List.{[], ◌∷◌, ◌++◌}
use lib.ListN.{replicate}
use Rattle.std.specs.Prelude.{Ok, Err}
use Rattle.egg.specs.Answers.{numbered}
use Rattle.egg.specs.Table.{put_at, start_of}
use Rattle.egg.specs.Scan.{scan}
use Rattle.egg.specs.Factor.{has_room, fits_in, stretch, read_step}
use Rattle.build_checks.specs.Checks as checks
use Rattle.build_checks_inverses.specs.Inverses as inverses
use Rattle.build_checks_group.specs.Lefts as lefts
use Rattle.build_reading.specs.Build.{set_step, set_word, adds}
use Rattle.build_word_cells.specs.Hops.{hop_from, with_hops}
use Rattle.build_lending.specs.Finish.{finished}
use Rattle.build_lending.specs.Lending.{lent_right, within}
use Rattle.factor.specs.Questions as factor
use Rattle.group_handles.specs.Handles.{group_of, limited}
use Rattle.group_digits.specs.Digits.{digitwise}
use Rattle.factor_word_letters.specs.Spell.{letters_by}
use Rattle.factor_questions.specs.Walks as walks
use Rattle.factor_words.specs.Words as words
use Rattle.build_numbering.specs.Renumber.{map_place, map_row, map_rows}
use Rattle.build_numbering.specs.Build.{renumber_in}
use Rattle.subgroup_build.specs.Lent.{subgrouping, maps_right}
use Rattle.subgroup_build.specs.Generated.{entries_right, small_enough, admits_generators, generated_into, from_generators}
use Rattle.promises_subgroup.specs.AtWork.{two_stretch, two_product}

pub by_itself : from_generators two_stretch two_product (1 ∷ []) (replicate 14 7) 1 (replicate 21 7) (replicate 3 7) (replicate 3 7) 2
    ≡ subgrouping
    (Ok (record { below = group_of []; factor = record { start = 1; room = 2; generators = 1; elements = 2 }; over = two_product; above = group_of [] })) (7 ∷ two_stretch ++ (7 ∷ [])) (replicate 20 0 ++ (7 ∷ [])) (0 ∷ 1 ∷ 7 ∷ []) (0 ∷ 1 ∷ 7 ∷ [])
unfolding put_at start_of scan read_step checks.missing_row checks.missing checks.check8 checks.range_row checks.links_of checks.ranges checks.wrong_row checks.wrong checks.check_table checks.wiped checks.arrive_row checks.arrivals checks.counts_right inverses.invert_from inverses.fill_inverses inverses.inverses_right lefts.identity_row lefts.columns_row lefts.spelled_row lefts.spelled lefts.check_steps lefts.fill_left lefts.goes_row lefts.all_go lefts.lefts checks.check_rest checks.check_group set_step set_word adds hop_from with_hops finished map_place map_row map_rows renumber_in has_room fits_in stretch lent_right within limited digitwise maps_right entries_right small_enough admits_generators generated_into from_generators factor.admits letters_by walks.follow walks.along walks.read_step_back walks.back_by walks.compose_in walks.inverse_in walks.conjugate_in walks.generator_in words.length_in words.readable_by words.spell_by words.write_in
by_itself = refl

-- The identity for a generator: 9 at (0, 0), and everything that was lent for it is zero.
pub by_the_identity : from_generators two_stretch two_product (0 ∷ []) (replicate 14 7) 1 (replicate 21 7) (replicate 3 7) (replicate 3 7) 2
    ≡ subgrouping
    (Err (numbered 9 0 0 0)) (7 ∷ replicate 12 0 ++ (7 ∷ [])) (replicate 20 0 ++ (7 ∷ [])) (0 ∷ 0 ∷ 7 ∷ []) (0 ∷ 0 ∷ 7 ∷ [])
unfolding put_at start_of scan read_step checks.missing_row checks.missing checks.check8 checks.range_row checks.links_of checks.ranges checks.wrong_row checks.wrong checks.check_table checks.wiped checks.arrive_row checks.arrivals checks.counts_right inverses.invert_from inverses.fill_inverses inverses.inverses_right lefts.identity_row lefts.columns_row lefts.spelled_row lefts.spelled lefts.check_steps lefts.fill_left lefts.goes_row lefts.all_go lefts.lefts checks.check_rest checks.check_group set_step set_word adds hop_from with_hops finished map_place map_row map_rows renumber_in has_room fits_in stretch lent_right within limited digitwise maps_right entries_right small_enough admits_generators generated_into from_generators factor.admits letters_by walks.follow walks.along walks.read_step_back walks.back_by walks.compose_in walks.inverse_in walks.conjugate_in walks.generator_in words.length_in words.readable_by words.spell_by words.write_in
by_the_identity = refl

-- A map that is too short: 4, and nothing is touched.
pub with_a_short_map : from_generators two_stretch two_product (1 ∷ []) (replicate 14 7) 1 (replicate 21 7) (7 ∷ []) (replicate 3 7) 2
    ≡ subgrouping
    (Err (numbered 4 0 0 0)) (replicate 14 7) (replicate 21 7) (7 ∷ []) (replicate 3 7)
unfolding put_at start_of scan read_step checks.missing_row checks.missing checks.check8 checks.range_row checks.links_of checks.ranges checks.wrong_row checks.wrong checks.check_table checks.wiped checks.arrive_row checks.arrivals checks.counts_right inverses.invert_from inverses.fill_inverses inverses.inverses_right lefts.identity_row lefts.columns_row lefts.spelled_row lefts.spelled lefts.check_steps lefts.fill_left lefts.goes_row lefts.all_go lefts.lefts checks.check_rest checks.check_group set_step set_word adds hop_from with_hops finished map_place map_row map_rows renumber_in has_room fits_in stretch lent_right within limited digitwise maps_right entries_right small_enough admits_generators generated_into from_generators factor.admits letters_by walks.follow walks.along walks.read_step_back walks.back_by walks.compose_in walks.inverse_in walks.conjugate_in walks.generator_in words.length_in words.readable_by words.spell_by words.write_in
with_a_short_map = refl
