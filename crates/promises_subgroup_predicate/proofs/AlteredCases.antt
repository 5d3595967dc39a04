-- Each case by computing.
use mathlib.Core.Path.{refl}
use Rattle.egg.specs.Table.{put_at, start_of}
use Rattle.egg.specs.Scan.{scan}
use Rattle.egg.specs.Factor.{has_room, fits_in, stretch, read_step}
use Rattle.build_checks.specs.Checks.{missing_row, missing, check8, range_row, links_of, ranges, wrong_row, wrong, check_table, wiped, arrive_row, arrivals, counts_right, check_rest, check_group}
use Rattle.build_checks_group.specs.Lefts.{spelled, lefts, identity_row, columns_row, spelled_row, check_steps, fill_left, goes_row, all_go}
use Rattle.build_checks_inverses.specs.Inverses.{invert_from, fill_inverses, inverses_right}
use Rattle.build_reading.specs.Build.{set_step, set_word, adds}
use Rattle.build_lending.specs.Finish.{finished}
use Rattle.build_lending.specs.Lending.{lent_right, within}
use Rattle.build_word_cells.specs.Hops.{hop_from, with_hops}
use Rattle.factor_questions.specs.Walks.{follow, along, compose_in}
use Rattle.factor_word_letters.specs.Spell.{readable_by, letters_by}
use Rattle.group_handles.specs.Handles.{limited}
use Rattle.group_digits.specs.Digits.{digitwise}
use Rattle.build_numbering.specs.Renumber.{map_place, map_row, map_rows}
use Rattle.build_numbering.specs.Build.{renumber_in}
use Rattle.subgroup_build.specs.Lent.{maps_right}
use Rattle.subgroup_build.specs.Generated.{small_enough}
use Rattle.subgroup_predicate_choices.specs.Choices.{chooses}
use Rattle.subgroup_predicate.specs.Predicate.{admits_over, told_into, from_predicate}
use Rattle.promises_subgroup_predicate.specs.AlteredCases.{ToldCases}

pub told_cases : ToldCases
unfolding put_at start_of scan has_room fits_in stretch read_step missing_row missing check8 range_row links_of ranges wrong_row wrong check_table wiped arrive_row arrivals counts_right invert_from fill_inverses inverses_right identity_row columns_row spelled_row spelled check_steps fill_left goes_row all_go lefts check_rest check_group set_step set_word adds hop_from with_hops finished lent_right within readable_by letters_by follow along compose_in limited digitwise map_place map_row map_rows renumber_in maps_right small_enough chooses admits_over told_into from_predicate
told_cases = record {
  predicate_5 = refl;
  predicate_8 = refl;
  predicate_9 = refl;
  predicate_10 = refl;
  predicate_11 = refl;
  predicate_12 = refl;
  predicate_15 = refl;
  predicate_17 = refl;
}
