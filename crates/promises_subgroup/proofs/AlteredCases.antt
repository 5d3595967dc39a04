-- Each case by computing.
use mathlib.Core.Path.{refl}
use Rattle.egg.specs.Table.{put_at, start_of}
use Rattle.egg.specs.Scan.{scan}
use Rattle.egg.specs.Factor.{has_room, fits_in, stretch, read_step}
use Rattle.build_checks.specs.Checks.{missing_row, missing, check8, range_row, links_of, ranges, wrong_row, wrong, check_table, wiped, arrive_row, arrivals, counts_right, check_rest, check_group}
use Rattle.build_checks_group.specs.Lefts.{spelled, lefts, identity_row, columns_row, spelled_row, check_steps, fill_left, goes_row, all_go}
use Rattle.build_checks_inverses.specs.Inverses.{invert_from, fill_inverses, inverses_right}
use Rattle.build_reading.specs.Build.{set_step, set_word, adds}
use Rattle.build_lending.specs.Finish.{finished}
use Rattle.build_lending.specs.Lending.{lent_right, within}
use Rattle.build_word_cells.specs.Hops.{hop_from, with_hops}
use Rattle.factor_word_letters.specs.Spell.{readable_by, letters_by}
use Rattle.factor_questions.specs.Walks.{follow, along, compose_in}
use Rattle.group_handles.specs.Handles.{limited}
use Rattle.group_digits.specs.Digits.{digitwise}
use Rattle.build_numbering.specs.Renumber.{map_place, map_row, map_rows}
use Rattle.build_numbering.specs.Build.{renumber_in}
use Rattle.subgroup_build.specs.Lent.{maps_right}
use Rattle.subgroup_build.specs.Generated.{entries_right, small_enough, admits_generators, generated_into, from_generators}
use Rattle.promises_subgroup.specs.AlteredCases.{AlteredCases}

pub altered_cases : AlteredCases
unfolding put_at start_of scan has_room fits_in stretch read_step missing_row missing check8 range_row links_of ranges wrong_row wrong check_table wiped arrive_row arrivals counts_right invert_from fill_inverses inverses_right identity_row columns_row spelled_row spelled check_steps fill_left goes_row all_go lefts check_rest check_group set_step set_word adds hop_from with_hops finished lent_right within readable_by letters_by follow along compose_in limited digitwise map_place map_row map_rows renumber_in maps_right entries_right small_enough admits_generators generated_into from_generators
altered_cases = record {
  generators_5 = refl;
  generators_8 = refl;
  generators_9 = refl;
  generators_10 = refl;
  generators_11 = refl;
  generators_12 = refl;
  generators_17 = refl;
}
