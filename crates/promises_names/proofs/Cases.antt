-- Each case by computing.
use mathlib.Core.Path.{refl}
use Rattle.egg.specs.Table.{put_at, start_of}
use Rattle.egg.specs.Scan.{scan}
use Rattle.egg.specs.Pairs.{pair_count, orders_right}
use Rattle.egg.specs.Factor.{has_room, fits_in, stretch}
use Rattle.build_checks.specs.Checks as checks
use Rattle.build_checks_inverses.specs.Inverses as inverses
use Rattle.build_checks_group.specs.Lefts as lefts
use Rattle.build_reading.specs.Build.{set_step, set_word, adds}
use Rattle.build_reading.specs.Reading.{read_place, read_row, read_from}
use Rattle.build_word_cells.specs.Hops.{hop_from, with_hops}
use Rattle.build_lending.specs.Finish.{finished}
use Rattle.build_lending.specs.Lending.{lent_right, within}
use Rattle.builder.specs.Calls.{begins}
use Rattle.factor.specs.Composed.{composed_in, composed}
use Rattle.group_handles.specs.Handles.{limited, admits, joins}
use Rattle.names_joined.specs.Joined.{names_fit, joined_from, joined_length}
use Rattle.names.specs.Arguments.{composed_right, enumerate_right, begin_right}
use Rattle.names.specs.Making.{named_composed, named_enumerates, named_begins}
use Rattle.names.specs.Products.{named_joins}
use Rattle.names.specs.Joined.{joined_answer, joined_leaves, joined_part}
use Rattle.promises_names.specs.Cases.{NamedCases}

pub named_cases : NamedCases
unfolding put_at start_of scan pair_count orders_right has_room fits_in stretch checks.missing_row checks.missing checks.check8 checks.range_row checks.links_of checks.ranges checks.wrong_row checks.wrong checks.check_table checks.wiped checks.arrive_row checks.arrivals checks.counts_right inverses.invert_from inverses.fill_inverses inverses.inverses_right lefts.identity_row lefts.columns_row lefts.spelled_row lefts.spelled lefts.check_steps lefts.fill_left lefts.goes_row lefts.all_go lefts.lefts checks.check_rest checks.check_group set_step set_word adds read_place read_row read_from hop_from with_hops finished lent_right within begins composed_in composed limited admits joins names_fit joined_from joined_length composed_right enumerate_right begin_right named_composed named_enumerates named_begins named_joins joined_answer joined_leaves joined_part
named_cases = record {
  two = refl;
  two_bytes = refl;
  two_part = refl;
  empty_between = refl;
  empty_first = refl;
  empty_last = refl;
  one = refl;
  nothing = refl;
  nothing_written = refl;
  exact = refl;
  shorter = refl;
  shorter_written = refl;
  shorter_part = refl;
  forged = refl;
  no_fit = refl;
  nine = refl;
  nine_forged = refl;
  named_32 = refl;
  name_32 = refl;
  named_33 = refl;
  generators_first = refl;
  room_first = refl;
  rows_later = refl;
  orders_first = refl;
  order_first = refl;
  orders_later = refl;
  begun_32 = refl;
  begun_33 = refl;
}
