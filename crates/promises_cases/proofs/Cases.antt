-- Each case by computing.
use mathlib.Core.Path.{refl}
use Rattle.egg.specs.Table.{put_at, start_of}
use Rattle.egg.specs.Scan.{scan}
use Rattle.egg.specs.Pairs.{pair_code, pair_count, orders_right}
use Rattle.egg.specs.Factor.{has_room, fits_in, stretch, read_step}
use Rattle.build_reading.specs.Build.{set_step, set_word, adds}
use Rattle.build_reading.specs.Reading.{read_place, read_row, read_from}
use Rattle.build_checks.specs.Checks as checks
use Rattle.build_checks_inverses.specs.Inverses as inverses
use Rattle.build_checks_group.specs.Lefts as lefts
use Rattle.build_word_cells.specs.Hops.{hop_from, with_hops}
use Rattle.build_lending.specs.Finish.{finished}
use Rattle.build_lending.specs.Lending.{lent_right, within}
use Rattle.factor.specs.Composed.{composed_in, composed}
use Rattle.factor.specs.Questions as factor
use Rattle.factor_word_letters.specs.Spell.{letters_by}
use Rattle.factor_questions.specs.Walks as walks
use Rattle.factor_words.specs.Words as words
use Rattle.factor_relations.specs.Relations.{turned, doubled_row, pairs_row, relations}
use Rattle.factor.specs.Relations.{check_answer}
use Rattle.enumeration_rows.specs.Rows as rows
use Rattle.enumeration_fill.specs.Fill as legs
use Rattle.enumeration_wake.specs.Waking as carrying
use Rattle.enumeration_facts.specs.Facts as facts
use Rattle.enumeration_run.specs.Run.{enumerated, runs, visits, discovered, advanced}
use Rattle.enumeration.specs.Calls.{enumerated_in, enumerates}
use Rattle.group_handles.specs.Handles.{limited, admits}
use Rattle.group_digits.specs.Digits.{digitwise}
use Rattle.group_digits.specs.Splits.{split_tail}
use Rattle.group_powers.specs.Powers.{by_halving, powers}
use Rattle.group_periods.specs.Periods.{period_from, periods}
use Rattle.group_words.specs.Words.{lengths, readables, spells, writes}
use Rattle.group.specs.Questions as group
use Rattle.image_cells.specs.Cells as cells
use Rattle.image_check.specs.Short.{built}
use Rattle.image.specs.Image.{head_number, image_number}
use Rattle.image_writing.specs.Written.{row_numbers, rows_of, spelled_bytes, image_of, known_row, all_known}
use Rattle.image.specs.Written.{write_count, written_image}
use Rattle.image_reading.specs.Read.{image_in}
use Rattle.image.specs.Read.{read_image}
use Rattle.promises_cases.specs.Cases.{KnownCases}

pub known_cases : KnownCases
unfolding put_at start_of scan pair_code pair_count orders_right has_room fits_in stretch read_step set_step set_word adds read_place read_row read_from checks.missing_row checks.missing checks.check8 checks.range_row checks.links_of checks.ranges checks.wrong_row checks.wrong checks.check_table checks.wiped checks.arrive_row checks.arrivals checks.counts_right inverses.invert_from inverses.fill_inverses inverses.inverses_right lefts.identity_row lefts.columns_row lefts.spelled_row lefts.spelled lefts.check_steps lefts.fill_left lefts.goes_row lefts.all_go lefts.lefts checks.check_rest checks.check_group hop_from with_hops finished lent_right within composed_in composed factor.admits letters_by walks.follow walks.along walks.read_step_back walks.back_by walks.compose_in walks.inverse_in walks.conjugate_in factor.compose_answer factor.conjugate_answer words.readable_by words.length_in words.spell_by words.write_in factor.write_answer factor.written factor.word_part turned doubled_row pairs_row relations check_answer rows.work_width rows.place_at rows.rows_at rows.stored_row rows.write_row legs.back_from legs.forward_from legs.filled rows.appended rows.waits rows.added_row rows.add_rows_from carrying.learns carrying.woken carrying.wakes carrying.wakes_all facts.emptied facts.updated facts.settle_from enumerated runs visits discovered advanced enumerated_in enumerates limited admits digitwise by_halving powers period_from periods lengths readables spells writes split_tail group.split_answer group.split_leaves group.compose_answer group.inverse_answer group.powi_answer group.period_answer group.write_answer group.written group.word_part cells.halves built head_number image_number row_numbers rows_of spelled_bytes image_of known_row all_known write_count written_image image_in read_image
known_cases = record {
  square_made = refl;
  square_rows = refl;
  s3_made = refl;
  s3_rows_lem = refl;
  s3_inverses = refl;
  s3_word = refl;
  s3_composed = refl;
  s3_compose = refl;
  s3_other = refl;
  s3_conjugate = refl;
  s3_power = refl;
  s3_minus_1 = refl;
  s3_least = refl;
  s3_period = refl;
  product_split = refl;
  product_word = refl;
  product_compose = refl;
  product_inverse = refl;
  z2_made = refl;
  z2_written = refl;
  z2_checked = refl;
  z2_read = refl;
  none_orders = refl;
  none_made = refl;
  none_written = refl;
  none_checked = refl;
  none_read = refl;
  missing = refl;
  stays = refl;
  inverses_differ = refl;
  generator_twice = refl;
  crossed_refused = refl;
  crossed_first = refl;
  crossed_second = refl;
  z3_made = refl;
  z3_orders = refl;
}
