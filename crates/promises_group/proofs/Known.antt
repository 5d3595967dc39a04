-- Each case by computing.
use mathlib.Core.Path.{refl}
use Rattle.egg.specs.Table.{put_at, start_of}
use Rattle.egg.specs.Scan.{scan}
use Rattle.egg.specs.Factor.{has_room, fits_in, stretch, read_step}
use Rattle.build_checks.specs.Checks as checks
use Rattle.build_checks_inverses.specs.Inverses as inverses
use Rattle.build_checks_group.specs.Lefts as lefts
use Rattle.build_reading.specs.Build.{set_step, set_word, adds}
use Rattle.build_word_cells.specs.Hops.{hop_from, with_hops}
use Rattle.build_lending.specs.Finish.{finished}
use Rattle.build_lending.specs.Lending.{lent_right, within}
use Rattle.build_reading.specs.Reading.{read_place, read_row, read_from}
use Rattle.factor.specs.Composed.{composed_in, composed}
use Rattle.factor_word_letters.specs.Spell.{letters_by}
use Rattle.factor_questions.specs.Walks.{follow, along, read_step_back, back_by, compose_in, inverse_in, conjugate_in}
use Rattle.factor_words.specs.Words.{length_in, readable_by, spell_by}
use Rattle.group_handles.specs.Handles.{limited, admits, joins}
use Rattle.group_digits.specs.Digits.{digitwise, step_in}
use Rattle.group_digits.specs.Splits.{split_tail, digits_right, join_tail}
use Rattle.group_periods.specs.Periods.{period_from, periods}
use Rattle.group_words.specs.Words.{lengths, readables, spells, writes}
use Rattle.group_flatten.specs.Flat.{row_by, rows_by, flat_in, flat_into, flat}
use Rattle.group.specs.Questions as questions
use Rattle.promises_group.specs.Known.{KnownProducts}

pub known_products : KnownProducts
unfolding put_at start_of scan has_room fits_in stretch read_step checks.missing_row checks.missing checks.check8 checks.range_row checks.links_of checks.ranges checks.wrong_row checks.wrong checks.check_table checks.wiped checks.arrive_row checks.arrivals checks.counts_right inverses.invert_from inverses.fill_inverses inverses.inverses_right lefts.identity_row lefts.columns_row lefts.spelled_row lefts.spelled lefts.check_steps lefts.fill_left lefts.goes_row lefts.all_go lefts.lefts checks.check_rest checks.check_group set_step set_word adds hop_from with_hops finished lent_right within read_place read_row read_from composed_in composed follow along read_step_back back_by compose_in inverse_in conjugate_in readable_by letters_by length_in limited admits joins digitwise step_in period_from periods lengths readables spell_by spells writes row_by rows_by flat_in flat_into flat questions.count_answer questions.generators_answer questions.generator_answer questions.step_answer questions.project_answer questions.inject_answer split_tail questions.split_answer questions.split_leaves digits_right join_tail questions.join_answer questions.compose_answer questions.conjugate_answer questions.period_answer questions.length_answer questions.write_answer questions.written
known_products = record {
  joined = refl;
  counted = refl;
  generators = refl;
  generator_2 = refl;
  stepped = refl;
  split_9 = refl;
  split_counts = refl;
  join_9 = refl;
  word_9 = refl;
  length_9 = refl;
  conjugate_7_8 = refl;
  period_9 = refl;
  project_9 = refl;
  inject_1 = refl;
  period_0 = refl;
  flat_both = refl;
  flat_one = refl;
  flat_none = refl;
  flat_square = refl;
  square_rows = refl;
  flat_missing = refl;
  never_home = refl;
  nine_generators = refl;
  first_beyond = refl;
  second_beyond = refl;
  generator_beyond = refl;
  factor_beyond = refl;
  digit_beyond = refl;
  digits_short = refl;
  list_short = refl;
  word_short = refl;
  nine_beyond = refl;
  nine_factors_lem = refl;
  nine_joined = refl;
  handle_first = refl;
}
