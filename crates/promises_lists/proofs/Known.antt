-- Each case by computing.
-- Assumes nothing.
use mathlib.Core.Path.{refl}
use Rattle.egg.specs.Table.{put_at, start_of}
use Rattle.egg.specs.Scan.{scan}
use Rattle.egg.specs.Factor.{has_room, fits_in, stretch, read_step}
use Rattle.build_checks.specs.Checks as checks
use Rattle.build_checks_inverses.specs.Inverses as inverses
use Rattle.build_checks_group.specs.Lefts as lefts
use Rattle.build_reading.specs.Build.{set_step, set_word, adds}
use Rattle.build_word_cells.specs.Hops.{hop_from, with_hops}
use Rattle.build_lending.specs.Finish.{finished}
use Rattle.build_lending.specs.Lending.{lent_right, within}
use Rattle.build_reading.specs.Reading.{read_place, read_row, read_from}
use Rattle.factor.specs.Composed.{composed_in, composed}
use Rattle.factor.specs.Questions as questions
use Rattle.factor_word_letters.specs.Spell.{letters_by}
use Rattle.factor_questions.specs.Walks.{follow, along, read_step_back, back_by, compose_in, inverse_in}
use Rattle.factor_words.specs.Words.{readable_by}
use Rattle.group_handles.specs.Handles as handles
use Rattle.group_digits.specs.Digits.{digitwise}
use Rattle.group_powers.specs.Powers.{by_halving, powers, powi_alone}
use Rattle.group.specs.Questions as product-questions
use Rattle.lists.specs.Lists.{lengths_right, first_refused, numbers, each_place, over_lists}
use Rattle.lists_factor.specs.Each as factor
use Rattle.lists_group.specs.Each as product
use Rattle.promises_lists.specs.Known.{KnownLists}

pub known_lists : KnownLists
unfolding put_at start_of scan has_room fits_in stretch read_step checks.missing_row checks.missing checks.check8 checks.range_row checks.links_of checks.ranges checks.wrong_row checks.wrong checks.check_table checks.wiped checks.arrive_row checks.arrivals checks.counts_right inverses.invert_from inverses.fill_inverses inverses.inverses_right lefts.identity_row lefts.columns_row lefts.spelled_row lefts.spelled lefts.check_steps lefts.fill_left lefts.goes_row lefts.all_go lefts.lefts checks.check_rest checks.check_group set_step set_word adds hop_from with_hops finished lent_right within read_place read_row read_from composed_in composed follow along read_step_back back_by compose_in inverse_in readable_by letters_by handles.limited handles.admits digitwise by_halving powers powi_alone questions.admits questions.compose_answer questions.inverse_answer product-questions.compose_answer product-questions.inverse_answer product-questions.powi_answer lengths_right first_refused numbers each_place over_lists factor.compose_each factor.inverse_each factor.powi_each product.compose_each product.inverse_each product.powi_each
known_lists = record {
  composed = refl;
  inverted = refl;
  powered = refl;
  first_beyond = refl;
  second_beyond = refl;
  inverse_beyond = refl;
  power_beyond = refl;
  forged = refl;
  second_short = refl;
  output_long = refl;
  exponents_short = refl;
  most = refl;
  too_many = refl;
  none_composed = refl;
  none_inverted = refl;
  none_powered = refl;
  product_composed = refl;
  product_inverted = refl;
  product_powered = refl;
  product_powered_back = refl;
  product_beyond = refl;
  product_large = refl;
  product_unlike = refl;
  product_none = refl;
}
