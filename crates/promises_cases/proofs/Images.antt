-- Each case by computing.
use mathlib.Core.Path.{refl}
use Rattle.egg.specs.Table.{put_at, start_of}
use Rattle.egg.specs.Scan.{scan}
use Rattle.egg.specs.Factor.{has_room, fits_in, stretch, read_step}
use Rattle.build_reading.specs.Build.{set_step, set_word, adds}
use Rattle.build_reading.specs.Reading.{read_place, read_row, read_from}
use Rattle.build_checks.specs.Checks as checks
use Rattle.build_checks_inverses.specs.Inverses as inverses
use Rattle.build_checks_group.specs.Lefts as lefts
use Rattle.build_word_cells.specs.Hops.{hop_from, with_hops}
use Rattle.build_lending.specs.Finish.{finished}
use Rattle.build_lending.specs.Lending.{lent_right, within}
use Rattle.factor.specs.Composed.{composed_in, composed}
use Rattle.image_cells.specs.Cells.{halves}
use Rattle.image_check.specs.Short.{built}
use Rattle.image.specs.Image.{head_number, image_number}
use Rattle.image_writing.specs.Written.{row_numbers, rows_of, spelled_bytes, image_of, known_row, all_known}
use Rattle.image.specs.Written.{write_count, written_image}
use Rattle.image_reading.specs.Read.{image_in}
use Rattle.image.specs.Read.{read_image}
use Rattle.image_walk.specs.Walked.{letters_below, follow_rows}
use Rattle.image.specs.Walked.{walk_number}
use Rattle.promises_cases.specs.Images.{KnownImages}

pub known_images : KnownImages
unfolding put_at start_of scan has_room fits_in stretch read_step set_step set_word adds read_place read_row read_from checks.missing_row checks.missing checks.check8 checks.range_row checks.links_of checks.ranges checks.wrong_row checks.wrong checks.check_table checks.wiped checks.arrive_row checks.arrivals checks.counts_right inverses.invert_from inverses.fill_inverses inverses.inverses_right lefts.identity_row lefts.columns_row lefts.spelled_row lefts.spelled lefts.check_steps lefts.fill_left lefts.goes_row lefts.all_go lefts.lefts checks.check_rest checks.check_group hop_from with_hops finished lent_right within composed_in composed halves built head_number image_number row_numbers rows_of spelled_bytes image_of known_row all_known write_count written_image image_in read_image letters_below follow_rows walk_number
known_images = record {
  work_short = refl;
  eight = refl;
  nine_is = refl;
  ten = refl;
  eleven = refl;
  twelve = refl;
  fewer = refl;
  skips = refl;
  beyond = refl;
  version = refl;
  many = refl;
  z2_count = refl;
  z2_written = refl;
  z2_short = refl;
  z2_unwritten = refl;
  no_handle = refl;
  step_beyond = refl;
  z2_read = refl;
  short_read = refl;
  many_read = refl;
  version_read = refl;
  fewer_read = refl;
  walks = refl;
  waits = refl;
  walks_16 = refl;
  walks_1 = refl;
  walks_14 = refl;
  walks_letter = refl;
  walks_17 = refl;
}
