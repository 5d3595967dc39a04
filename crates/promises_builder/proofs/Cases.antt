-- Each case by computing.
use mathlib.Core.Path.{refl}
use Rattle.egg.specs.Table.{put_at, start_of}
use Rattle.egg.specs.Scan.{scan}
use Rattle.egg.specs.Factor.{has_room, fits_in, stretch}
use Rattle.build_checks.specs.Checks.{missing_row, missing, check8, range_row, links_of, ranges, wrong_row, wrong, check_table, wiped, arrive_row, arrivals, counts_right}
use Rattle.build_checks_inverses.specs.Inverses.{invert_from, fill_inverses, inverses_right}
use Rattle.build_checks_group.specs.Lefts.{identity_row, columns_row, spelled_row, spelled, check_steps, fill_left, goes_row, all_go, lefts}
use Rattle.build_checks.specs.Checks.{check_rest, check_group}
use Rattle.build_reading.specs.Build.{set_step, set_word, adds}
use Rattle.build_reading.specs.Reading.{read_place}
use Rattle.build_lending.specs.Finish.{finished}
use Rattle.build_lending.specs.Lending.{within}
use Rattle.builder_rereading.specs.Own.{own_place, own_row, own_from, all_reached, copied_row, copied, own_in}
use Rattle.builder.specs.Calls.{begins, placed, placed_step, storable, over_long, grown, grows, stores, builds}
use Rattle.promises_builder.specs.Cases.{Cases}

pub cases : Cases
unfolding put_at start_of scan has_room fits_in stretch missing_row missing check8 range_row links_of ranges wrong_row wrong check_table wiped arrive_row arrivals counts_right invert_from fill_inverses inverses_right identity_row columns_row spelled_row spelled check_steps fill_left goes_row all_go lefts check_rest check_group set_step set_word adds read_place finished within own_place own_row own_from all_reached copied_row copied own_in begins placed placed_step storable over_long grown grows stores builds
cases = record { z3 = refl; s3_skips = refl; beyond = refl; set_beyond = refl; no_successor = refl; unreached = refl; unreached_first = refl; long_word = refl }
