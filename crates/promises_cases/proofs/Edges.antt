-- Each case by computing.
use mathlib.Core.Path.{refl}
use Rattle.egg.specs.Table.{put_at, start_of}
use Rattle.egg.specs.Scan.{scan}
use Rattle.egg.specs.Pairs.{pair_code, pair_count, orders_right}
use Rattle.egg.specs.Factor.{has_room}
use Rattle.build_reading.specs.Build.{set_step, set_word, adds}
use Rattle.build_lending.specs.Finish.{finished}
use Rattle.build_lending.specs.Lending.{lent_right, within}
use Rattle.enumeration_rows.specs.Rows as rows
use Rattle.enumeration_fill.specs.Fill as legs
use Rattle.enumeration_wake.specs.Waking as carrying
use Rattle.enumeration_facts.specs.Facts as facts
use Rattle.enumeration_run.specs.Run.{enumerated, runs, visits, discovered, advanced}
use Rattle.enumeration.specs.Calls.{enumerated_in, enumerates}
use Rattle.promises_cases.specs.Edges.{KnownEdges}

pub known_edges : KnownEdges
unfolding put_at start_of scan pair_code pair_count orders_right has_room set_step set_word adds finished lent_right within rows.work_width rows.place_at rows.rows_at rows.stored_row rows.write_row legs.back_from legs.forward_from legs.filled rows.appended rows.waits rows.added_row rows.add_rows_from carrying.learns carrying.woken carrying.wakes carrying.wakes_all facts.emptied facts.updated facts.settle_from enumerated runs visits discovered advanced enumerated_in enumerates
known_edges = record {
  nine_generators = refl;
  eight_generators = refl;
  list_short = refl;
  list_long = refl;
  order_1 = refl;
  order_32768 = refl;
  order_32767 = refl;
  room_0 = refl;
  room_5 = refl;
}
