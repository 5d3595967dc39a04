-- The four parts stand in their buffers by `maps_back_lem`.
use mathlib.Core.Path.{sym}
use lib.ListN.{length}
use lib.Seq.{length-take-le}
use borrow.Author.Tests.{leb-true}
use Rattle.build_lending.proofs.Lending.{lent_table_lem, lent_enough}
use Rattle.group_handles.specs.Handles.{handles, elements_of}
use Rattle.subgroup_build.proofs.Admits.{maps_lent, maps_inn, maps_outw, count_is}
use Rattle.subgroup_build.proofs.Lendings.{generated_built}
use Rattle.subgroup_build.proofs.inner.generated_at.Goals as goal

pub stretch_end-end-requires : goal.stretch_end-end-requires
stretch_end-end-requires c = lent_table_lem (length c.args.table.now) c.args.start (length c.args.work.now) c.args.room (length c.args.gens.now) (maps_lent (length c.args.table.now) c.args.start (length c.args.work.now) (length c.args.inn.now) (length c.args.outw.now) c.args.room (length c.args.gens.now) (elements_of (handles c.args.over)) c.requires.1.1)

pub slice_bounds-generated_in-end-2 : goal.slice_bounds-generated_in-end-2
slice_bounds-generated_in-end-2 c = (rw c.work_need-need.ensures (leb-true _ _ (lent_enough (length c.args.table.now) c.args.start (length c.args.work.now) c.args.room (length c.args.gens.now) (maps_lent (length c.args.table.now) c.args.start (length c.args.work.now) (length c.args.inn.now) (length c.args.outw.now) c.args.room (length c.args.gens.now) (elements_of (handles c.args.over)) c.requires.1.1))))

pub slice_bounds-generated_in-end-3 : goal.slice_bounds-generated_in-end-3
slice_bounds-generated_in-end-3 c = sym (length-take-le _ c.args.work.now (rw c.work_need-need.ensures (leb-true _ _ (lent_enough (length c.args.table.now) c.args.start (length c.args.work.now) c.args.room (length c.args.gens.now) (maps_lent (length c.args.table.now) c.args.start (length c.args.work.now) (length c.args.inn.now) (length c.args.outw.now) c.args.room (length c.args.gens.now) (elements_of (handles c.args.over)) c.requires.1.1)))))

pub slice_bounds-generated_in-end-4 : goal.slice_bounds-generated_in-end-4
slice_bounds-generated_in-end-4 c = (maps_inn (length c.args.table.now) c.args.start (length c.args.work.now) (length c.args.inn.now) (length c.args.outw.now) c.args.room (length c.args.gens.now) c.elements_of-m.result (rw (count_is (elements_of (handles c.args.over)) c.elements_of-m.ensures c.requires.0.1) c.requires.1.1))

pub slice_bounds-generated_in-end-5 : goal.slice_bounds-generated_in-end-5
slice_bounds-generated_in-end-5 c = sym (length-take-le _ c.args.inn.now (maps_inn (length c.args.table.now) c.args.start (length c.args.work.now) (length c.args.inn.now) (length c.args.outw.now) c.args.room (length c.args.gens.now) c.elements_of-m.result (rw (count_is (elements_of (handles c.args.over)) c.elements_of-m.ensures c.requires.0.1) c.requires.1.1)))

pub slice_bounds-generated_in-end-6 : goal.slice_bounds-generated_in-end-6
slice_bounds-generated_in-end-6 c = (maps_outw (length c.args.table.now) c.args.start (length c.args.work.now) (length c.args.inn.now) (length c.args.outw.now) c.args.room (length c.args.gens.now) (elements_of (handles c.args.over)) c.requires.1.1)

pub slice_bounds-generated_in-end-7 : goal.slice_bounds-generated_in-end-7
slice_bounds-generated_in-end-7 c = sym (length-take-le _ c.args.outw.now (maps_outw (length c.args.table.now) c.args.start (length c.args.work.now) (length c.args.inn.now) (length c.args.outw.now) c.args.room (length c.args.gens.now) (elements_of (handles c.args.over)) c.requires.1.1))

pub returns : goal.returns
returns c = generated_built c.args.from.now c.args.over c.args.gens.now c.args.table.now c.args.start c.args.work.now c.args.inn.now c.args.outw.now c.args.room c.requires.1.0 (count_is (elements_of (handles c.args.over)) c.elements_of-m.ensures c.requires.0.1) (rw (count_is (elements_of (handles c.args.over)) c.elements_of-m.ensures c.requires.0.1) c.requires.1.1) c.stretch_end-end.ensures c.work_need-need.ensures c.made.ensures c.subgroup_of.ensures c.generated_in-count.ensures
