-- The four parts stand in their buffers by `maps_back_lem`.
use mathlib.Core.Path.{refl, sym}
use native.Mathlib.Omega.{arith}
use lib.ListN.{length}
use lib.Seq.{length-take-le}
use borrow.Author.Tests.{leb-true}
use Rattle.build_lending.proofs.Lending.{lent_table_lem, lent_enough}
use Rattle.group_handles.specs.Handles.{handles, elements_of}
use Rattle.subgroup_build.proofs.Admits.{maps_lent, maps_inn, maps_outw, count_is}
use Rattle.subgroup_predicate.proofs.Told.{told_built}
use Rattle.subgroup_predicate.proofs.Front.{front_lent}
use Rattle.subgroup_predicate.proofs.inner.told_at.Goals as goal

pub stretch_end-end-requires : goal.stretch_end-end-requires
stretch_end-end-requires c = lent_table_lem (length c.args.table.now) c.args.start (length c.args.work.now) c.args.room 8 (maps_lent (length c.args.table.now) c.args.start (length c.args.work.now) (length c.args.inn.now) (length c.args.outw.now) c.args.room 8 (elements_of (handles c.args.over)) c.requires.1.1)

pub slice_bounds-told_in_front-end-2 : goal.slice_bounds-told_in_front-end-2
slice_bounds-told_in_front-end-2 c = (rw c.work_need-need.ensures (leb-true _ _ (lent_enough (length c.args.table.now) c.args.start (length c.args.work.now) c.args.room 8 (maps_lent (length c.args.table.now) c.args.start (length c.args.work.now) (length c.args.inn.now) (length c.args.outw.now) c.args.room 8 (elements_of (handles c.args.over)) c.requires.1.1))))

pub slice_bounds-told_in_front-end-3 : goal.slice_bounds-told_in_front-end-3
slice_bounds-told_in_front-end-3 c = sym (length-take-le _ c.args.work.now (rw c.work_need-need.ensures (leb-true _ _ (lent_enough (length c.args.table.now) c.args.start (length c.args.work.now) c.args.room 8 (maps_lent (length c.args.table.now) c.args.start (length c.args.work.now) (length c.args.inn.now) (length c.args.outw.now) c.args.room 8 (elements_of (handles c.args.over)) c.requires.1.1)))))

pub slice_bounds-told_in_front-end-4 : goal.slice_bounds-told_in_front-end-4
slice_bounds-told_in_front-end-4 c = (maps_inn (length c.args.table.now) c.args.start (length c.args.work.now) (length c.args.inn.now) (length c.args.outw.now) c.args.room 8 c.elements_of-m.result (rw (count_is (elements_of (handles c.args.over)) c.elements_of-m.ensures c.requires.0.1) c.requires.1.1))

pub slice_bounds-told_in_front-end-5 : goal.slice_bounds-told_in_front-end-5
slice_bounds-told_in_front-end-5 c = sym (length-take-le _ c.args.inn.now (maps_inn (length c.args.table.now) c.args.start (length c.args.work.now) (length c.args.inn.now) (length c.args.outw.now) c.args.room 8 c.elements_of-m.result (rw (count_is (elements_of (handles c.args.over)) c.elements_of-m.ensures c.requires.0.1) c.requires.1.1)))

pub slice_bounds-told_in_front-end-6 : goal.slice_bounds-told_in_front-end-6
slice_bounds-told_in_front-end-6 c = (maps_outw (length c.args.table.now) c.args.start (length c.args.work.now) (length c.args.inn.now) (length c.args.outw.now) c.args.room 8 (elements_of (handles c.args.over)) c.requires.1.1)

pub slice_bounds-told_in_front-end-7 : goal.slice_bounds-told_in_front-end-7
slice_bounds-told_in_front-end-7 c = sym (length-take-le _ c.args.outw.now (maps_outw (length c.args.table.now) c.args.start (length c.args.work.now) (length c.args.inn.now) (length c.args.outw.now) c.args.room 8 (elements_of (handles c.args.over)) c.requires.1.1))

pub told_in_front-p-requires : goal.told_in_front-p-requires
told_in_front-p-requires c = (((c.requires.0.0, (let d = c.requires.0.1 in omega arith)), (let a = length-take-le c.elements_of-m.result c.args.inn.now (maps_inn (length c.args.table.now) c.args.start (length c.args.work.now) (length c.args.inn.now) (length c.args.outw.now) c.args.room 8 c.elements_of-m.result (rw (count_is (elements_of (handles c.args.over)) c.elements_of-m.ensures c.requires.0.1) c.requires.1.1)) in let b = (count_is (elements_of (handles c.args.over)) c.elements_of-m.ensures c.requires.0.1) in let d = c.requires.0.1 in omega arith)), front_lent (length c.args.table.now) c.args.start c.args.work.now c.args.room (maps_lent (length c.args.table.now) c.args.start (length c.args.work.now) (length c.args.inn.now) (length c.args.outw.now) c.args.room 8 (elements_of (handles c.args.over)) c.requires.1.1) c.work_need-need.ensures)

pub returns : goal.returns
returns c = told_built c.args.from.now c.args.over c.args.members.now c.args.table.now c.args.start c.args.work.now c.args.inn.now c.args.outw.now c.args.room (count_is (elements_of (handles c.args.over)) c.elements_of-m.ensures c.requires.0.1) (rw (count_is (elements_of (handles c.args.over)) c.elements_of-m.ensures c.requires.0.1) c.requires.1.1) (rw (count_is (elements_of (handles c.args.over)) c.elements_of-m.ensures c.requires.0.1) c.requires.1.0) c.stretch_end-end.ensures c.work_need-need.ensures refl c.made.ensures c.subgroup_of.ensures c.told_in_front-p.ensures.1 c.told_in_front-p.ensures.0
