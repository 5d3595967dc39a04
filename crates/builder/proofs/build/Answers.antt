-- One law for each answer; both stretches stand in their buffers by `build_back`.
use mathlib.Core.Path.{sym, ◌∙◌}
use lib.ListN.{length}
use lib.Seq.{length-take-le}
use Rattle.egg.proofs.Rooms.{has}
use Rattle.builder.proofs.Calls.{builds_handle, builds_short, builds_done, work_copies}
use Rattle.builder.proofs.build.Goals as goal

pub returns-then-not-fits : goal.returns-then-not-fits
returns-then-not-fits c = let a = c.args in
    builds_handle a.table.now a.b a.work.now (sym c.fits.ensures ∙ c.if-not-fits.true)

pub returns-then-work-need : goal.returns-then-work-need
returns-then-work-need c = let a = c.args in
    builds_short a.table.now a.b a.work.now (sym c.fits.ensures ∙ c.if-not-fits.false) c.work_need-need.ensures c.if-work-need.true

pub stretch_end-end-requires : goal.stretch_end-end-requires
stretch_end-end-requires c = let a = c.args in
    has (length a.table.now) a.b.0 (sym c.fits.ensures ∙ c.if-not-fits.false)

pub slice_bounds-complete-end-3 : goal.slice_bounds-complete-end-3
slice_bounds-complete-end-3 c = sym (length-take-le _ c.args.work.now c.if-work-need.false)

pub complete-count-requires : goal.complete-count-requires
complete-count-requires c = let a = c.args in
    work_copies (length a.table.now) a.b.0 a.work.now (sym c.fits.ensures ∙ c.if-not-fits.false) c.work_need-need.ensures c.if-work-need.false

pub returns : goal.returns
returns c = let a = c.args in
    builds_done a.table.now a.b a.work.now (sym c.fits.ensures ∙ c.if-not-fits.false) c.work_need-need.ensures c.if-work-need.false c.stretch_end-end.ensures c.complete-count.ensures c.made.ensures
