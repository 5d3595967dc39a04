-- 1, then 4; then the build, put back into its stretches.
use lib.ListN.{length}
use mathlib.Core.Path.{refl, sym, ◌∙◌, ap}
use Rattle.group_handles.specs.declared.inner.Seen.{Seen}
use native.Mathlib.Omega.{arith}
use borrow.Author.Tests.{leb-true}
use lib.Seq.{length-take-le}
use Rattle.build_lending.proofs.Lending.{lent_table_lem, lent_enough}
use Rattle.group_handles.specs.Handles.{handles}
use Rattle.group_flatten.proofs.Flats.{flat_generators, flat_short, flat_built}
use Rattle.group_flatten.proofs.inner.flat_into.Goals as goal

pub returns-then-k-gt8 : goal.returns-then-k-gt8
returns-then-k-gt8 c = flat_generators c.args.from.now (handles c.args.g) c.args.table.now c.args.start c.args.work.now c.args.room (ap (λ (s : Seen). s.generators) c.look-k.ensures.0) c.if-k-gt8.true refl

pub overflow_cast-n : goal.overflow_cast-n
overflow_cast-n c = omega (arith, c.if-k-gt8.false)

pub returns-then-not-lent_right : goal.returns-then-not-lent_right
returns-then-not-lent_right c = flat_short c.args.from.now (handles c.args.g) c.args.table.now c.args.start c.args.work.now c.args.room (ap (λ (s : Seen). s.generators) c.look-k.ensures.0) (omega (arith, c.if-k-gt8.false)) c.if-k-gt8.false (sym c.lent_right.ensures ∙ c.if-not-lent_right.true) refl

pub stretch_end-end-requires : goal.stretch_end-end-requires
stretch_end-end-requires c = lent_table_lem _ _ _ _ _ (sym c.lent_right.ensures ∙ c.if-not-lent_right.false)

pub slice_bounds-flat_in-end-2 : goal.slice_bounds-flat_in-end-2
slice_bounds-flat_in-end-2 c = rw c.work_need-need.ensures (leb-true _ _ (lent_enough (length c.args.table.now) _ (length c.args.work.now) _ _ (sym c.lent_right.ensures ∙ c.if-not-lent_right.false)))

pub slice_bounds-flat_in-end-3 : goal.slice_bounds-flat_in-end-3
slice_bounds-flat_in-end-3 c = sym (length-take-le _ c.args.work.now (rw c.work_need-need.ensures (leb-true _ _ (lent_enough (length c.args.table.now) _ (length c.args.work.now) _ _ (sym c.lent_right.ensures ∙ c.if-not-lent_right.false)))))

pub flat_in-count-requires : goal.flat_in-count-requires
flat_in-count-requires c = c.requires

pub returns : goal.returns
returns c = flat_built c.args.from.now (handles c.args.g) c.args.table.now c.args.start c.args.work.now c.args.room (ap (λ (s : Seen). s.generators) c.look-k.ensures.0) (omega (arith, c.if-k-gt8.false)) c.if-k-gt8.false (sym c.lent_right.ensures ∙ c.if-not-lent_right.false) c.stretch_end-end.ensures c.work_need-need.ensures c.made.ensures c.flat_in-count.ensures
