-- One law for each answer; both stretches stand in their buffers by `read_built`.
use mathlib.Core.Path.{refl, sym, ap, ◌∙◌}
use Rattle.std.specs.Prelude.{Err}
use borrow.Author.Tests.{leb-true}
use native.Mathlib.Omega.{arith}
use lib.ListN.{length}
use lib.Seq.{length-take-le}
use Rattle.build_lending.proofs.Lending.{lent_table_lem, lent_enough}
use Rattle.egg.proofs.Refusing.{handed_on}
use Rattle.image.proofs.Heads.{right_number, bad_answer}
use Rattle.image.proofs.ReadLaws.{whole_image, read_bad, read_short, read_built}
use Rattle.image.proofs.read.Goals as goal

pub returns-in_err-head : goal.returns-in_err-head
returns-in_err-head c = let b = bad_answer c.args.image.now (sym c.head.ensures ∙ c.in_err-head.was) in
    rw (handed_on c.from_residual.ensures) (read_bad c.args.image.now c.args.table.now c.args.start c.args.work.now refl b.0 refl (ap Err b.1))

pub returns-then-not-lent_right : goal.returns-then-not-lent_right
returns-then-not-lent_right c = read_short c.args.image.now c.args.table.now c.args.start c.args.work.now (right_number c.args.image.now (sym c.head.ensures ∙ c.in_ok-head.was)) refl c.generators-n.ensures c.elements-count.ensures.at (sym c.lent_right.ensures ∙ c.if-not-lent_right.true) refl

pub stretch_end-end-requires : goal.stretch_end-end-requires
stretch_end-end-requires c = lent_table_lem _ _ _ _ _ (sym c.lent_right.ensures ∙ c.if-not-lent_right.false)

pub slice_bounds-read_in-end-2 : goal.slice_bounds-read_in-end-2
slice_bounds-read_in-end-2 c = rw c.work_need-need.ensures (leb-true _ _ (lent_enough (length c.args.table.now) _ (length c.args.work.now) _ _ (sym c.lent_right.ensures ∙ c.if-not-lent_right.false)))

pub slice_bounds-read_in-end-3 : goal.slice_bounds-read_in-end-3
slice_bounds-read_in-end-3 c = sym (length-take-le _ c.args.work.now (rw c.work_need-need.ensures (leb-true _ _ (lent_enough (length c.args.table.now) _ (length c.args.work.now) _ _ (sym c.lent_right.ensures ∙ c.if-not-lent_right.false)))))

pub slice_bounds-read_in-count-2 : goal.slice_bounds-read_in-count-2
slice_bounds-read_in-count-2 c = omega (arith, whole_image c.args.image.now (right_number c.args.image.now (sym c.head.ensures ∙ c.in_ok-head.was)) refl)

pub slice_bounds-read_in-start-2 : goal.slice_bounds-read_in-start-2
slice_bounds-read_in-start-2 c = omega (arith, whole_image c.args.image.now (right_number c.args.image.now (sym c.head.ensures ∙ c.in_ok-head.was)) refl)

pub returns : goal.returns
returns c = read_built c.args.image.now c.args.table.now c.args.start c.args.work.now (right_number c.args.image.now (sym c.head.ensures ∙ c.in_ok-head.was)) refl c.generators-n.ensures c.elements-count.ensures.at (sym c.lent_right.ensures ∙ c.if-not-lent_right.false) c.stretch_end-end.ensures c.work_need-need.ensures c.made.ensures c.read_in-made.ensures
