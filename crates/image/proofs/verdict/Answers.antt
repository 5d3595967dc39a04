-- One law for each answer. The work is lent in one part, with the table in its front; what the whole gives is `whole_verdict` and `whole_work`.
use mathlib.Core.Path.{refl, sym, ap, ◌∙◌}
use Rattle.std.specs.Prelude.{Err}
use native.Mathlib.Omega.{arith}
use lib.Seq.{length-take-le}
use Rattle.image_check.proofs.Parts.{front_count}
use Rattle.egg.proofs.Refusing.{handed_on}
use Rattle.image.proofs.Heads.{right_number, bad_answer}
use Rattle.image.proofs.Checking.{bad_head, short_work, image_whole, table_lent, whole_verdict, whole_work}
use Rattle.image.proofs.verdict.Goals as goal

pub returns-in_err-head : goal.returns-in_err-head
returns-in_err-head c = let b = bad_answer c.args.image.now (sym c.head.ensures ∙ c.in_err-head.was) in
    rw (handed_on c.from_residual.ensures) (bad_head c.args.image.now c.args.work.now refl b.0 refl (ap Err b.1))

pub returns-then-work-need : goal.returns-then-work-need
returns-then-work-need c = short_work c.args.image.now c.args.work.now (right_number c.args.image.now (sym c.head.ensures ∙ c.in_ok-head.was)) refl c.generators-n.ensures c.elements-count.ensures.at c.bytes_need-need.ensures c.if-work-need.true refl

pub slice_bounds-judge-end-2 : goal.slice_bounds-judge-end-2
slice_bounds-judge-end-2 c = sym (length-take-le c.bytes_need-need.result c.args.work.now c.if-work-need.false)

pub slice_bounds-judge-count : goal.slice_bounds-judge-count
slice_bounds-judge-count c = omega (arith, image_whole c.args.image.now c.args.work.now (right_number c.args.image.now (sym c.head.ensures ∙ c.in_ok-head.was)) refl c.generators-n.ensures c.elements-count.ensures.at c.bytes_need-need.ensures)

pub slice_bounds-judge-start : goal.slice_bounds-judge-start
slice_bounds-judge-start c = omega (arith, image_whole c.args.image.now c.args.work.now (right_number c.args.image.now (sym c.head.ensures ∙ c.in_ok-head.was)) refl c.generators-n.ensures c.elements-count.ensures.at c.bytes_need-need.ensures)

pub judge-v-requires : goal.judge-v-requires
judge-v-requires c = table_lent c.args.image.now c.args.work.now (right_number c.args.image.now (sym c.head.ensures ∙ c.in_ok-head.was)) refl c.generators-n.ensures c.elements-count.ensures.at c.bytes_need-need.ensures c.table_bytes.ensures c.if-work-need.false

pub slice_bounds-clear-end-2 : goal.slice_bounds-clear-end-2
slice_bounds-clear-end-2 c = front_count c.args.work.now c.bytes_need-need.result c.if-work-need.false c.judge-v.new.b c.judge-v.auto.b

pub returns : goal.returns
returns c = (whole_verdict c.args.image.now c.args.work.now (right_number c.args.image.now (sym c.head.ensures ∙ c.in_ok-head.was)) refl c.generators-n.ensures c.elements-count.ensures.at c.bytes_need-need.ensures c.table_bytes.ensures c.if-work-need.false c.elements-count.ensures.small c.judge-v.ensures, whole_work c.args.image.now c.args.work.now (right_number c.args.image.now (sym c.head.ensures ∙ c.in_ok-head.was)) refl c.generators-n.ensures c.elements-count.ensures.at c.bytes_need-need.ensures c.table_bytes.ensures c.if-work-need.false c.judge-v.new.b c.clear.new.s c.judge-v.auto.b c.clear.ensures)
