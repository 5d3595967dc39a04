-- One law for each answer.
use mathlib.Core.Path.{refl, sym, ap, ◌∙◌}
use Rattle.std.specs.Prelude.{Err}
use native.Mathlib.Omega.{arith}
use Rattle.egg.proofs.Refusing.{handed_on}
use Rattle.image.proofs.Heads.{right_number, bad_answer}
use Rattle.image.proofs.Needs.{need_bad, need_out_of_reach, need_count, need_fits}
use Rattle.image.proofs.need.Goals as goal

pub returns-in_err-head : goal.returns-in_err-head
returns-in_err-head c = let b = bad_answer c.args.image.now (sym c.head.ensures ∙ c.in_err-head.was) in
    handed_on c.from_residual.ensures ∙ ap Err b.1 ∙ need_bad c.args.image.now refl b.0 refl

pub returns-then-out_of_reach : goal.returns-then-out_of_reach
returns-then-out_of_reach c = need_out_of_reach c.args.image.now (right_number c.args.image.now (sym c.head.ensures ∙ c.in_ok-head.was)) refl c.generators-n.ensures c.elements-count.ensures.at (sym c.out_of_reach.ensures ∙ c.if-out_of_reach.true) refl

pub overflow_cast-result : goal.overflow_cast-result
overflow_cast-result c = omega (arith, need_fits c.args.image.now (right_number c.args.image.now (sym c.head.ensures ∙ c.in_ok-head.was)) refl c.generators-n.ensures c.elements-count.ensures.at (omega (arith, c.elements-count.ensures.small)), c.bytes_need.ensures)

pub returns : goal.returns
returns c = need_count c.args.image.now (right_number c.args.image.now (sym c.head.ensures ∙ c.in_ok-head.was)) refl c.generators-n.ensures c.elements-count.ensures.at (sym c.out_of_reach.ensures ∙ c.if-out_of_reach.false) c.bytes_need.ensures
